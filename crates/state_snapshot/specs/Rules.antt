-- the rules that the parts of a state meet, so that they have a spelling
use Rattle.std.specs.Prelude.{◌≡◌, ℕ, ◌+◌, ◌<◌, ◌≤◌, ◌^◌, not, List, [], ◌∷◌, length, map, Option, Some, None, unwrap_or, IsTrue}
use Rattle.std.specs.List.{AllByRecursion}
use Rattle.std.specs.Str.{bytes_eq}
use Rattle.finite_map.specs.FiniteMap.{len}
use Rattle.wsrep_base.specs.declared.ids.TrxId.{TrxId}
use Rattle.wsrep_base.specs.Trx.{least}
use Rattle.wsrep_base.specs.StateId.{nil_id}
use Rattle.wsrep_base.specs.declared.limits.TheConstants.{MOST_EVENTS}
use Rattle.key_sets.specs.Keys.{LIMIT}
use Rattle.row_model.specs.declared.row.RowId.{RowId}
use Rattle.row_model.specs.declared.row.RowItem.{RowItem}
use Rattle.write_set.specs.declared.rules.TheConstants.{MOST_OPS}
use Rattle.write_set.specs.Rules.{place_fits, uncovered_from}
use Rattle.write_set.specs.Laws.{AreKeys, AreOps}
use Rattle.cert_meaning.specs.declared.items.CommitItem.{CommitItem}
use Rattle.cert_meaning.specs.declared.items.Fragment.{Fragment}
use Rattle.cert_meaning.specs.declared.parts.MemberItem.{MemberItem}
use Rattle.cert_meaning.specs.declared.parts.OpenItem.{OpenItem}
use Rattle.cert_meaning.specs.declared.parts.StateParts.{StateParts}
use Rattle.cert_meaning.specs.State.{RiseWithin, fragment_keys}
use Rattle.state_snapshot.specs.Reading.{is_row_above, is_trx_above, is_listed}

-- so few that a count in four bytes says how many
abbrev pub AreCounted : {A : Type 0} → List A → Type 0
AreCounted items = length items < 2 ^ 32

-- the members strictly rise, from this number on
abbrev pub MembersRise : ℕ → List MemberItem → Type 0
MembersRise from [] = Unit {0}
MembersRise from (item ∷ items) = (from ≤ item.member) × MembersRise (item.member + 1) items

-- the least report; the floor where there is no member
abbrev pub least_report : List MemberItem → ℕ → ℕ
least_report items floor = unwrap_or (least (map (λ (item : MemberItem). item.report) items)) floor

-- the members of a state with this number and this floor
pub record MembersObey (number floor : ℕ) (items : List MemberItem) : Type 0 where
  pub counted : AreCounted items
  pub rise : MembersRise 0 items
  pub reported : AllByRecursion (λ (item : MemberItem). item.report ≤ number) items
  pub least : least_report items floor ≡ floor

-- the rows strictly rise, behind the one that there may be before them
abbrev pub RowsRise : Option RowId → List RowItem → Type 0
RowsRise last [] = Unit {0}
RowsRise last (item ∷ items) = IsTrue (is_row_above last item.id) × RowsRise (Some item.id) items

pub record RowsObey (items : List RowItem) : Type 0 where
  pub counted : AreCounted items
  pub rise : RowsRise None items
  pub named : AllByRecursion (λ (item : RowItem). IsTrue (place_fits item.id)) items

-- the commits of a state with this number and this floor
pub record CommitsObey (number floor : ℕ) (commits : List CommitItem) : Type 0 where
  pub counted : AreCounted commits
  pub rise : RiseWithin floor number commits
  pub keyed : AllByRecursion (λ (commit : CommitItem). AreKeys commit.keys) commits

-- the fragments strictly rise from one number up to another; what each has seen is less, and never
-- falls
abbrev pub FragmentsRise : ℕ → ℕ → ℕ → List Fragment → Type 0
FragmentsRise most from seen [] = Unit {0}
FragmentsRise most from seen (fragment ∷ fragments) =
    (from ≤ fragment.number) × (fragment.number ≤ most)
    × (seen ≤ fragment.last_seen) × (fragment.last_seen < fragment.number)
    × FragmentsRise most (fragment.number + 1) fragment.last_seen fragments

-- the keys and the changes of a fragment have their form, and the keys cover the changes
abbrev pub FragmentObeys : Fragment → Type 0
FragmentObeys fragment =
    AreKeys fragment.keys × AreOps fragment.ops
    × (uncovered_from 0 fragment.keys fragment.ops ≡ None)

-- an open transaction of a state with this number and these members
pub record OpenObeys (number : ℕ) (members : List MemberItem) (item : OpenItem) : Type 0 where
  pub listed : IsTrue (is_listed members item.trx.member)
  pub counted : AreCounted item.fragments
  pub some : 0 < length item.fragments
  pub rise : FragmentsRise number 0 0 item.fragments
  pub each : AllByRecursion FragmentObeys item.fragments
  -- all its keys are few
  pub few : len (fragment_keys item.fragments) ≤ LIMIT

-- the open transactions strictly rise, behind the one that there may be before them
abbrev pub OpenRise : Option TrxId → List OpenItem → Type 0
OpenRise last [] = Unit {0}
OpenRise last (item ∷ items) = IsTrue (is_trx_above last item.trx) × OpenRise (Some item.trx) items

-- all the rules
pub record Obeys (parts : StateParts) : Type 0 where
  pub number : parts.number ≤ MOST_EVENTS
  pub floor : parts.floor ≤ parts.number
  pub members : MembersObey parts.number parts.floor parts.members
  pub rows : RowsObey parts.rows
  pub commits : CommitsObey parts.number parts.floor parts.commits
  pub open_counted : AreCounted parts.open_trx
  pub open_rise : OpenRise None parts.open_trx
  pub open_trx : AllByRecursion (OpenObeys parts.number parts.members) parts.open_trx

-- the id is not that of a node that joined fresh
abbrev pub IsGiven : List ℕ → Type 0
IsGiven id = IsTrue (not (bytes_eq id nil_id))

-- the fragments of an open transaction, and the changes of each, are so few that counts tell them
abbrev pub OpenIsCounted : OpenItem → Type 0
OpenIsCounted item =
    AreCounted item.fragments
    × AllByRecursion (λ (fragment : Fragment). length fragment.ops ≤ MOST_OPS) item.fragments
