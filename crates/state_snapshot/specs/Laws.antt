-- what holds between the snapshot of a state and the reading of bytes
use Rattle.std.specs.Prelude.{◌≡◌, ℕ, ◌<◌, ◌≤◌, ◌^◌, List, length, slice_index, Ok}
use Rattle.std.specs.List.{AllByRecursion}
use Rattle.wsrep_base.specs.declared.ids.TrxId.{TrxId}
use Rattle.row_model.specs.declared.row.RowItem.{RowItem}
use Rattle.write_set.specs.Rules.{place_in_range, KeysInRange, OpsInRange}
use Rattle.cert_meaning.specs.declared.items.CommitItem.{CommitItem}
use Rattle.cert_meaning.specs.declared.items.Fragment.{Fragment}
use Rattle.cert_meaning.specs.declared.parts.MemberItem.{MemberItem}
use Rattle.cert_meaning.specs.declared.parts.OpenItem.{OpenItem}
use Rattle.cert_meaning.specs.declared.parts.StateParts.{StateParts}
use Rattle.cert_meaning.specs.State.{FoldState}
use Rattle.cert_meaning.specs.Parts.{parts_of, trim}
use Rattle.state_snapshot.specs.Rules.{Obeys, IsGiven}
use Rattle.state_snapshot.specs.Spelling.{snapshot_of}
use Rattle.state_snapshot.specs.Reading.{installed}

-- What is true of every value of the types, and has to be said where any number may stand.

abbrev pub MemberInRange : MemberItem → Type 0
MemberInRange item = (item.member < 2 ^ 32) × (item.report < 2 ^ 64) × (item.serial < 2 ^ 64)

abbrev pub RowInRange : RowItem → Type 0
RowInRange item =
    place_in_range item.id × (1 ≤ length item.row) × (length item.row ≤ 8)
    × AllByRecursion (λ value. value < 2 ^ 64) item.row

abbrev pub TrxInRange : TrxId → Type 0
TrxInRange trx = (trx.member < 2 ^ 32) × (trx.begin < 2 ^ 64)

abbrev pub CommitInRange : CommitItem → Type 0
CommitInRange commit = (commit.number < 2 ^ 64) × TrxInRange commit.trx × KeysInRange commit.keys

abbrev pub FragmentInRange : Fragment → Type 0
FragmentInRange fragment =
    (fragment.number < 2 ^ 64) × (fragment.last_seen < 2 ^ 64)
    × KeysInRange fragment.keys × OpsInRange fragment.ops

abbrev pub OpenInRange : OpenItem → Type 0
OpenInRange item = TrxInRange item.trx × AllByRecursion FragmentInRange item.fragments

pub record PartsInRange (parts : StateParts) : Type 0 where
  pub version : parts.version < 2 ^ 32
  pub members : AllByRecursion MemberInRange parts.members
  pub rows : AllByRecursion RowInRange parts.rows
  pub commits : AllByRecursion CommitInRange parts.commits
  pub open_trx : AllByRecursion OpenInRange parts.open_trx

-- the state is trimmed and meets the rules, and the bytes are its snapshot with the id
pub record IsSnapshot (bytes : List ℕ) (s : FoldState) (id : List ℕ) : Type 0 where
  pub trimmed : trim s ≡ s
  pub rules : Obeys (parts_of (trim s))
  pub range : PartsInRange (parts_of (trim s))
  pub given : IsGiven id
  pub spelled : bytes ≡ snapshot_of s id

-- the snapshot of a state whose trimmed form meets the rules is installed, and gives this form
abbrev pub SnapshotIsInstalled : Type 0
SnapshotIsInstalled =
    (s : FoldState) (id : List ℕ) → PartsInRange (parts_of (trim s)) → Obeys (parts_of (trim s))
    → length id ≡ 16 → IsGiven id → installed (snapshot_of s id) ≡ Ok (trim s, id)

-- no other bytes are installed
abbrev pub OnlySnapshotsAreInstalled : Type 0
OnlySnapshotsAreInstalled =
    (bytes : List ℕ) (s : FoldState) (id : List ℕ) → ((i : ℕ) → slice_index bytes i < 256)
    → installed bytes ≡ Ok (s, id) → IsSnapshot bytes s id
