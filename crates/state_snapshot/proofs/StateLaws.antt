-- States: what is installed meets the rules and is spelled so, and what is taken is installed again.
use Rattle.std.proofs.Common.{◌≡◌, ℕ, ◌+◌, ◌<◌, ◌≤◌, cond, List, [], ◌∷◌, map, Some, None, Result, Ok, Err, refl, sym, ap, subst, ◌∙◌, arith}
use Rattle.std.specs.Prelude.{nat_lt, IfOk}
use Rattle.std.specs.List.{filter}
use Rattle.std.specs.Cmp.{nat_cmp_total}
use Rattle.std.proofs.lemmas.Bool.{lt-ltb}
use Rattle.finite_map.specs.FiniteMap.{from_entries}
use Rattle.wsrep_base.specs.declared.ids.TrxId.{TrxId}
use Rattle.row_model.specs.declared.row.RowId.{RowId}
use Rattle.row_model.specs.declared.row.RowItem.{RowItem}
use Rattle.row_model.specs.RowOrder.{row_total}
use Rattle.write_set.specs.declared.fault.WsFault.{WsFault}
use Rattle.wsrep_base.proofs.Fields.{IsBytes, ok_is}
use Rattle.cert_meaning.specs.declared.items.CommitItem.{CommitItem}
use Rattle.cert_meaning.specs.declared.items.Fragment.{Fragment}
use Rattle.cert_meaning.specs.State.{FoldState, RiseWithin}
use Rattle.cert_meaning.specs.declared.members.Standing.{Standing}
use Rattle.cert_meaning.specs.declared.parts.MemberItem.{MemberItem}
use Rattle.cert_meaning.specs.declared.parts.OpenItem.{OpenItem}
use Rattle.cert_meaning.specs.declared.parts.StateParts.{StateParts}
use Rattle.cert_meaning.specs.Parts.{member_item, member_entry, row_entry, open_item, open_entry, member_items, members_of, rows_of, open_items, open_of, parts_of, state_of, trim}
use Rattle.cert_meaning.proofs.TrxLemmas.{trx_total}
use Rattle.state_snapshot.specs.declared.fault.SnapFault.{SnapFault}
use Rattle.state_snapshot.specs.Reading.{Gives, read, installed_by, installed}
use Rattle.state_snapshot.specs.Rules.{MembersRise, RowsRise, OpenRise, Obeys}
use Rattle.state_snapshot.specs.Spelling.{spelling}
use Rattle.state_snapshot.specs.Laws.{PartsInRange, IsSnapshot, SnapshotIsInstalled, OnlySnapshotsAreInstalled}
use Rattle.state_snapshot.proofs.Sorted.{KeysRise, sorted_from, from_sorted, from_own, number_below}
use Rattle.state_snapshot.proofs.WholeLaws.{IsSpelled, read_takes, read_again}

-- ---- items and entries

items_again : (items : List MemberItem) → map member_item (map member_entry items) ≡ items
items_again [] = refl
items_again (item ∷ items) = ap (λ others. item ∷ others) (items_again items)

members_again : (entries : List (ℕ × Standing)) → map member_entry (map member_item entries) ≡ entries
members_again [] = refl
members_again (entry ∷ entries) = ap (λ others. entry ∷ others) (members_again entries)

abbrev pub row_item : RowId × List ℕ → RowItem
row_item entry = record { id = entry.0; row = entry.1 }

row_items_again : (items : List RowItem) → map row_item (map row_entry items) ≡ items
row_items_again [] = refl
row_items_again (item ∷ items) = ap (λ others. item ∷ others) (row_items_again items)

rows_again : (entries : List (RowId × List ℕ)) → map row_entry (map row_item entries) ≡ entries
rows_again [] = refl
rows_again (entry ∷ entries) = ap (λ others. entry ∷ others) (rows_again entries)

open_items_again : (items : List OpenItem) → map open_item (map open_entry items) ≡ items
open_items_again [] = refl
open_items_again (item ∷ items) = ap (λ others. item ∷ others) (open_items_again items)

open_again : (entries : List (TrxId × List Fragment)) → map open_entry (map open_item entries) ≡ entries
open_again [] = refl
open_again (entry ∷ entries) = ap (λ others. entry ∷ others) (open_again entries)

-- ---- items that rise are all entries of their map

members_above : (last from : ℕ) (items : List MemberItem) → last < from → MembersRise from items
    → KeysRise nat_cmp_total (Some last) (map member_entry items)
members_above last from [] below rise = tt
members_above last from (item ∷ items) below rise = (
  number_below last item.member (omega (arith, below, rise.0)),
  members_above item.member (item.member + 1) items (omega arith) rise.1,
)

members_rise : (from : ℕ) (items : List MemberItem) → MembersRise from items → KeysRise nat_cmp_total None (map member_entry items)
members_rise from [] rise = tt
members_rise from (item ∷ items) rise = members_above item.member (item.member + 1) items (omega arith) rise.1

rows_above : (last : RowId) (items : List RowItem) → RowsRise (Some last) items → KeysRise row_total (Some last) (map row_entry items)
rows_above last [] rise = tt
rows_above last (item ∷ items) rise = (rise.0, rows_above item.id items rise.1)

rows_rise : (items : List RowItem) → RowsRise None items → KeysRise row_total None (map row_entry items)
rows_rise [] rise = tt
rows_rise (item ∷ items) rise = rows_above item.id items rise.1

open_above : (last : TrxId) (items : List OpenItem) → OpenRise (Some last) items → KeysRise trx_total (Some last) (map open_entry items)
open_above last [] rise = tt
open_above last (item ∷ items) rise = (rise.0, open_above item.trx items rise.1)

open_rise : (items : List OpenItem) → OpenRise None items → KeysRise trx_total None (map open_entry items)
open_rise [] rise = tt
open_rise (item ∷ items) rise = open_above item.trx items rise.1

members_back : (items : List MemberItem) → MembersRise 0 items → member_items (members_of items) ≡ items
members_back items rise =
    ap (map member_item) (from_sorted nat_cmp_total (map member_entry items) (sorted_from nat_cmp_total (map member_entry items) (members_rise 0 items rise)))
    ∙ items_again items

rows_back : (items : List RowItem) → RowsRise None items → map row_item (rows_of items).entries ≡ items
rows_back items rise =
    ap (map row_item) (from_sorted row_total (map row_entry items) (sorted_from row_total (map row_entry items) (rows_rise items rise)))
    ∙ row_items_again items

open_back : (items : List OpenItem) → OpenRise None items → open_items (open_of items) ≡ items
open_back items rise =
    ap (map open_item) (from_sorted trx_total (map open_entry items) (sorted_from trx_total (map open_entry items) (open_rise items rise)))
    ∙ open_items_again items

-- parts that meet the rules are those of their state
parts_back : (parts : StateParts) → Obeys parts → parts_of (state_of parts) ≡ parts
parts_back parts rules =
    let members = rules.members in
    let rows = rules.rows in
    let one = members_back parts.members members.rise in
    let two = rows_back parts.rows rows.rise in
    let three = open_back parts.open_trx rules.open_rise in
    λ i. record {
      number = parts.number;
      floor = parts.floor;
      version = parts.version;
      members = one i;
      rows = two i;
      commits = parts.commits;
      open_trx = three i;
    }

-- a state is that of its parts
pub state_back : (s : FoldState) → state_of (parts_of s) ≡ s
state_back s =
    let members : members_of (member_items s.members) ≡ s.members =
    ap from_entries (members_again s.members.entries) ∙ from_own nat_cmp_total s.members in
    let rows : rows_of (map row_item s.rows.entries) ≡ s.rows = ap from_entries (rows_again s.rows.entries) ∙ from_own row_total s.rows in
    let opened : open_of (open_items s.open_trx) ≡ s.open_trx =
    ap from_entries (open_again s.open_trx.entries) ∙ from_own trx_total s.open_trx in
    λ i. record {
      number = s.number;
      floor = s.floor;
      version = s.version;
      members = members i;
      rows = rows i;
      commits = s.commits;
      open_trx = opened i;
    }

-- commits above the floor all stay
pub all_above : (floor above most : ℕ) (commits : List CommitItem) → floor ≤ above → RiseWithin above most commits
    → filter (λ (commit : CommitItem). nat_lt floor commit.number) commits ≡ commits
all_above floor above most [] low rise = refl
all_above floor above most (commit ∷ commits) low rise =
    let rest = filter (λ (other : CommitItem). nat_lt floor other.number) commits in
    ap (λ b. cond b (commit ∷ rest) rest) (lt-ltb floor commit.number (omega (arith, low, rise.0)))
    ∙ ap (λ others. commit ∷ others) (all_above floor commit.number most commits (omega (arith, low, rise.0)) rise.2)

trimmed_so : (parts : StateParts) → Obeys parts → trim (state_of parts) ≡ state_of parts
trimmed_so parts rules =
    let commits = rules.commits in
    let same = all_above parts.floor parts.floor parts.number parts.commits (omega arith) commits.rise in
    λ i. record (state_of parts) { commits = same i }

-- ---- both ways

installed_from : (r : Result (StateParts × List ℕ) WsFault) (y : FoldState × List ℕ) → installed_by r ≡ Ok y
    → (x : StateParts × List ℕ) × (r ≡ Ok x) × ((state_of x.0, x.1) ≡ y)
installed_from (Ok x) y e = (x, refl, ok_is (state_of x.0, x.1) y e)
installed_from (Err fault) y e = absurd cc

is_snapshot : (bytes : List ℕ) (parts : StateParts) (id : List ℕ) → IsSpelled bytes parts id → IsSnapshot bytes (state_of parts) id
is_snapshot bytes parts id is =
    let trimmed = trimmed_so parts is.rules in
    let back : parts ≡ parts_of (trim (state_of parts)) = sym (parts_back parts is.rules) ∙ ap parts_of (sym trimmed) in
    record {
      trimmed = trimmed;
      rules = subst Obeys back is.rules;
      range = subst PartsInRange back is.range;
      given = is.given;
      spelled = is.spelled ∙ ap (λ own. spelling own id) back;
    }

pub only_snapshots : OnlySnapshotsAreInstalled
only_snapshots bytes s id fits e =
    let x = installed_from (read bytes) (s, id) e in
    let parts = x.0.0 in
    subst (λ (y : FoldState × List ℕ). IsSnapshot bytes y.0 y.1) x.2 (is_snapshot bytes parts x.0.1 (read_takes bytes x.0 fits x.1))

pub snapshot_again : SnapshotIsInstalled
snapshot_again s id range rules long given =
    ap installed_by (read_again (parts_of (trim s)) id range rules long given) ∙ ap (λ state. Ok (state, id)) (state_back (trim s))

pub is_found : (bytes : List ℕ) (result : Result (FoldState × List ℕ) SnapFault) → IsBytes bytes
    → Gives (λ x. (x.0, x.1)) result (installed bytes) → IfOk result (λ x. IsSnapshot bytes x.0 x.1)
is_found bytes (Ok x) fits is = only_snapshots bytes x.0 x.1 fits is
is_found bytes (Err fault) fits is = tt
