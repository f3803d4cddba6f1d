-- reading a snapshot from left to right: the parts of its state, or the first fault that is met
use Rattle.std.specs.Prelude.{◌≡◌, ℕ, zero, suc, ◌+◌, ◌-◌, ◌==◌, Bool, true, false, not, ◌&&◌, ◌||◌, nat_eq, nat_le, nat_lt, List, [], ◌∷◌, map, length, Option, Some, None, Result, Ok, Err}
use Rattle.std.specs.List.{list_any}
use Rattle.std.specs.Str.{bytes_eq}
use Rattle.std.specs.Int.{w8, w32, w64}
use Rattle.std.specs.Ordering.{is_lt, nat_cmp}
use Rattle.std.specs.Cmp.Lexicographic.{slice_cmp}
use Rattle.finite_map.specs.FiniteMap.{empty, get, len}
use Rattle.wsrep_base.specs.declared.ids.TrxId.{TrxId}
use Rattle.wsrep_base.specs.Trx.{trx_cmp}
use Rattle.wsrep_base.specs.StateId.{nil_id}
use Rattle.wsrep_base.specs.declared.limits.TheConstants.{MOST_EVENTS}
use Rattle.key_sets.specs.declared.kind.Kind.{Kind}
use Rattle.key_sets.specs.declared.parts.Parts.{Parts}
use Rattle.key_sets.specs.Keys.{Keys, LIMIT, with_key, with_keys}
use Rattle.row_model.specs.declared.row.RowId.{RowId}
use Rattle.row_model.specs.declared.row.RowItem.{RowItem}
use Rattle.row_model.specs.declared.ops.Op.{Op}
use Rattle.row_model.specs.Rows.{row_cmp}
use Rattle.write_set.specs.declared.fault.WsFault.{WsFault}
use Rattle.write_set.specs.declared.fault.WsFault.TheVariants as part
use Rattle.write_set.specs.declared.names.NameRole.TheVariants as role
use Rattle.write_set.specs.Rules.{is_exclusive, is_update_kind, row_parts, table_parts}
use Rattle.write_set.specs.declared.rules.TheConstants.{MOST_OPS}
use Rattle.write_set.specs.Place.{Place, place_in}
use Rattle.write_set.specs.Reading.{◌>>=◌, Read, refuse, bytes_at, number_at, many_at, name_at, key_at, is_above, keys_at, values_at, op_body_at}
use Rattle.cert_meaning.specs.declared.items.CommitItem.{CommitItem}
use Rattle.cert_meaning.specs.declared.items.Fragment.{Fragment}
use Rattle.cert_meaning.specs.declared.parts.MemberItem.{MemberItem}
use Rattle.cert_meaning.specs.declared.parts.OpenItem.{OpenItem}
use Rattle.cert_meaning.specs.declared.parts.StateParts.{StateParts}
use Rattle.cert_meaning.specs.State.{FoldState}
use Rattle.cert_meaning.specs.Parts.{state_of}
use Rattle.state_snapshot.specs.declared.head.Head.{Head}
use Rattle.state_snapshot.specs.declared.members.MembersSoFar.{MembersSoFar}
use Rattle.state_snapshot.specs.declared.fault.SnapFault.{SnapFault}
use Rattle.state_snapshot.specs.declared.fault.SnapFault.TheVariants.{Short, Trailing, NotCanonical, NoMemory}

-- so many items, one behind the other; each is read in the light of those before it
unfoldable pub each_at : {A S : Type 0} → (S → Place → Read (A × S)) → ℕ → S → Place → Read (List A)
each_at one_at zero so_far p = Ok ([], p)
each_at one_at (suc n) so_far p = do
  one ← one_at so_far p
  others ← each_at one_at n one.0.1 one.1
  Ok (one.0.0 ∷ others.0, others.1)

-- the mark of a snapshot, the version of the format, the id of the state, and the state's numbers
unfoldable pub head_at : Place → Read Head
head_at p = do
  mark ← number_at w8 p
  is_snapshot ← refuse (not (mark.0 == 83)) (part.NotCanonical p.at)
  form ← number_at w8 mark.1
  known ← refuse (not (form.0 == 1)) (part.NotCanonical mark.1.at)
  id ← bytes_at 16 form.1
  given ← refuse (bytes_eq id.0 nil_id) (part.NotCanonical form.1.at)
  number ← number_at w64 id.1
  few ← refuse (nat_lt MOST_EVENTS number.0) (part.NotCanonical id.1.at)
  floor ← number_at w64 number.1
  within ← refuse (nat_lt number.0 floor.0) (part.NotCanonical number.1.at)
  version ← number_at w32 floor.1
  Ok (record { id = id.0; number = number.0; floor = floor.0; version = version.0 }, version.1)

-- what is known before the first of so many members
abbrev pub no_members : ℕ → MembersSoFar
no_members count = record { left = count; least = 0; reached = false }

-- a report is between the floor and the number of the state, and the last one makes the floor the
-- least
abbrev pub report_fits : Head → MembersSoFar → ℕ → Bool
report_fits head so_far report =
    nat_le head.floor report && nat_le report head.number
    && (nat_lt 1 so_far.left || so_far.reached || (report == head.floor))

abbrev pub with_member : Head → MembersSoFar → MemberItem → MembersSoFar
with_member head so_far item = record {
  left = so_far.left - 1;
  least = item.member + 1;
  reached = so_far.reached || (item.report == head.floor);
}

unfoldable pub member_at : Head → MembersSoFar → Place → Read (MemberItem × MembersSoFar)
member_at head so_far p = do
  member ← number_at w32 p
  rising ← refuse (nat_lt member.0 so_far.least) (part.NotCanonical p.at)
  report ← number_at w64 member.1
  fits ← refuse (not (report_fits head so_far report.0)) (part.NotCanonical member.1.at)
  serial ← number_at w64 report.1
  let item : MemberItem = record { member = member.0; report = report.0; serial = serial.0 } in
      Ok ((item, with_member head so_far item), serial.1)

unfoldable pub members_at : Head → Place → Read (List MemberItem)
members_at head p = do
  count ← number_at w32 p
  each_at (member_at head) count.0 (no_members count.0) count.1

-- whether a table stands before that of the last row
abbrev pub is_table_below : Option RowId → List ℕ → Bool
is_table_below None table = false
is_table_below (Some last) table = is_lt (slice_cmp nat_cmp table last.table)

-- whether a row stands behind the last one
abbrev pub is_row_above : Option RowId → RowId → Bool
is_row_above None id = true
is_row_above (Some last) id = is_lt (row_cmp last id)

unfoldable pub row_at : Option RowId → Place → Read (RowItem × Option RowId)
row_at last p = do
  table ← name_at role.ChangeTable p
  not_below ← refuse (is_table_below last table.0) (part.NotCanonical p.at)
  row ← name_at role.ChangeRow table.1
  let id : RowId = record { table = table.0; row = row.0 } in do
    rising ← refuse (not (is_row_above last id)) (part.NotCanonical table.1.at)
    values ← values_at row.1
    Ok ((record { id = id; row = values.0 }, Some id), values.1)

unfoldable pub rows_at : Place → Read (List RowItem)
rows_at p = do
  count ← number_at w32 p
  each_at row_at count.0 None count.1

-- a commit's number is above that of the last one, and at most that of the state
unfoldable pub commit_at : ℕ → ℕ → Place → Read (CommitItem × ℕ)
commit_at most last p = do
  number ← number_at w64 p
  rising ← refuse (nat_le number.0 last || nat_lt most number.0) (part.NotCanonical p.at)
  member ← number_at w32 number.1
  begin ← number_at w64 member.1
  keys ← keys_at begin.1
  let trx : TrxId = record { member = member.0; begin = begin.0 } in
      Ok ((record { number = number.0; trx = trx; keys = keys.0 }, number.0), keys.1)

unfoldable pub commits_at : Head → Place → Read (List CommitItem)
commits_at head p = do
  count ← number_at w32 p
  each_at (commit_at head.number) count.0 head.floor count.1

-- the key of a fragment comes behind the one before it, and the keys of the transaction stay few
unfoldable pub whole_key_at
    : Option Parts × Keys → Place → Read ((Parts × Kind) × (Option Parts × Keys))
whole_key_at so_far p = do
  key ← key_at p
  rising ← refuse (not (is_above so_far.0 key.0.0)) (part.NotCanonical p.at)
  few ← refuse (nat_lt LIMIT (len (with_key so_far.1 key.0.0 key.0.1))) (part.NotCanonical p.at)
  Ok ((key.0, (Some key.0.0, with_key so_far.1 key.0.0 key.0.1)), key.1)

-- the keys that are read, added to two sets
abbrev pub with_both : Keys → Keys → Read (List (Parts × Kind)) → Read (Keys × Keys)
with_both keys whole (Ok more) = Ok ((with_keys keys more.0, with_keys whole more.0), more.1)
with_both keys whole (Err fault) = Err fault

-- the keys of a fragment, and those of its transaction up to this fragment
unfoldable pub whole_keys_at : Keys → Place → Read (Keys × Keys)
whole_keys_at whole p = do
  count ← number_at w32 p
  few ← refuse (nat_lt LIMIT count.0) (part.TooMany p.at)
  with_both empty whole (each_at whole_key_at count.0 (None, whole) count.1)

-- whether a key covers a change of the row
abbrev pub covers : Keys → Bool → RowId → Bool
covers keys update id =
    is_exclusive (get keys (row_parts id))
    || (update && is_update_kind (get keys (row_parts id)))
    || is_exclusive (get keys (table_parts id))

-- a change that a key covers
unfoldable pub covered_op_at : Keys → Place → Read Op
covered_op_at keys p = do
  tag ← number_at w8 p
  known ← refuse (tag.0 == 0 || nat_lt 3 tag.0) (part.BadChange p.at)
  table ← name_at role.ChangeTable tag.1
  row ← name_at role.ChangeRow table.1
  let id : RowId = record { table = table.0; row = row.0 } in do
    covered ← refuse (not (covers keys (tag.0 == 2) id)) (part.NotCanonical table.1.at)
    op_body_at tag.0 id row.1

unfoldable pub covered_ops_at : Keys → Place → Read (List Op)
covered_ops_at keys p = do
  count ← number_at w32 p
  few ← refuse (nat_lt MOST_OPS count.0) (part.TooMany p.at)
  many_at (covered_op_at keys) count.0 count.1

-- of a transaction's fragments: the least number of the next, the last seen of the last, and all
-- keys
pub record FragmentsSoFar : Type 0 where
  pub least : ℕ
  pub last_seen : ℕ
  pub whole : Keys

abbrev pub no_fragments : FragmentsSoFar
no_fragments = record { least = 0; last_seen = 0; whole = empty }

abbrev pub with_fragment : Fragment → Keys → FragmentsSoFar
with_fragment fragment whole = record {
  least = fragment.number + 1;
  last_seen = fragment.last_seen;
  whole = whole;
}

unfoldable pub fragment_at : ℕ → FragmentsSoFar → Place → Read (Fragment × FragmentsSoFar)
fragment_at most so_far p = do
  number ← number_at w64 p
  rising ← refuse (nat_lt number.0 so_far.least || nat_lt most number.0) (part.NotCanonical p.at)
  seen ← number_at w64 number.1
  fits ←
      refuse (nat_le number.0 seen.0 || nat_lt seen.0 so_far.last_seen)
      (part.NotCanonical number.1.at)
  keys ← whole_keys_at so_far.whole seen.1
  ops ← covered_ops_at keys.0.0 keys.1
  let fragment : Fragment =
      record { number = number.0; last_seen = seen.0; keys = keys.0.0; ops = ops.0 } in
      Ok ((fragment, with_fragment fragment keys.0.1), ops.1)

unfoldable pub fragments_at : ℕ → Place → Read (List Fragment)
fragments_at most p = do
  count ← number_at w32 p
  some ← refuse (count.0 == 0) (part.NotCanonical p.at)
  each_at (fragment_at most) count.0 no_fragments count.1

abbrev pub is_listed : List MemberItem → ℕ → Bool
is_listed members member =
    list_any (nat_eq member) (map (λ (item : MemberItem). item.member) members)

-- whether a transaction's member is that of the last one, or behind it
abbrev pub is_member_from : Option TrxId → ℕ → Bool
is_member_from None member = true
is_member_from (Some last) member = nat_le last.member member

abbrev pub is_trx_above : Option TrxId → TrxId → Bool
is_trx_above None trx = true
is_trx_above (Some last) trx = is_lt (trx_cmp last trx)

unfoldable pub open_at : ℕ → List MemberItem → Option TrxId → Place → Read (OpenItem × Option TrxId)
open_at most members last p = do
  member ← number_at w32 p
  known ←
      refuse (not (is_listed members member.0 && is_member_from last member.0))
      (part.NotCanonical p.at)
  begin ← number_at w64 member.1
  let trx : TrxId = record { member = member.0; begin = begin.0 } in do
    rising ← refuse (not (is_trx_above last trx)) (part.NotCanonical member.1.at)
    fragments ← fragments_at most begin.1
    Ok ((record { trx = trx; fragments = fragments.0 }, Some trx), fragments.1)

unfoldable pub open_trx_at : ℕ → List MemberItem → Place → Read (List OpenItem)
open_trx_at most members p = do
  count ← number_at w32 p
  each_at (open_at most members) count.0 None count.1

abbrev pub state_parts
    : Head → List MemberItem → List RowItem → List CommitItem → List OpenItem → StateParts
state_parts head members rows commits open_trx = record {
  number = head.number;
  floor = head.floor;
  version = head.version;
  members = members;
  rows = rows;
  commits = commits;
  open_trx = open_trx;
}

-- the parts of the state and its id that all the bytes spell, or the first fault
unfoldable pub read : List ℕ → Result (StateParts × List ℕ) WsFault
read bytes = do
  head ← head_at (place_in bytes 0)
  members ← members_at head.0 head.1
  rows ← rows_at members.1
  commits ← commits_at head.0 rows.1
  opened ← open_trx_at head.0.number members.0 commits.1
  ended ← refuse (not (length opened.1.left == 0)) (part.Trailing opened.1.at)
  Ok (state_parts head.0 members.0 rows.0 commits.0 opened.0, head.0.id)

-- whether the fault is met in a part of a snapshot: three are of whole write sets alone
abbrev pub is_met : WsFault → Bool
is_met (part.Short at) = true
is_met (part.BadVersion byte) = false
is_met part.BadFlags = false
is_met (part.TooMany at) = true
is_met (part.BadKey at) = true
is_met (part.BadKind at) = true
is_met (part.NotCanonical at) = true
is_met (part.BadChange at) = true
is_met (part.Trailing at) = true
is_met (part.Uncovered index) = false
is_met part.NoMemory = true

-- the fault of a snapshot, by that of its part; the last three are met in no part
abbrev pub fault_of : WsFault → SnapFault
fault_of (part.Short at) = Short at
fault_of (part.Trailing at) = Trailing at
fault_of (part.TooMany at) = NotCanonical at
fault_of (part.BadKey at) = NotCanonical at
fault_of (part.BadKind at) = NotCanonical at
fault_of (part.NotCanonical at) = NotCanonical at
fault_of (part.BadChange at) = NotCanonical at
fault_of part.NoMemory = NoMemory
fault_of (part.BadVersion byte) = NotCanonical 0
fault_of part.BadFlags = NotCanonical 0
fault_of (part.Uncovered index) = NotCanonical 0

abbrev pub installed_by
    : Result (StateParts × List ℕ) WsFault → Result (FoldState × List ℕ) SnapFault
installed_by (Ok x) = Ok (state_of x.0, x.1)
installed_by (Err fault) = Err (fault_of fault)

-- the state and its id that all the bytes spell, or the first fault
abbrev pub installed : List ℕ → Result (FoldState × List ℕ) SnapFault
installed bytes = installed_by (read bytes)

-- what a function returned, seen by a view, is what is read, unless memory ran out
abbrev pub Fails : {Y : Type 0} → SnapFault → Result Y SnapFault → Type 0
Fails NoMemory reading = Unit {0}
Fails fault reading = reading ≡ Err fault

abbrev pub Gives : {X Y : Type 0} → (X → Y) → Result X SnapFault → Result Y SnapFault → Type 0
Gives view (Ok x) reading = reading ≡ Ok (view x)
Gives view (Err fault) reading = Fails fault reading
