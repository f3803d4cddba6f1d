-- a state as lists in their order, from which it is made again
use Rattle.std.specs.Prelude.{ℕ, List, map, nat_lt}
use Rattle.std.specs.List.{filter}
use Rattle.std.specs.Ordering.{nat_cmp}
use Rattle.finite_map.specs.FiniteMap.{FiniteMap, from_entries}
use Rattle.wsrep_base.specs.declared.ids.TrxId.{TrxId}
use Rattle.wsrep_base.specs.Trx.{trx_cmp}
use Rattle.row_model.specs.declared.row.RowId.{RowId}
use Rattle.row_model.specs.declared.row.RowItem.{RowItem}
use Rattle.row_model.specs.Rows.{Rows}
use Rattle.undo_rows.specs.RowTable.{row_items}
use Rattle.cert_meaning.specs.State.{FoldState, Standing, CommitItem, Fragment}
pub use Rattle.cert_meaning.specs.declared.parts.MemberItem.{MemberItem}
pub use Rattle.cert_meaning.specs.declared.parts.OpenItem.{OpenItem}
pub use Rattle.cert_meaning.specs.declared.parts.StateParts.{StateParts}

-- a member's item, from its entry
abbrev pub member_item : ℕ × Standing → MemberItem
member_item entry = record { member = entry.0; report = entry.1.report; serial = entry.1.serial }

-- a member's entry, from its item
abbrev pub member_entry : MemberItem → ℕ × Standing
member_entry item = (item.member, record { report = item.report; serial = item.serial })

abbrev pub row_entry : RowItem → RowId × List ℕ
row_entry item = (item.id, item.row)

abbrev pub open_item : TrxId × List Fragment → OpenItem
open_item entry = record { trx = entry.0; fragments = entry.1 }

abbrev pub open_entry : OpenItem → TrxId × List Fragment
open_entry item = (item.trx, item.fragments)

-- the members, ascending
abbrev pub member_items : FiniteMap nat_cmp Standing → List MemberItem
member_items members = map member_item members.entries

abbrev pub members_of : List MemberItem → FiniteMap nat_cmp Standing
members_of items = from_entries (map member_entry items)

abbrev pub rows_of : List RowItem → Rows
rows_of items = from_entries (map row_entry items)

-- the open transactions, by member and then by begin number
abbrev pub open_items : FiniteMap trx_cmp (List Fragment) → List OpenItem
open_items open_trx = map open_item open_trx.entries

abbrev pub open_of : List OpenItem → FiniteMap trx_cmp (List Fragment)
open_of items = from_entries (map open_entry items)

-- the parts of a state
abbrev pub parts_of : FoldState → StateParts
parts_of s = record {
  number = s.number;
  floor = s.floor;
  version = s.version;
  members = member_items s.members;
  rows = row_items s.rows;
  commits = s.commits;
  open_trx = open_items s.open_trx;
}

-- the state with these parts; of two items at one place the first counts
abbrev pub state_of : StateParts → FoldState
state_of parts = record {
  number = parts.number;
  floor = parts.floor;
  version = parts.version;
  members = members_of parts.members;
  rows = rows_of parts.rows;
  commits = parts.commits;
  open_trx = open_of parts.open_trx;
}

-- a state without the commits at or below its floor, against which no later write set is tested
abbrev pub trim : FoldState → FoldState
trim s =
    record s { commits = filter (λ (commit : CommitItem). nat_lt s.floor commit.number) s.commits }
