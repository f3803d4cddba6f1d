use Rattle.std.proofs.Common.{◌≡◌, ◌++◌, map}
use Rattle.undo_rows.specs.RowTable.{item_of}
use Rattle.undo_rows.specs.RowLists.{listed}
use Rattle.undo_rows.proofs.RowListLemmas.{owned_row}
use Rattle.undo_rows.proofs.owned_rows.push_entries.Given as goal

-- the items so far, and those of the entries that are left
abbrev pub invariant-loop-id : goal.invariant-loop-id
invariant-loop-id l =
    l.items.items ++ map item_of (listed owned_row l.id-iterator)
    ≡ l.initial.items.items ++ map item_of (listed owned_row l.table.entries)
