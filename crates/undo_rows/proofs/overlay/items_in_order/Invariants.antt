use Rattle.std.proofs.Common.{◌≡◌, ◌++◌, map}
use Rattle.undo_rows.specs.RowTable.{item_of}
use Rattle.undo_rows.proofs.overlay.items_in_order.Given as goal

-- the items so far, and those of the entries that are left
abbrev pub invariant-loop-id : goal.invariant-loop-id
invariant-loop-id l = l.items.items ++ map item_of l.id-iterator ≡ map item_of l.rows.entries
