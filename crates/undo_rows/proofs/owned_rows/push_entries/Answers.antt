-- Each entry's row is appended, where there is one.
use Rattle.std.proofs.Common.{List, ◌++◌, map, sym, ap, ◌∙◌, append-nil}
use Rattle.row_model.specs.declared.row.RowId.{RowId}
use Rattle.undo_rows.specs.RowTable.{item_of}
use Rattle.undo_rows.specs.RowLists.{listed}
use Rattle.undo_rows.specs.declared.owned_rows.OwnedRow.{OwnedRow}
use Rattle.undo_rows.proofs.RowListLemmas.{owned_row, owned-finds, appended}
use Rattle.undo_rows.proofs.owned_rows.push_entries.Goals as goal

pub returns : goal.returns
returns c =
    appended owned_row _ c.args.table.now.entries c.args.items.now.items _ c.into_iter-id-iterator.ensures.into_iter_gives.4
    (sym (append-nil c.loop-id.items.items)
    ∙ ap (λ (left : List (RowId × OwnedRow)). c.loop-id.items.items ++ map item_of (listed owned_row left)) (sym c.in-None.ensures.steps.0)
    ∙ c.loop-id.invariant)
    (owned-finds c.args.table.now.entries)
