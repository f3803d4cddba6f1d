-- Each row without an image is appended.
use Rattle.std.proofs.Common.{List, ◌++◌, map, ℕ, sym, ap, ◌∙◌, append-nil}
use Rattle.row_model.specs.declared.row.RowId.{RowId}
use Rattle.undo_rows.specs.RowTable.{Changes, item_of}
use Rattle.undo_rows.specs.RowLists.{listed}
use Rattle.undo_rows.proofs.RowListLemmas.{unchanged_row, unchanged-finds, appended}
use Rattle.undo_rows.proofs.undo.push_unchanged.Goals as goal

pub returns : goal.returns
returns c =
    let images : Changes = c.args.images.now.changes in
    appended (unchanged_row images) _ c.args.rows.now.entries c.args.items.now.items _ c.into_iter-id-iterator.ensures.into_iter_gives.4
    (sym (append-nil c.loop-id.items.items)
    ∙ ap (λ (left : List (RowId × List ℕ)). c.loop-id.items.items ++ map item_of (listed (unchanged_row images) left)) (sym c.in-None.ensures.steps.0)
    ∙ c.loop-id.invariant)
    (unchanged-finds images c.args.rows.now.entries)
