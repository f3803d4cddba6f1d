-- Who has changed a row keeps its image.
use Rattle.std.proofs.Common.{sym, ◌∙◌, ap}
use Rattle.finite_map.specs.FiniteMap.{get}
use Rattle.undo_rows.specs.Overlay.{rows_in}
use Rattle.undo_rows.specs.RowTable.{RowTable, other_owner}
use Rattle.undo_rows.proofs.UndoLemmas.{get-changes_over, other-over}
use Rattle.undo_rows.proofs.undo.UndoRowsRows.write.Goals as goal

pub change_row-requires-clause-free : goal.change_row-requires-clause-free
change_row-requires-clause-free c =
    let place = rows_in c.self.inside.rows.entries in
    let images = c.self.inside.images.changes in
    sym (other-over c.args.owner (get images c.id-id.result) (get place c.id-id.result))
    ∙ ap (other_owner c.args.owner) (sym (get-changes_over place images c.id-id.result))
    ∙ ap (λ (t : RowTable). other_owner c.args.owner (get t.changes c.id-id.result)) c.self.view_is
    ∙ sym c.other_owner.ensures ∙ c.in_default.is
