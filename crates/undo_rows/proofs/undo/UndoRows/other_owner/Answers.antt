-- The owner of an image is that of the change.
use Rattle.std.proofs.Common.{sym, ◌∙◌, ap}
use Rattle.finite_map.specs.FiniteMap.{get}
use Rattle.undo_rows.specs.Overlay.{rows_in}
use Rattle.undo_rows.specs.RowTable.{RowTable, other_owner}
use Rattle.undo_rows.proofs.UndoLemmas.{get-changes_over, other-over}
use Rattle.undo_rows.proofs.undo.UndoRows.other_owner.Goals as goal

pub returns : goal.returns
returns c =
    let place = rows_in c.self.inside.rows.entries in
    let images = c.self.inside.images.changes in
    c.other_owner.ensures
    ∙ sym (other-over c.args.owner (get images c.args.id.now) (get place c.args.id.now))
    ∙ ap (other_owner c.args.owner) (sym (get-changes_over place images c.args.id.now))
    ∙ ap (λ (t : RowTable). other_owner c.args.owner (get t.changes c.args.id.now)) c.self.view_is
