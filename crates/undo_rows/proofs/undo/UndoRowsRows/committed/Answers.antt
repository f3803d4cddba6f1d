-- The committed row is the image, and the row in place where there is none.
use Rattle.std.proofs.Common.{sym, ◌∙◌, ap}
use Rattle.finite_map.specs.FiniteMap.{get}
use Rattle.undo_rows.specs.Overlay.{rows_in}
use Rattle.undo_rows.specs.RowTable.{RowTable}
use Rattle.undo_rows.specs.UndoRows.{image_or}
use Rattle.undo_rows.proofs.UndoLemmas.{get-committed_under}
use Rattle.undo_rows.proofs.undo.UndoRowsRows.committed.Goals as goal

pub returns-in-Some : goal.returns-in-Some
returns-in-Some c =
    let place = rows_in c.self.inside.rows.entries in
    let images = c.self.inside.images.changes in
    ap (λ x. image_or x (get place c.args.id.now)) c.in-Some.ensures
    ∙ sym (get-committed_under place images c.args.id.now)
    ∙ ap (λ (t : RowTable). get t.committed c.args.id.now) c.self.view_is

pub returns-in-None : goal.returns-in-None
returns-in-None c =
    let place = rows_in c.self.inside.rows.entries in
    let images = c.self.inside.images.changes in
    c.row_at.ensures
    ∙ ap (λ x. image_or x (get place c.args.id.now)) c.in-None.ensures
    ∙ sym (get-committed_under place images c.args.id.now)
    ∙ ap (λ (t : RowTable). get t.committed c.args.id.now) c.self.view_is
