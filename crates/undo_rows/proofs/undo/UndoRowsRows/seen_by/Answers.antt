-- The owner of an image sees the row in place, and all others see the image.
use Rattle.std.proofs.Common.{sym, ◌∙◌, ap}
use Rattle.finite_map.specs.FiniteMap.{get}
use Rattle.undo_rows.specs.Overlay.{rows_in}
use Rattle.undo_rows.specs.RowTable.{RowTable, seen, seen_of}
use Rattle.undo_rows.specs.UndoRows.{image_or, change_over}
use Rattle.undo_rows.proofs.UndoLemmas.{seen-over, seen-own, seen-others}
use Rattle.undo_rows.proofs.undo.UndoRowsRows.seen_by.Goals as goal

pub returns-then-other-owner : goal.returns-then-other-owner
returns-then-other-owner c =
    let place = rows_in c.self.inside.rows.entries in
    let images = c.self.inside.images.changes in
    let at = get place c.args.id.now in
    c.row_at.ensures
    ∙ seen-own c.args.owner c.in-Some.other c.in-Some.image at c.if-other-owner.true
    ∙ ap (λ x. seen_of c.args.owner (change_over x at) (image_or x at)) c.in-Some.ensures
    ∙ sym (seen-over place images c.args.owner c.args.id.now)
    ∙ ap (λ (t : RowTable). seen t c.args.owner c.args.id.now) c.self.view_is

pub returns-else-other-owner : goal.returns-else-other-owner
returns-else-other-owner c =
    let place = rows_in c.self.inside.rows.entries in
    let images = c.self.inside.images.changes in
    let at = get place c.args.id.now in
    seen-others c.args.owner c.in-Some.other c.in-Some.image at c.if-other-owner.false
    ∙ ap (λ x. seen_of c.args.owner (change_over x at) (image_or x at)) c.in-Some.ensures
    ∙ sym (seen-over place images c.args.owner c.args.id.now)
    ∙ ap (λ (t : RowTable). seen t c.args.owner c.args.id.now) c.self.view_is

pub returns-in-None : goal.returns-in-None
returns-in-None c =
    let place = rows_in c.self.inside.rows.entries in
    let images = c.self.inside.images.changes in
    let at = get place c.args.id.now in
    c.row_at-in-None.ensures
    ∙ ap (λ x. seen_of c.args.owner (change_over x at) (image_or x at)) c.in-None.ensures
    ∙ sym (seen-over place images c.args.owner c.args.id.now)
    ∙ ap (λ (t : RowTable). seen t c.args.owner c.args.id.now) c.self.view_is
