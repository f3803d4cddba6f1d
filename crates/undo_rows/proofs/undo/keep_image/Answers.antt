-- The image of a row that has none is the row in place.
use Rattle.std.proofs.Common.{◌≡◌, OnOk, Option, List, ℕ, ◌∙◌, ap, subst}
use Rattle.finite_map.specs.FiniteMap.{insert}
use Rattle.undo_rows.specs.Overlay.{rows_in}
use Rattle.undo_rows.specs.RowTable.{Changes}
use Rattle.undo_rows.specs.UndoRows.{imaged_unless}
use Rattle.undo_rows.proofs.undo.keep_image.Goals as goal

pub returns-in-None-clause-ok : goal.returns-in-None-clause-ok
returns-in-None-clause-ok c =
    let place = rows_in c.args.rows.now.entries in
    let images = c.args.images.now.changes in
    let P : Changes → Type 0 = λ m. OnOk c.set.result (c.set.new.self.changes ≡ m) in
    subst P
    (ap (λ (r : Option (List ℕ)). insert images c.args.id.now (c.args.owner, r)) c.row_at.ensures
    ∙ ap (λ w. imaged_unless w place images c.args.id.now c.args.owner) c.in-None.ensures)
    c.set.ensures.ok
