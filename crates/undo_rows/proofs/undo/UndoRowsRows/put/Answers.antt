-- A row that nobody has changed is the committed one.
use Rattle.std.proofs.Common.{◌∙◌, ap}
use Rattle.finite_map.specs.FiniteMap.{get}
use Rattle.row_model.specs.Rows.{with_row}
use Rattle.undo_rows.specs.Overlay.{rows_in}
use Rattle.undo_rows.specs.RowTable.{RowTable}
use Rattle.undo_rows.proofs.UndoLemmas.{free-over, committed-put, changes-put}
use Rattle.undo_rows.proofs.undo.UndoRowsRows.put.Goals as goal

pub returns-clause-committed : goal.returns-clause-committed
returns-clause-committed c =
    let place = rows_in c.self.inside.rows.entries in
    let images = c.self.inside.images.changes in
    let free = free-over place images c.args.id.now
    (ap (λ (t : RowTable). get t.changes c.args.id.now) c.self.view_is ∙ c.requires.free) in
    committed-put place _ images c.args.id.now 0 c.args.row c.set_row.ensures.rows free
    ∙ ap (λ (t : RowTable). with_row t.committed c.args.id.now c.args.row) c.self.view_is

pub returns-clause-changes : goal.returns-clause-changes
returns-clause-changes c =
    let place = rows_in c.self.inside.rows.entries in
    let images = c.self.inside.images.changes in
    let free = free-over place images c.args.id.now
    (ap (λ (t : RowTable). get t.changes c.args.id.now) c.self.view_is ∙ c.requires.free) in
    changes-put place _ images c.args.id.now 0 c.args.row c.set_row.ensures.rows free
    ∙ ap (λ (t : RowTable). t.changes) c.self.view_is
