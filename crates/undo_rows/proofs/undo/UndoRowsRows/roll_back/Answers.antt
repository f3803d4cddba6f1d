-- Where an owner's images are put back, the committed rows stay.
use Rattle.std.proofs.Common.{◌∙◌, ap}
use Rattle.undo_rows.specs.Overlay.{rows_in}
use Rattle.undo_rows.specs.RowTable.{RowTable, without}
use Rattle.undo_rows.proofs.UndoLemmas.{committed-back, changes-back}
use Rattle.undo_rows.proofs.undo.UndoRowsRows.roll_back.Goals as goal

pub returns-clause-committed : goal.returns-clause-committed
returns-clause-committed c =
    committed-back c.args.owner (rows_in c.self.inside.rows.entries) _ c.self.inside.images.changes _
    c.keep_all.ensures.owned c.keep_all.ensures.rows
    ∙ ap (λ (t : RowTable). t.committed) c.self.view_is

pub returns-clause-changes : goal.returns-clause-changes
returns-clause-changes c =
    changes-back c.args.owner (rows_in c.self.inside.rows.entries) _ c.self.inside.images.changes _
    c.keep_all.ensures.owned c.keep_all.ensures.rows
    ∙ ap (λ (t : RowTable). without t.changes c.args.owner) c.self.view_is
