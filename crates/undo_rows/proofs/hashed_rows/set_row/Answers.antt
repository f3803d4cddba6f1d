-- The table's change is the map's.
use Rattle.std.proofs.Common.{◌∙◌, sym, ap}
use Rattle.row_model.specs.Rows.{with_row}
use Rattle.undo_rows.specs.Overlay.{rows_in}
use Rattle.undo_rows.proofs.OverlayLemmas.{rows-insert, rows-remove}
use Rattle.undo_rows.proofs.hashed_rows.set_row.Goals as goal

pub returns-in-Ok-clause-rows : goal.returns-in-Ok-clause-rows
returns-in-Ok-clause-rows c =
    rows-insert _ _ _ _ c.in-Ok.ensures.updates.0
    ∙ ap (with_row (rows_in c.args.rows.now.entries) c.args.id.now) (sym c.in-Some.is)

pub returns-in-None-clause-rows : goal.returns-in-None-clause-rows
returns-in-None-clause-rows c =
    rows-remove _ _ _ c.remove.ensures.updates.0 ∙ ap (with_row (rows_in c.args.rows.now.entries) c.args.id.now) (sym c.in-None.is)
