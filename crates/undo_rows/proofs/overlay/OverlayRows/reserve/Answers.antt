-- More room changes no look-up.
use Rattle.std.proofs.Common.{◌∙◌, ap}
use Rattle.undo_rows.specs.RowTable.{RowTable}
use Rattle.undo_rows.proofs.OverlayLemmas.{rows-same}
use Rattle.undo_rows.proofs.overlay.OverlayRows.reserve.Goals as goal

pub returns-clause-committed : goal.returns-clause-committed
returns-clause-committed c =
    rows-same _ _ c.reserve-2.ensures.entries.2 ∙ ap (λ (t : RowTable). t.committed) c.self.view_is
