-- More room changes no look-up.
use Rattle.std.proofs.Common.{◌∙◌, ap}
use Rattle.undo_rows.specs.RowTable.{RowTable}
use Rattle.undo_rows.proofs.OverlayLemmas.{rows-same}
use Rattle.undo_rows.proofs.overlay.OverlayRows.write.Goals as goal

pub returns-in_err-set-clause-committed : goal.returns-in_err-set-clause-committed
returns-in_err-set-clause-committed c =
    rows-same _ _ c.reserve.ensures.entries.2 ∙ ap (λ (t : RowTable). t.committed) c.self.view_is

pub returns-clause-committed : goal.returns-clause-committed
returns-clause-committed c =
    rows-same _ _ c.reserve.ensures.entries.2 ∙ ap (λ (t : RowTable). t.committed) c.self.view_is
