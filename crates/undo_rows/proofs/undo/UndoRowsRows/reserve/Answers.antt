-- More room changes no look-up.
use Rattle.std.proofs.Common.{◌≡◌, ◌∙◌, ap}
use Rattle.row_model.specs.Rows.{Rows}
use Rattle.undo_rows.specs.RowTable.{RowTable}
use Rattle.undo_rows.specs.UndoRows.{committed_under, changes_over}
use Rattle.undo_rows.proofs.OverlayLemmas.{rows-same}
use Rattle.undo_rows.proofs.undo.UndoRowsRows.reserve.Goals as goal

pub returns-clause-committed : goal.returns-clause-committed
returns-clause-committed c =
    let same : ◌≡◌ {A = Rows} _ _ = rows-same c.self.inside.rows.entries c.reserve-2.new.self.entries c.reserve-2.ensures.entries.2 in
    (λ i. committed_under (same i) (c.reserve.ensures.changes i)) ∙ ap (λ (t : RowTable). t.committed) c.self.view_is

pub returns-clause-changes : goal.returns-clause-changes
returns-clause-changes c =
    let same : ◌≡◌ {A = Rows} _ _ = rows-same c.self.inside.rows.entries c.reserve-2.new.self.entries c.reserve-2.ensures.entries.2 in
    (λ i. changes_over (same i) (c.reserve.ensures.changes i)) ∙ ap (λ (t : RowTable). t.changes) c.self.view_is
