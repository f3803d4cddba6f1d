-- Where an owner's images are dropped, its rows in place are committed.
use Rattle.std.proofs.Common.{◌∙◌, ap}
use Rattle.undo_rows.specs.Overlay.{rows_in}
use Rattle.undo_rows.specs.RowTable.{RowTable, seen, without}
use Rattle.undo_rows.proofs.UndoLemmas.{committed-kept, changes-kept}
use Rattle.undo_rows.proofs.undo.UndoRowsRows.keep.Goals as goal

pub returns-clause-committed : goal.returns-clause-committed
returns-clause-committed c =
    let place = rows_in c.self.inside.rows.entries in
    λ q.
    committed-kept c.args.owner place place c.self.inside.images.changes _ c.drop_all.ensures.changes q
    ∙ ap (λ (t : RowTable). seen t c.args.owner q) c.self.view_is

pub returns-clause-changes : goal.returns-clause-changes
returns-clause-changes c =
    let place = rows_in c.self.inside.rows.entries in
    changes-kept c.args.owner place place c.self.inside.images.changes _ c.drop_all.ensures.changes
    ∙ ap (λ (t : RowTable). without t.changes c.args.owner) c.self.view_is
