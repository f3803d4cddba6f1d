-- Where nothing stands and no image is kept, there is no row and no change.
use Rattle.std.proofs.Common.{ap}
use Rattle.undo_rows.specs.Overlay.{rows_in}
use Rattle.undo_rows.proofs.UndoLemmas.{committed-none, changes-none}
use Rattle.undo_rows.proofs.undo.UndoRows.new.Goals as goal

pub returns-clause-committed : goal.returns-clause-committed
returns-clause-committed c = committed-none _ c.in_ok-images.images.changes (ap rows_in c.new-2.ensures.empty) c.in_ok-images.ensures.changes

pub returns-clause-changes : goal.returns-clause-changes
returns-clause-changes c = changes-none _ c.in_ok-images.images.changes c.in_ok-images.ensures.changes
