-- The table's look-up is the map's.
use Rattle.std.proofs.Common.{sym, ◌∙◌}
use Rattle.undo_rows.proofs.OverlayLemmas.{get-rows_in}
use Rattle.undo_rows.proofs.hashed_rows.row_at.Goals as goal

pub returns : goal.returns
returns c = c.copied.ensures ∙ c.get.ensures.value ∙ sym (get-rows_in c.args.rows.now.entries c.args.id.now)
