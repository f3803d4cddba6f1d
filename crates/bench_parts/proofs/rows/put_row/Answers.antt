-- Where there is no change, nobody has changed the row.
use Rattle.std.proofs.Common.{◌∙◌, ap}
use Rattle.finite_map.specs.FiniteMap.{get, get-empty}
use Rattle.row_model.specs.Rows.{row_cmp}
use Rattle.undo_rows.specs.RowTable.{Changes}
use Rattle.bench_parts.proofs.rows.put_row.Goals as goal

pub put-requires-clause-free : goal.put-requires-clause-free
put-requires-clause-free g c =
    ap (λ (m : Changes). get m c.row_id.result) (c.reserve.ensures.changes ∙ c.requires)
    ∙ get-empty row_cmp c.row_id.result
