-- Room changes no row.
use Rattle.std.proofs.Common.{ap, ◌∙◌}
use Rattle.finite_map.proofs.Tables.{same_table}
use Rattle.row_model.specs.RowOrder.{row_total, row_exact, row_ties}
use Rattle.cert_meaning.specs.Roomy.{Roomy}
use Rattle.cert_meaning.proofs.row_table.RowTable.reserve.Goals as goal

pub returns-clause-rows : goal.returns-clause-rows
returns-clause-rows c =
    same_table row_total row_ties row_exact _ _ c.reserve.ensures.entries.2
    ∙ ap (λ (table : Roomy). table.rows) c.self.view_is
