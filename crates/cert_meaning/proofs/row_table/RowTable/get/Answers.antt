-- The map answers as the table does.
use Rattle.std.proofs.Common.{sym, ap, ◌∙◌}
use Rattle.finite_map.specs.FiniteMap.{get}
use Rattle.finite_map.proofs.Tables.{get-table}
use Rattle.row_model.specs.RowOrder.{row_total, row_ties}
use Rattle.cert_meaning.specs.Roomy.{Roomy}
use Rattle.cert_meaning.proofs.row_table.RowTable.get.Goals as goal

pub returns : goal.returns
returns c =
    c.copied.ensures ∙ c.get.ensures.value ∙ sym (get-table row_total row_ties c.self.inside.rows.entries c.args.id.now)
    ∙ ap (λ (table : Roomy). get table.rows c.args.id.now) c.self.view_is
