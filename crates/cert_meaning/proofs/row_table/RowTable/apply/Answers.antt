-- The row that the change makes is put, or the row is taken out.
use Rattle.std.proofs.Common.{sym, ap, ◌∙◌}
use Rattle.finite_map.specs.FiniteMap.{get, insert, remove}
use Rattle.finite_map.proofs.Tables.{insert-table, remove-table}
use Rattle.row_model.specs.Rows.{with_row, row_after}
use Rattle.row_model.specs.RowOrder.{row_total, row_exact, row_ties}
use Rattle.cert_meaning.specs.Roomy.{Roomy}
use Rattle.cert_meaning.proofs.row_table.RowTable.apply.Goals as goal

pub returns-in-Ok-clause-rows : goal.returns-in-Ok-clause-rows
returns-in-Ok-clause-rows c =
    insert-table row_total row_ties row_exact c.self.inside.rows.entries _ c.id-id.result c.in-Some.row c.in-Ok.ensures.updates.0
    ∙ ap (λ (table : Roomy). insert table.rows c.id-id.result c.in-Some.row) c.self.view_is
    ∙ (λ i. with_row c.args.self.now.rows (c.id-id.ensures i)
    ((sym c.in-Some.is ∙ c.apply_op.ensures ∙ ap (λ old. row_after old c.args.op.now) (c.get.ensures ∙ ap (λ id. get c.args.self.now.rows id) c.id-id.ensures)) i))

pub returns-in-None-clause-rows : goal.returns-in-None-clause-rows
returns-in-None-clause-rows c =
    remove-table row_total row_ties row_exact c.self.inside.rows.entries _ c.id-id.result c.remove.ensures.updates.0
    ∙ ap (λ (table : Roomy). remove table.rows c.id-id.result) c.self.view_is
    ∙ (λ i. with_row c.args.self.now.rows (c.id-id.ensures i)
    ((sym c.in-None.is ∙ c.apply_op.ensures ∙ ap (λ old. row_after old c.args.op.now) (c.get.ensures ∙ ap (λ id. get c.args.self.now.rows id) c.id-id.ensures)) i))
