-- Each turn puts in the last row that is left.
use Rattle.std.proofs.Common.{◌≡◌, [], ◌∷◌, ◌++◌, sym, ap, ◌∙◌}
use Rattle.row_model.specs.RowOrder.{row_total, row_exact, row_ties}
use Rattle.finite_map.specs.FiniteMap.{from_entries}
use Rattle.finite_map.proofs.Tables.{insert-table}
use Rattle.cert_meaning.specs.Roomy.{Roomy}
use Rattle.cert_meaning.specs.Parts.{row_entry}
use Rattle.cert_meaning.proofs.PutLemmas.{put_all, put_all-empty, put_all-last}
use Rattle.cert_meaning.proofs.row_table.RowTable.of.Goals as goal

pub loop-item-init : goal.loop-item-init
loop-item-init c =
    ap (λ items. put_all row_entry items (from_entries c.table.inside.rows.entries))
    (ap (λ it. it.iter.rest.now) c.into_iter-item-iterator.ensures.into_iter_gives ∙ ap (λ it. it.rest.now) c.rev-item-items.ensures.source ∙ c.iter.ensures.rest)
    ∙ ap (put_all row_entry c.args.items.now) (ap (λ (table : Roomy). table.rows) c.table.view_is ∙ c.new-table.ensures)
    ∙ put_all-empty row_entry c.args.items.now

pub loop-item-preserved : goal.loop-item-preserved
loop-item-preserved c =
    let front = c.next.new.self.iter.rest.now in
    let so_far = c.loop-item.table-inside.rows.entries in
    let item = c.in-Some.item.now in
    let left : c.loop-item.item-iterator.iter.rest.now ≡ front ++ item ∷ [] = c.in-Some.ensures.steps in
    ap (put_all row_entry front)
    (insert-table row_total row_ties row_exact so_far _ item.id item.row c.in_ok-insert.ensures.updates.0)
    ∙ sym (put_all-last row_entry front item (from_entries so_far))
    ∙ ap (λ items. put_all row_entry items (from_entries so_far)) (sym left)
    ∙ c.loop-item.invariant
