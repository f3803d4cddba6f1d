-- The rows of the table are those of its map.
use Rattle.std.proofs.Common.{Result, Ok, Err, List, IfOk, sym, ap, ◌∙◌, ◌≡◌}
use Rattle.undo_rows.specs.RowTable.{row_items}
use Rattle.undo_rows.proofs.SortedLemmas.{entries_again}
use Rattle.finite_map.specs.FiniteMap.{from_entries}
use Rattle.cert_meaning.specs.Roomy.{Roomy}
use Rattle.cert_meaning.proofs.row_table.RowTable.items.Goals as goal

along : {A E : Type 0} (result : Result (List A) E) (one other : List A) → one ≡ other
    → IfOk result (λ items. items ≡ one) → IfOk result (λ items. items ≡ other)
along (Ok items) one other same is = is ∙ same
along (Err e) one other same is = tt

pub returns : goal.returns
returns c =
    along c.items_in_order.result _ _
    (ap (λ entries. row_items (from_entries entries)) (sym (entries_again c.self.inside.rows.entries))
    ∙ ap (λ (table : Roomy). row_items table.rows) c.self.view_is) c.items_in_order.ensures
