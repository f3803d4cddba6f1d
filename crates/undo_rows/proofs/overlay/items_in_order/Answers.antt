-- The items are those of all entries, sorted by their places.
use Rattle.std.proofs.Common.{◌≡◌, rules, List, ◌++◌, map, ℕ, sym, ap, ◌∙◌, append-nil}
use Rattle.std.proofs.lemmas.Fn.{always_returns_same}
use Rattle.row_model.specs.declared.row.RowId.{RowId}
use Rattle.undo_rows.specs.RowTable.{item_of}
use Rattle.undo_rows.proofs.SortedLemmas.{sorted-items}
use Rattle.undo_rows.proofs.overlay.items_in_order.Goals as goal

pub returns : goal.returns
returns c =
    let all : c.loop-id.items.items ≡ map item_of c.args.rows.now.entries =
    sym (append-nil c.loop-id.items.items)
    ∙ ap (λ (left : List (RowId × List ℕ)). c.loop-id.items.items ++ map item_of left) (sym c.in-None.ensures.steps.0)
    ∙ c.loop-id.invariant in
    c.from.ensures
    ∙ sorted-items c.args.rows.now.entries c.loop-id.items.items _ c.into_iter-id-iterator.ensures.into_iter_gives.4 all
    c.sort_unstable_by_key.ensures.permutation
    (c.sort_unstable_by_key.ensures.sorted (λ item. item.id) (always_returns_same _ _ _ (λ a r f k. search rules)))
