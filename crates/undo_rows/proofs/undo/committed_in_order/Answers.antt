-- The items of both tables, sorted by their places, are the committed rows.
use Rattle.std.proofs.Common.{rules, ◌∙◌}
use Rattle.std.proofs.lemmas.Fn.{always_returns_same}
use Rattle.undo_rows.specs.Overlay.{rows_in}
use Rattle.undo_rows.proofs.RowListLemmas.{both_listed}
use Rattle.undo_rows.proofs.undo.committed_in_order.Goals as goal

pub returns : goal.returns
returns c =
    c.from.ensures
    ∙ both_listed (rows_in c.args.rows.now.entries) c.args.images.now.changes c.new-items.result.items
    c.push_unchanged.new.items.items c.push_rows.new.items.items _
    c.new-items.ensures.items c.in_ok-push_unchanged.ensures c.in_ok-push_rows.ensures
    c.sort_unstable_by_key.ensures.permutation
    (c.sort_unstable_by_key.ensures.sorted (λ item. item.id) (always_returns_same _ _ _ (λ a r f k. search rules)))
