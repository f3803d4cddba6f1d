-- A row that a key covers stays while no commit touches that key; what covers a row is a law of the fold.
use Rattle.std.proofs.Common.{◌≡◌, ℕ, zero, suc, ◌+◌, ◌-◌, ◌≤◌, ◌<◌, true, false, List, length, Some, ap, sym, subst, ◌∙◌, arith, true≢false}
use Rattle.std.proofs.lemmas.Bool.{false_from_ne_true}
use Rattle.finite_map.specs.FiniteMap.{get}
use Rattle.key_sets.specs.Keys.{Keys, conflicts, touches}
use Rattle.key_sets.specs.Meeting.{covers}
use Rattle.key_sets.proofs.KeyLaws.{touches_from_conflicts}
use Rattle.row_model.specs.declared.row.RowId.{RowId}
use Rattle.order_event.specs.declared.event.Event.{Event}
use Rattle.write_set.specs.Rules.{row_parts}
use Rattle.cert_meaning.specs.declared.items.CommitItem.{CommitItem}
use Rattle.cert_meaning.proofs.FoldLaws.{some_there}
use Rattle.cert_meaning.proofs.CoveredLaws.{row_stays_over}
use Rattle.node_meaning.specs.Node.{rows_at}
use Rattle.node_meaning.specs.Facts.{commit_at}
use Rattle.node_meaning.proofs.PassedLaws.{commit_at-is}

module _ (order : List Event) (committed number : ℕ) (keys : Keys) (fits : number ≤ length order)
    (clear : (earlier : ℕ) (c : CommitItem) → committed < earlier → earlier < number → commit_at order earlier ≡ Some c
    → touches c.keys keys ≡ false)
    (id : RowId) (own : covers keys (row_parts id) ≡ true) where
  one_more : (k : ℕ) → committed ≤ k → k + 1 < number → get (rows_at order (k + 1)) id ≡ get (rows_at order k) id
  one_more k above below =
      let there = some_there order k (omega (arith, below, fits)) in
      row_stays_over order k there.0 keys id there.1 own (λ c is.
      false_from_ne_true (conflicts c.keys keys) (λ meet. true≢false
      (sym (touches_from_conflicts c.keys keys meet)
      ∙ clear (k + 1) c (omega (arith, above)) below (commit_at-is order k there.0 there.1 ∙ is))))

  row_same : (d : ℕ) → committed + d < number → get (rows_at order (committed + d)) id ≡ get (rows_at order committed) id
  row_same zero below = ap (λ m. get (rows_at order m) id) (none_more committed)
    where
      none_more : (m : ℕ) → m + 0 ≡ m
      none_more m = omega arith
  row_same (suc d) below =
      let same : committed + suc d ≡ (committed + d) + 1 = omega arith in
      let inside : (committed + d) + 1 < number = omega (arith, below) in
      ap (λ m. get (rows_at order m) id) same
      ∙ one_more (committed + d) (omega arith) inside
      ∙ row_same d (omega (arith, below))

  -- a row that the keys cover is the same at each number before the unit's
  pub row_before : (k : ℕ) → committed ≤ k → k < number → get (rows_at order k) id ≡ get (rows_at order committed) id
  row_before k above below =
      let same : committed + (k - committed) ≡ k = omega (arith, above) in
      subst (λ (m : ℕ). get (rows_at order m) id ≡ get (rows_at order committed) id) same
      (row_same (k - committed) (omega (arith, above, below)))
