-- The last key at the parts gets the number, unless it is the one that goes.
use Rattle.std.proofs.Common.{◌≡◌, ◌-◌, cond, Some, refl, sym, ap, ◌∙◌, true≢false, arith}
use Rattle.std.specs.Prelude.{is_some}
use Rattle.std.specs.Map.{lookup}
use Rattle.key_sets.specs.Parts.{parts_eq}
use Rattle.row_locks.specs.HolderIndex.{place_at, place_eq}
use Rattle.row_locks.specs.LockKeys.{holder_eq, lock_eq, key_of}
use Rattle.row_locks.proofs.IndexLemmas.{counted, holder_test, key_kept, number_below, numbers_left, parts_test, place_kept}
use Rattle.row_locks.proofs.NumberLemmas.{numbered_along, numbered_less, numbered_moved}
use Rattle.row_locks.proofs.holder_index.HolderIndex.remove.Goals as goal

pub returns-in_default-clause-index : goal.returns-in_default-clause-index
returns-in_default-clause-index c =
    numbered_along _ _ _ _ _ _ c.requires.index (λ r. refl) (λ r n. refl)
    (λ r g. ap (lookup (lock_eq (key_of g r))) c.in_default.ensures.unchanged)

pub overflow_sub-last : goal.overflow_sub-last
overflow_sub-last c =
    let less = number_below c.args.self.now c.args.key.now c.in-Some.number c.requires.index
    (sym c.in-Some.ensures.value) in
    omega (arith, less, c.count-last.ensures)

pub put_count-requires : goal.put_count-requires
put_count-requires c =
    counted _ c.in-Some.number (number_below c.args.self.now c.args.key.now c.in-Some.number
    c.requires.index (sym c.in-Some.ensures.value))

pub replace-requires : goal.replace-requires
replace-requires c = record {
  there = place_kept c.args.self.now c.args.key.now c.in-Some.number (c.count-last.result - 1)
      c.in-Some-remove.holder c.requires.index (sym c.in-Some.ensures.value)
      (sym c.in-Some-remove.ensures.value) c.if-number-last.true _
      (c.remove-2.ensures.updates.0 (place_at c.args.key.now.parts c.in-Some.number));
}

pub replace-requires-then-number-last : goal.replace-requires-then-number-last
replace-requires-then-number-last c = record {
  there = key_kept c.args.self.now c.args.key.now c.in-Some.number (c.count-last.result - 1)
      c.in-Some-remove.holder c.requires.index (sym c.in-Some.ensures.value)
      (sym c.in-Some-remove.ensures.value) c.if-number-last.true _
      (c.remove.ensures.updates.0 (key_of c.in-Some-remove.holder c.args.key.now.parts));
}

pub returns-then-number-last-clause-index : goal.returns-then-number-last-clause-index
returns-then-number-last-clause-index c =
    let a = c.args.self.now in let h = c.args.key.now.holder in let p = c.args.key.now.parts in
    let i = c.in-Some.number in let z = c.in-Some-remove.holder in
    let is = sym c.in-Some.ensures.value in
    let less = number_below a c.args.key.now i c.requires.index is in
    numbered_moved _ _ _ _ _ _ c.requires.index p (parts_eq p) (parts_test p) h (holder_eq h)
    (holder_test h) (c.count-last.result - 1) (omega (arith, less, c.count-last.ensures))
    c.put_count.ensures.counts i c.if-number-last.true is z (holder_eq z) (holder_test z)
    (sym c.in-Some-remove.ensures.value)
    (λ r n. c.replace.ensures.values (place_at r n)
    ∙ ap (cond (place_eq (place_at p i) (place_at r n)) (Some z))
    (c.remove-2.ensures.updates.0 (place_at r n)))
    (λ r g. c.replace-then-number-last.ensures.values (key_of g r)
    ∙ ap (cond (lock_eq (key_of z p) (key_of g r)) (Some i))
    (c.remove.ensures.updates.0 (key_of g r)))

pub returns-then-number-last-clause-numbers : goal.returns-then-number-last-clause-numbers
returns-then-number-last-clause-numbers c k =
    let p = c.args.key.now.parts in
    numbers_left c.args.self.now c.args.key.now c.in-Some.number (c.count-last.result - 1)
    c.in-Some-remove.holder c.requires.index (sym c.in-Some.ensures.value)
    (sym c.in-Some-remove.ensures.value) c.if-number-last.true k _
    (c.replace-then-number-last.ensures.values k
    ∙ ap (cond (lock_eq (key_of c.in-Some-remove.holder p) k) (Some c.in-Some.number))
    (c.remove.ensures.updates.0 k))

pub returns-else-number-last-clause-index : goal.returns-else-number-last-clause-index
returns-else-number-last-clause-index c =
    let a = c.args.self.now in let h = c.args.key.now.holder in let p = c.args.key.now.parts in
    let i = c.in-Some.number in let last = c.count-last.result - 1 in
    let is = sym c.in-Some.ensures.value in
    let less = number_below a c.args.key.now i c.requires.index is in
    let at : i ≡ last = omega (arith, less, c.count-last.ensures, c.if-number-last.false) in
    numbered_less _ _ _ _ _ _ c.requires.index p (parts_eq p) (parts_test p) h (holder_eq h)
    (holder_test h) last (omega (arith, less, c.count-last.ensures)) c.put_count.ensures.counts
    (is ∙ ap Some at) (λ r n. c.remove-2.ensures.updates.0 (place_at r n))
    (λ r g. c.remove.ensures.updates.0 (key_of g r))

pub unreachable-requires : goal.unreachable-requires
unreachable-requires c =
    let a = c.args.self.now in let key = c.args.key.now in
    let less = number_below a key c.in-Some.number c.requires.index (sym c.in-Some.ensures.value) in
    let here = c.requires.index key.parts in
    true≢false (sym (here.full _ (omega (arith, less, c.count-last.ensures)))
    ∙ ap is_some (sym c.in_default-remove.ensures.value))
