-- Each holder that has a number at the parts is gone over.
use Rattle.std.proofs.Common.{◌≡◌, ◌<◌, ℕ, true, Some, sym, ap, subst, ◌∙◌, arith}
use Rattle.row_locks.specs.declared.holder.Holder.{Holder}
use Rattle.row_locks.specs.HolderIndex.{count, holder_in}
use Rattle.row_locks.specs.Locks.{LockState}
use Rattle.row_locks.specs.LockTable.{blocker_at, is_in_way_at, lesser, where_passes}
use Rattle.row_locks.proofs.LeastLemmas.{at_most, passes_if_there}
use Rattle.row_locks.proofs.WayLemmas.{least-at, least-more, found-more}
use Rattle.row_locks.proofs.lock_table.LockTable.blocker_at.Goals as goal

pub loop-number-init : goal.loop-number-init
loop-number-init c = record { found = λ h e. cc; least = λ n g less is passes. let no : ⊥ = omega (arith, less) in absurd no }

pub loop-number-preserved : goal.loop-number-preserved
loop-number-preserved c =
    let test = is_in_way_at c.args.self.now.locks c.args.holder c.args.parts.now c.args.kind in
    let is : c.lesser-least.result
    ≡ lesser c.loop-number.least (where_passes test (holder_in c.self.inside.index c.args.parts.now c.loop-number.number)) =
    c.lesser-least.ensures
    ∙ ap (lesser c.loop-number.least) (c.in_way_at.ensures ∙ ap (where_passes test) c.holder-other.ensures) in
    record {
      found = subst (passes_if_there test) (sym is) (found-more test _ _ c.loop-number.invariant.found);
      least = least-more test (holder_in c.self.inside.index c.args.parts.now) c.loop-number.least c.loop-number.number _ is c.loop-number.invariant.least;
    }

pub returns : goal.returns
returns c =
    let least = least-at c.self.inside.locks.entries c.self.inside.index c.self.invariant.indexed c.args.holder c.args.parts.now c.args.kind
    c.loop-number.least
    (subst (λ (s : LockState). passes_if_there (is_in_way_at s.locks c.args.holder c.args.parts.now c.args.kind) c.loop-number.least)
    (sym c.self.view_is) c.loop-number.invariant.found)
    (subst (λ (s : LockState). (n : ℕ) (g : Holder) → n < count c.self.inside.index c.args.parts.now
    → holder_in c.self.inside.index c.args.parts.now n ≡ Some g
    → is_in_way_at s.locks c.args.holder c.args.parts.now c.args.kind g ≡ true → at_most c.loop-number.least g ≡ true)
    (sym c.self.view_is)
    (λ n g less. c.loop-number.invariant.least n g (omega (arith, less, c.count-number-end.ensures, c.loop-number-test.false)))) in
    sym least ∙ ap (λ (s : LockState). blocker_at s.locks c.args.holder c.args.parts.now c.args.kind) c.self.view_is
