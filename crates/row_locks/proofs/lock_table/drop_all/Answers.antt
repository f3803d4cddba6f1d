-- Each key that goes leads to the next, until none is left.
use Rattle.std.proofs.Common.{sym, subst, ◌∙◌, arith}
use Rattle.finite_map.specs.Links.{Linked}
use Rattle.row_locks.specs.LockTable.{links}
use Rattle.row_locks.proofs.LinkLemmas.{next_found, next_taken, others_stay, all_taken, index_left}
use Rattle.row_locks.proofs.lock_table.drop_all.Goals as goal

pub remove-requires : goal.remove-requires
remove-requires c = record { index = c.loop-next.invariant.indexed.numbered }

pub loop-next-preserved-in-Some-remove : goal.loop-next-preserved-in-Some-remove
loop-next-preserved-in-Some-remove c =
    let linked = subst (Linked (links c.loop-next.locks.entries c.args.holder)) c.in-Some.is c.loop-next.invariant.linked in
    record {
      linked = next_taken _ _ c.args.holder c.in-Some.parts c.remove-in-Some.ensures.updates.0 c.in-Some-remove.lock
          (sym c.in-Some-remove.ensures.value) linked;
      indexed = index_left _ _ c.args.holder c.in-Some.parts c.remove-in-Some.ensures.updates.0 _ _
          c.loop-next.invariant.indexed c.remove.ensures.index c.remove.ensures.numbers;
      others = λ key. others_stay _ _ c.args.holder c.in-Some.parts c.remove-in-Some.ensures.updates.0 key ∙ c.loop-next.invariant.others key;
      grown = omega (arith, c.remove-in-Some.ensures.spare, c.loop-next.invariant.grown);
      room = omega (arith, c.remove.ensures.room, c.loop-next.invariant.room);
    }

pub loop-next-preserved : goal.loop-next-preserved
loop-next-preserved c =
    let linked = subst (Linked (links c.loop-next.locks.entries c.args.holder)) c.in-Some.is c.loop-next.invariant.linked in
    absurd (next_found _ c.args.holder c.in-Some.parts linked (sym c.in-None.ensures.value))

pub returns-clause-locks : goal.returns-clause-locks
returns-clause-locks c =
    all_taken _ _ c.args.holder
    (subst (Linked (links c.loop-next.locks.entries c.args.holder)) c.in_default.is c.loop-next.invariant.linked)
    c.loop-next.invariant.others
