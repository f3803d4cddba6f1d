use Rattle.std.proofs.Common.{◌∙◌, ap, arith}
use Rattle.row_locks.specs.Locks.{Locks, keys_at}
use Rattle.row_locks.proofs.AlikeLaws.{held_none, held_more}
use Rattle.row_locks.proofs.lock_table.LockTable.hold.Goals as goal

pub loop-parts-init : goal.loop-parts-init
loop-parts-init c = record { held = held_none c.args.self.now.locks c.args.holder; spare = omega arith }

pub add-requires : goal.add-requires
add-requires c = omega (arith, c.requires.room, c.loop-parts-test.true, c.loop-parts.invariant.spare)

pub loop-parts-preserved : goal.loop-parts-preserved
loop-parts-preserved c = record {
  held = λ q.
      ap (λ (m : Locks). keys_at m q) c.add.ensures.locks
      ∙ held_more c.args.self.now.locks c.loop-parts.self.locks c.args.holder c.args.keys.now c.loop-parts.parts-index _
      c.loop-parts-test.true c.loop-parts.invariant.held q;
  spare = omega (arith, c.add.ensures.spare, c.loop-parts.invariant.spare);
}
