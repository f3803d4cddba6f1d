use Rattle.write_set.specs.Reading.{many_at, op_at}
use Rattle.write_set.proofs.Loops.{goes_on, ends, is_done}
use Rattle.write_set.proofs.changes.some_ops_of.Goals as goal

pub returns-in-Err : goal.returns-in-Err
returns-in-Err c =
    ends op_at c.in-Err.fault c.loop.ops c.args.count c.loop.counter c.loop.rest (many_at op_at c.args.count c.args.cursor)
    c.loop-test.true c.in-Err.ensures c.loop.invariant

pub loop-preserved : goal.loop-preserved
loop-preserved c =
    rw c.in-Ok-push.ensures.ok (goes_on op_at c.loop.ops c.args.count c.loop.counter c.loop.rest c.in-Ok.op.0 c.in-Ok.op.1
    (many_at op_at c.args.count c.args.cursor) c.loop-test.true c.in-Ok.ensures c.loop.invariant)

pub returns : goal.returns
returns c =
    is_done op_at c.loop.ops c.args.count c.loop.counter c.loop.rest (many_at op_at c.args.count c.args.cursor)
    c.loop-test.false c.loop.invariant
