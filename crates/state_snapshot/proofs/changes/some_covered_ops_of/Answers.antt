use Rattle.write_set.specs.Reading.{many_at}
use Rattle.write_set.proofs.Loops.{goes_on, ends, is_done}
use Rattle.state_snapshot.specs.Reading.{covered_op_at}
use Rattle.state_snapshot.proofs.changes.some_covered_ops_of.Goals as goal

pub returns-in-Err : goal.returns-in-Err
returns-in-Err c =
    let one_at = covered_op_at c.args.keys.now in
    ends one_at c.in-Err.fault c.loop.ops c.args.count c.loop.counter c.loop.rest (many_at one_at c.args.count c.args.cursor)
    c.loop-test.true c.in-Err.ensures c.loop.invariant

pub loop-preserved : goal.loop-preserved
loop-preserved c =
    let one_at = covered_op_at c.args.keys.now in
    rw c.in-Ok-push.ensures.ok (goes_on one_at c.loop.ops c.args.count c.loop.counter c.loop.rest c.in-Ok.op.0 c.in-Ok.op.1
    (many_at one_at c.args.count c.args.cursor) c.loop-test.true c.in-Ok.ensures c.loop.invariant)

pub returns : goal.returns
returns c =
    let one_at = covered_op_at c.args.keys.now in
    is_done one_at c.loop.ops c.args.count c.loop.counter c.loop.rest (many_at one_at c.args.count c.args.cursor)
    c.loop-test.false c.loop.invariant
