use Rattle.std.proofs.Common.{Some, None}
use Rattle.state_snapshot.specs.Reading.{each_at, open_at}
use Rattle.state_snapshot.proofs.Runs.{goes_on, ends, is_done}
use Rattle.state_snapshot.proofs.open_trx.some_open_of.Goals as goal

pub returns-in-Err : goal.returns-in-Err
returns-in-Err c =
    ends (open_at c.args.most c.args.members.now) c.in-Err.fault c.loop.open_trx c.args.count c.loop.counter c.loop.last c.loop.rest
    (each_at (open_at c.args.most c.args.members.now) c.args.count None c.args.cursor) c.loop-test.true c.in-Err.ensures c.loop.invariant

pub loop-preserved : goal.loop-preserved
loop-preserved c =
    rw (c.in-Ok-push.ensures.ok) (goes_on (open_at c.args.most c.args.members.now) c.loop.open_trx c.args.count c.loop.counter c.loop.last c.loop.rest c.in-Ok.item.0 (Some c.in-Ok.item.0.trx) c.in-Ok.item.1
    (each_at (open_at c.args.most c.args.members.now) c.args.count None c.args.cursor) c.loop-test.true c.in-Ok.ensures c.loop.invariant)

pub returns : goal.returns
returns c =
    is_done (open_at c.args.most c.args.members.now) c.loop.open_trx c.args.count c.loop.counter c.loop.last c.loop.rest
    (each_at (open_at c.args.most c.args.members.now) c.args.count None c.args.cursor) c.loop-test.false c.loop.invariant
