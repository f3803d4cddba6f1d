use Rattle.std.proofs.Common.{None}
use Rattle.order_event.specs.Reading.{members_at}
use Rattle.order_event.proofs.Loop.{goes_on, ends, is_done, fails}
use Rattle.order_event.proofs.reading.members.Goals as goal

pub returns-in-Err : goal.returns-in-Err
returns-in-Err c =
    fails c.in-Err.fault _
    (ends c.loop.members c.args.count c.loop.counter c.loop.before c.loop.rest
    (members_at c.args.count None c.args.cursor) c.loop.invariant c.in-Err.fault c.loop-test.true
    c.in-Err.ensures)

pub loop-preserved : goal.loop-preserved
loop-preserved c =
    rw c.in_ok-push.ensures.ok
    (goes_on c.loop.members c.args.count c.loop.counter c.loop.before c.loop.rest
    (members_at c.args.count None c.args.cursor) c.loop.invariant c.in-Ok.read.0 c.in-Ok.read.1
    c.loop-test.true c.in-Ok.ensures)

pub returns : goal.returns
returns c =
    is_done c.loop.members c.args.count c.loop.counter c.loop.before c.loop.rest
    (members_at c.args.count None c.args.cursor) c.loop.invariant c.loop-test.false
