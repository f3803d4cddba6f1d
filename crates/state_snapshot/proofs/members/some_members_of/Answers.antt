use Rattle.state_snapshot.specs.Reading.{each_at, member_at, no_members, with_member}
use Rattle.state_snapshot.proofs.Runs.{goes_on, ends, is_done}
use Rattle.state_snapshot.proofs.members.some_members_of.Goals as goal

pub returns-in-Err : goal.returns-in-Err
returns-in-Err c =
    ends (member_at c.args.head.now) c.in-Err.fault c.loop.members c.args.count c.loop.counter c.loop.so_far c.loop.rest
    (each_at (member_at c.args.head.now) c.args.count (no_members c.args.count) c.args.cursor) c.loop-test.true c.in-Err.ensures c.loop.invariant

pub loop-preserved : goal.loop-preserved
loop-preserved c =
    rw (c.in-Ok-push.ensures.ok, c.with_member-so_far.ensures) (goes_on (member_at c.args.head.now) c.loop.members c.args.count c.loop.counter c.loop.so_far c.loop.rest c.in-Ok.member.0 (with_member c.args.head.now c.loop.so_far c.in-Ok.member.0) c.in-Ok.member.1
    (each_at (member_at c.args.head.now) c.args.count (no_members c.args.count) c.args.cursor) c.loop-test.true c.in-Ok.ensures c.loop.invariant)

pub returns : goal.returns
returns c =
    is_done (member_at c.args.head.now) c.loop.members c.args.count c.loop.counter c.loop.so_far c.loop.rest
    (each_at (member_at c.args.head.now) c.args.count (no_members c.args.count) c.args.cursor) c.loop-test.false c.loop.invariant
