use Rattle.state_snapshot.specs.Reading.{each_at, fragment_at, no_fragments, with_fragment}
use Rattle.state_snapshot.proofs.Runs.{goes_on, ends, is_done}
use Rattle.state_snapshot.proofs.fragments.some_fragments_of.Goals as goal

pub returns-in-Err : goal.returns-in-Err
returns-in-Err c =
    ends (fragment_at c.args.most) c.in-Err.fault c.loop.fragments c.args.count c.loop.counter (record { least = c.loop.least; last_seen = c.loop.last_seen; whole = c.loop.whole }) c.loop.rest
    (each_at (fragment_at c.args.most) c.args.count no_fragments c.args.cursor) c.loop-test.true c.in-Err.ensures.read c.loop.invariant

pub loop-preserved : goal.loop-preserved
loop-preserved c =
    rw (c.in-Ok-push.ensures.ok) (goes_on (fragment_at c.args.most) c.loop.fragments c.args.count c.loop.counter (record { least = c.loop.least; last_seen = c.loop.last_seen; whole = c.loop.whole }) c.loop.rest c.in-Ok.fragment.0 (with_fragment c.in-Ok.fragment.0 c.fragment_of.new.whole) c.in-Ok.fragment.1
    (each_at (fragment_at c.args.most) c.args.count no_fragments c.args.cursor) c.loop-test.true c.in-Ok.ensures.read c.loop.invariant)

pub returns : goal.returns
returns c =
    is_done (fragment_at c.args.most) c.loop.fragments c.args.count c.loop.counter (record { least = c.loop.least; last_seen = c.loop.last_seen; whole = c.loop.whole }) c.loop.rest
    (each_at (fragment_at c.args.most) c.args.count no_fragments c.args.cursor) c.loop-test.false c.loop.invariant
