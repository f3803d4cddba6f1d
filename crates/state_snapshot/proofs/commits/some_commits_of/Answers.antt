use Rattle.state_snapshot.specs.Reading.{each_at, commit_at}
use Rattle.state_snapshot.proofs.Runs.{goes_on, ends, is_done}
use Rattle.state_snapshot.proofs.commits.some_commits_of.Goals as goal

pub returns-in-Err : goal.returns-in-Err
returns-in-Err c =
    ends (commit_at c.args.head.now.number) c.in-Err.fault c.loop.commits c.args.count c.loop.counter c.loop.last c.loop.rest
    (each_at (commit_at c.args.head.now.number) c.args.count c.args.head.now.floor c.args.cursor) c.loop-test.true c.in-Err.ensures c.loop.invariant

pub loop-preserved : goal.loop-preserved
loop-preserved c =
    rw (c.in-Ok-push.ensures.ok) (goes_on (commit_at c.args.head.now.number) c.loop.commits c.args.count c.loop.counter c.loop.last c.loop.rest c.in-Ok.commit.0 c.in-Ok.commit.0.number c.in-Ok.commit.1
    (each_at (commit_at c.args.head.now.number) c.args.count c.args.head.now.floor c.args.cursor) c.loop-test.true c.in-Ok.ensures c.loop.invariant)

pub returns : goal.returns
returns c =
    is_done (commit_at c.args.head.now.number) c.loop.commits c.args.count c.loop.counter c.loop.last c.loop.rest
    (each_at (commit_at c.args.head.now.number) c.args.count c.args.head.now.floor c.args.cursor) c.loop-test.false c.loop.invariant
