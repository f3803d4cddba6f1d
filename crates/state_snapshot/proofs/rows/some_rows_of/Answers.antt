use Rattle.std.proofs.Common.{Some, None}
use Rattle.state_snapshot.specs.Reading.{each_at, row_at}
use Rattle.state_snapshot.proofs.Runs.{goes_on, ends, is_done}
use Rattle.state_snapshot.proofs.rows.some_rows_of.Goals as goal

pub returns-in-Err : goal.returns-in-Err
returns-in-Err c =
    ends (row_at) c.in-Err.fault c.loop.rows c.args.count c.loop.counter c.loop.last c.loop.rest
    (each_at row_at c.args.count None c.args.cursor) c.loop-test.true c.in-Err.ensures c.loop.invariant

pub loop-preserved : goal.loop-preserved
loop-preserved c =
    rw (c.in-Ok-push.ensures.ok) (goes_on (row_at) c.loop.rows c.args.count c.loop.counter c.loop.last c.loop.rest c.in-Ok.row.0 (Some c.in-Ok.row.0.id) c.in-Ok.row.1
    (each_at row_at c.args.count None c.args.cursor) c.loop-test.true c.in-Ok.ensures c.loop.invariant)

pub returns : goal.returns
returns c =
    is_done (row_at) c.loop.rows c.args.count c.loop.counter c.loop.last c.loop.rest
    (each_at row_at c.args.count None c.args.cursor) c.loop-test.false c.loop.invariant
