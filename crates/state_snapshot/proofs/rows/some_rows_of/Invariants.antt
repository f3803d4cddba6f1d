use Rattle.std.proofs.Common.{◌≡◌, ◌-◌, None}
use Rattle.state_snapshot.specs.Reading.{each_at, row_at}
use Rattle.wsrep_base.proofs.Fields.{with_front}
use Rattle.state_snapshot.proofs.rows.some_rows_of.Given as goal

abbrev pub invariant-loop : goal.invariant-loop
invariant-loop l =
    with_front l.rows (each_at (row_at) (l.count - l.counter) l.last l.rest) ≡ each_at (row_at) l.fn.count None l.fn.cursor
