use Rattle.std.proofs.Common.{◌≡◌, ◌-◌}
use Rattle.write_set.specs.Reading.{many_at}
use Rattle.wsrep_base.proofs.Fields.{with_front}
use Rattle.state_snapshot.specs.Reading.{covered_op_at}
use Rattle.state_snapshot.proofs.changes.some_covered_ops_of.Given as goal

abbrev pub invariant-loop : goal.invariant-loop
invariant-loop l =
    with_front l.ops (many_at (covered_op_at l.keys) (l.count - l.counter) l.rest) ≡ many_at (covered_op_at l.fn.keys) l.fn.count l.fn.cursor
