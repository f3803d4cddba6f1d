use Rattle.std.proofs.Common.{◌≡◌, ◌-◌}
use Rattle.write_set.specs.Reading.{many_at, op_at}
use Rattle.wsrep_base.proofs.Fields.{with_front}
use Rattle.write_set.proofs.changes.some_ops_of.Given as goal

abbrev pub invariant-loop : goal.invariant-loop
invariant-loop l = with_front l.ops (many_at op_at (l.count - l.counter) l.rest) ≡ many_at op_at l.count l.fn.cursor
