use Rattle.std.proofs.Common.{◌≡◌}
use Rattle.node_gate_tests.proofs.waits.await_number.Given as goal

abbrev pub invariant-loop : goal.invariant-loop
invariant-loop l = l.seat.gate ≡ l.gate
