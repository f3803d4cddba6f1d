use Rattle.std.proofs.Common.{◌≡◌}
use Rattle.bench_parts.proofs.gated.loads.Given as goal

abbrev pub invariant-loop : goal.invariant-loop
invariant-loop g l = l.seat.gate ≡ l.initial.seat.gate
