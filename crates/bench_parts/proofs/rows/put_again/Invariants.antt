use Rattle.std.proofs.Common.{◌≡◌}
use Rattle.finite_map.specs.FiniteMap.{empty}
use Rattle.bench_parts.proofs.rows.put_again.Given as goal

abbrev pub invariant-loop-number : goal.invariant-loop-number
invariant-loop-number g l = (g.R.Rows.table l.rows).changes ≡ empty
