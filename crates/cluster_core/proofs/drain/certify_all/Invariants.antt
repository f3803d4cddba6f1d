use Rattle.cluster_core.specs.Seated.{seen}
use Rattle.cluster_core.specs.Drain.{Certifies}
use Rattle.cluster_core.proofs.drain.certify_all.Given as goal

abbrev pub invariant-loop : goal.invariant-loop
invariant-loop g l = Certifies l.counter (seen l.fn.seat) (seen l.seat)
