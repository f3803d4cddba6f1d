use Rattle.cluster_core.specs.Seated.{seen}
use Rattle.cluster_core.specs.Drain.{Commits}
use Rattle.cluster_core.proofs.drain.commit_all.Given as goal

abbrev pub invariant-loop : goal.invariant-loop
invariant-loop g l = Commits l.counter (seen l.fn.seat) (seen l.seat)
