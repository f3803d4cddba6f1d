use Rattle.std.proofs.Common.{◌≡◌}
use Rattle.cluster_core.specs.Seated.{seen}
use Rattle.cluster_core.specs.Drain.{Sent}
use Rattle.cluster_core.proofs.drain.order_all.Given as goal

abbrev pub invariant-loop : goal.invariant-loop
invariant-loop g l =
    (g.G.Group.faults l.group ≡ g.G.Group.faults l.fn.group)
    × Sent l.counter (g.G.Group.order l.fn.group) (g.G.Group.order l.group) (seen l.fn.seat) (seen l.seat)
