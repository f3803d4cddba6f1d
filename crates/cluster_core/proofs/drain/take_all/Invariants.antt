use Rattle.std.proofs.Common.{◌≡◌}
use Rattle.cluster_core.specs.Seated.{seen}
use Rattle.cluster_core.specs.Drain.{Takes}
use Rattle.cluster_core.proofs.drain.take_all.Given as goal

-- the order stays, and so many events were taken
abbrev pub invariant-loop : goal.invariant-loop
invariant-loop g l =
    (g.G.Group.order l.group ≡ g.G.Group.order l.fn.group)
    × (g.G.Group.faults l.group ≡ g.G.Group.faults l.fn.group)
    × Takes l.counter (g.G.Group.order l.fn.group) (seen l.fn.seat) (seen l.seat)
