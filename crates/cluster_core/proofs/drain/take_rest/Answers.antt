-- A node that is not connected takes nothing, as the model's.
use Rattle.std.proofs.Common.{sym, ◌∙◌}
use Rattle.cluster_core.specs.Seated.{seen}
use Rattle.cluster_core.proofs.DrainLaws.{idle_takes}
use Rattle.cluster_core.proofs.drain.take_rest.Goals as goal

pub returns-else-is_connected-clause-ok : goal.returns-else-is_connected-clause-ok
returns-else-is_connected-clause-ok g c =
    idle_takes (g.G.Group.order c.args.group.now) (seen c.args.seat.now)
    (sym c.is_connected.ensures ∙ c.if-is_connected.false) c.requires.kept c.args.count
