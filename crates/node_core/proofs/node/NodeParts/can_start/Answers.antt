-- The model starts the unit exactly where it is startable.
use Rattle.std.proofs.Common.{◌∙◌}
use Rattle.node_core.proofs.StartCalls.{starts_by}
use Rattle.node_core.proofs.node.NodeParts.can_start.Goals as goal

pub returns : goal.returns
returns c order stands = c.is_ok.ensures.value ∙ starts_by (λ k. k.now) c.args.self.now c.args.number c.startable.result c.startable.ensures.ok c.startable.ensures.err order stands
