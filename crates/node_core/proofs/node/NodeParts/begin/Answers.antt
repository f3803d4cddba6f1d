-- A transaction begins at a session that has none.
use Rattle.std.proofs.Common.{ap, sym, ◌∙◌}
use Rattle.finite_map.specs.FiniteMap.{insert}
use Rattle.node_core.proofs.ClientCalls.{began}
use Rattle.node_core.proofs.node.NodeParts.begin.Goals as goal

pub returns-clause-ok : goal.returns-clause-ok
returns-clause-ok c order st =
    began order c.args.self.now c.args.session c.args.unit c.put.new.self
    (sym c.contains.ensures ∙ c.if-contains.false)
    (c.put.ensures ∙ ap (insert c.args.self.now.live c.args.session) c.in_ok-trx.ensures) st
