-- The node takes what is given.
use Rattle.std.proofs.Common.{IfOk, sym, subst}
use Rattle.node_core.specs.declared.gift.Gift.{Gift}
use Rattle.node_core.specs.Joining.{Received}
use Rattle.node_core.proofs.node.NodeParts.receive.Goals as goal

pub returns-in_ok-take_events-in-Ist-clause-ok : goal.returns-in_ok-take_events-in-Ist-clause-ok
returns-in_ok-take_events-in-Ist-clause-ok c =
    subst (λ (g : Gift). Received g c.args.self.now c.take_events.new.self
    c.in_ok-take_events-in-Ist.field-0) (sym c.in-Ist.is) c.in_ok-take_events-in-Ist.ensures.ok

pub returns-in-Sst-clause-ok : goal.returns-in-Sst-clause-ok
returns-in-Sst-clause-ok c =
    subst (λ (g : Gift). IfOk c.take_snapshot.result
    (λ last. Received g c.args.self.now c.take_snapshot.new.self last)) (sym c.in-Sst.is)
    c.take_snapshot.ensures.ok
