use Rattle.std.proofs.Common.{refl}
use Rattle.node_core.proofs.NewCalls.{started}
use Rattle.node_core.proofs.node.NodeParts.new.Goals as goal

pub returns-clause-stands : goal.returns-clause-stands
returns-clause-stands c order =
    started order _ c.args.gcache c.args.id c.args.member refl refl c.in_ok-new.ensures c.in_ok-new-2.ensures c.new-3.ensures c.new-6.ensures
    c.in_ok-new-6.ensures.ring refl c.requires.id c.new-4.ensures (c.in_ok-new-3.ensures order) c.in_ok-new-4.ensures.locks c.in_ok-new-5.ensures.committed c.in_ok-new-5.ensures.changes
