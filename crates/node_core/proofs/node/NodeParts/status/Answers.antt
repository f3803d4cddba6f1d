-- Certification tells the floor, the index and the open transactions.
use Rattle.node_core.specs.Stands.{plain_of}
use Rattle.node_core.proofs.StatusCalls.{status_is}
use Rattle.node_core.proofs.node.NodeParts.status.Goals as goal

pub returns : goal.returns
returns c order s =
    let at = c.args.self.now.at in
    status_is order (plain_of c.args.self.now) c.floor.result c.entries.result c.open_trx.result
    (c.floor.ensures order at.committed at.certified s.certification)
    (c.entries.ensures order at.committed at.certified s.certification)
    (c.open_trx.ensures order at.committed at.certified s.certification)
