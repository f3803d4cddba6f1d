-- A transaction ends, in each part.
use Rattle.node_core.proofs.ClientCalls.{moves_ended}
use Rattle.node_core.proofs.node.NodeParts.end.Goals as goal

pub returns : goal.returns
returns c =
    moves_ended c.args.self.now c.args.session c.take-ended.new.self c.release.new.self
    c.roll_back.new.self c.take-ended.ensures.after c.release.ensures.locks
    c.roll_back.ensures.committed c.roll_back.ensures.changes c.roll_back.ensures.spare
