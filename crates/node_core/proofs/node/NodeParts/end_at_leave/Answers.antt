use Rattle.node_parts.specs.Queue.{messages_of}
use Rattle.node_core.proofs.LeaveCalls.{moves_idle, moves_told}
use Rattle.node_core.proofs.node.NodeParts.end_at_leave.Goals as goal

pub returns-in-Some : goal.returns-in-Some
returns-in-Some c =
    moves_told c.args.self.now c.end.new.self c.args.session (messages_of c.args.self.now.queue) c.in-Some.reply c.put.new.self
    c.in-Some.ensures c.end.ensures c.put.ensures

pub returns-in_default : goal.returns-in_default
returns-in_default c =
    moves_idle c.args.self.now c.args.session (messages_of c.args.self.now.queue) c.in_default.ensures
