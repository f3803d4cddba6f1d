use Rattle.node_parts.proofs.QueueLaws.{moved_one}
use Rattle.node_parts.proofs.queue.Queue.sent_out.Goals as goal

pub returns : goal.returns
returns c = moved_one c.self.inside.messages.items c.self.inside.ordered c.args.self.now c.self.view_is c.requires
