-- The newest message leaves, which is not ordered.
use Rattle.std.proofs.Common.{◌≡◌, ◌-◌, length, take, arith}
use Rattle.std.proofs.lemmas.Grind.{common_steps}
use Rattle.node_parts.proofs.QueueLaws.{newest_left}
use Rattle.node_parts.proofs.queue.Queue.take_back.Goals as goal

pub returns : goal.returns
returns c =
    let items = c.self.inside.messages.items in
    let rest : c.pop_back.new.self.items ≡ take (length items - 1) items = grind (arith, common_steps) in
    newest_left items c.pop_back.new.self.items c.self.inside.ordered c.args.self.now c.self.view_is c.self.invariant
    rest c.requires
