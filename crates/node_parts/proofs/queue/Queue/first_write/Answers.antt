use Rattle.std.proofs.Common.{◌∙◌, sym}
use Rattle.node_meaning.specs.Steps.{is_write}
use Rattle.node_parts.proofs.QueueLaws.{item_read, found_at, found_none}
use Rattle.node_parts.proofs.queue.Queue.first_write.Goals as goal

pub returns-in-Some : goal.returns-in-Some
returns-in-Some c =
    item_read c.self.inside.messages.items c.in-Some.at c.get.result c.get.ensures.item
    ∙ found_at is_write c.self.inside.messages.items c.self.inside.ordered c.in-Some.at c.args.self.now
    c.self.view_is c.self.invariant (sym c.in-Some.ensures)

pub returns-in-None : goal.returns-in-None
returns-in-None c =
    sym (found_none is_write c.self.inside.messages.items c.self.inside.ordered c.args.self.now c.self.view_is (sym c.in-None.ensures))
