use Rattle.std.proofs.Common.{ap, ◌∙◌}
use Rattle.node_parts.proofs.QueueLaws.{queue_of, kept}
use Rattle.node_parts.proofs.queue.Queue.keep.Goals as goal

pub returns-then-outbox-outbox_len : goal.returns-then-outbox-outbox_len
returns-then-outbox-outbox_len c =
    ap (λ messages. queue_of messages c.self.inside.ordered) c.truncate.ensures.items
    ∙ kept c.self.inside.messages.items c.self.inside.ordered c.args.outbox c.args.self.now c.self.view_is
