use Rattle.std.proofs.Common.{◌∙◌, sym}
use Rattle.node_parts.specs.Queue.{messages_of}
use Rattle.node_core.proofs.LeaveCalls.{told_sent}
use Rattle.node_core.proofs.node.NodeParts.told_at_leave.Goals as goal

pub returns-in-CommitSent : goal.returns-in-CommitSent
returns-in-CommitSent c =
    c.where_untaken.ensures
    ∙ told_sent (messages_of c.args.self.now.queue) _ c.in-Some.trx.now c.status.result c.begin_number.result
    (sym c.in-Some.ensures) c.status.ensures c.in-CommitSent.is c.begin_number.ensures
