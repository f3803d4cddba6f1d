use Rattle.std.proofs.Common.{◌∙◌}
use Rattle.node_parts.proofs.CommitLaws.{commits_in}
use Rattle.node_parts.proofs.queue.Queue.has_commit_of.Goals as goal

pub returns : goal.returns
returns c of =
    c.commit_is_in.ensures
    ∙ commits_in c.self.inside.messages.items c.self.inside.ordered c.args.begin c.args.self.now c.self.view_is of
