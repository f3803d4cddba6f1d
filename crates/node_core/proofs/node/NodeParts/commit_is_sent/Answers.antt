-- The transaction that was taken out is put back, with its commit sent.
use Rattle.node_core.proofs.ClientCalls.{commit_by_none, commit_put}
use Rattle.node_core.proofs.node.NodeParts.commit_is_sent.Goals as goal

pub returns-in_default : goal.returns-in_default
returns-in_default c =
    commit_by_none c.args.self.now c.args.session c.take.new.self c.in_default.ensures.value c.take.ensures.after

pub returns : goal.returns
returns c =
    commit_put c.args.self.now c.args.session c.in-Some.trx c.send_commit.new.self c.take.new.self c.put.new.self
    c.in-Some.ensures.value c.take.ensures.after c.send_commit.ensures c.put.ensures
