use Rattle.node_core.proofs.LeaveCalls.{sent_sets, has_departed}
use Rattle.node_core.proofs.node.NodeParts.leave.Goals as goal

pub end_sessions-requires : goal.end_sessions-requires
end_sessions-requires c = record { sets = sent_sets c.requires.stands.0 c.args.self.now c.requires.stands.1 }

pub returns : goal.returns
returns c =
    has_departed c.args.self.now c.end_sessions.new.self c.clear.new.self c.end_sessions.ensures c.clear.ensures
