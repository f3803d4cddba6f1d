use Rattle.node_core.proofs.KillCalls.{kills_more}
use Rattle.node_core.proofs.node.NodeParts.kill_all.Goals as goal

pub loop-session-preserved : goal.loop-session-preserved
loop-session-preserved c =
    kills_more c.args.number c.args.sessions.now c.loop-session.session-index _ c.args.self.now c.loop-session.self c.kill.new.self
    c.loop-session-test.true c.loop-session.invariant c.kill.ensures
