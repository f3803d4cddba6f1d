use Rattle.std.proofs.Common.{arith}
use Rattle.node_core.proofs.LeaveCalls.{none_left, more_left, all_left}
use Rattle.node_core.proofs.node.NodeParts.end_sessions.Goals as goal

pub loop-session-init : goal.loop-session-init
loop-session-init c = none_left c.args.self.now c.session_end-session-end.ensures.sessions

pub loop-session-preserved : goal.loop-session-preserved
loop-session-preserved c =
    more_left c.args.self.now c.loop-session.self c.end_at_leave.new.self c.loop-session.session c.loop-session.invariant
    c.end_at_leave.ensures

pub returns : goal.returns
returns c =
    let last = c.session_end-session-end.ensures.value in
    let past = c.loop-session-test.false in
    all_left c.args.self.now c.loop-session.self c.loop-session.session c.loop-session.invariant (omega (arith, last, past))
