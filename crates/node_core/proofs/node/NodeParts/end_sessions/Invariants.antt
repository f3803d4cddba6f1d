use Rattle.node_core.proofs.LeaveCalls.{HasLeft}
use Rattle.node_core.proofs.node.NodeParts.end_sessions.Given as goal

-- the sessions before are told
abbrev pub invariant-loop-session : goal.invariant-loop-session
invariant-loop-session l = HasLeft l.fn.self l.self l.session
