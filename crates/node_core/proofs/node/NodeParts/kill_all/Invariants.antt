use Rattle.std.proofs.Common.{take}
use Rattle.std.specs.Prelude.{fold}
use Rattle.node_meaning.specs.Steps.{end_killed}
use Rattle.node_core.specs.Starting.{Aborts}
use Rattle.node_core.proofs.node.NodeParts.kill_all.Given as goal

-- those before are aborted
abbrev pub invariant-loop-session : goal.invariant-loop-session
invariant-loop-session l = Aborts (λ n. fold (end_killed l.number) n (take l.session-index l.sessions)) l.fn.self l.self
