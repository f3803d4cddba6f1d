use Rattle.std.proofs.Common.{◌≡◌, ◌≤◌, take, length}
use Rattle.std.specs.Prelude.{fold}
use Rattle.node_meaning.specs.Steps.{send_rollback}
use Rattle.node_core.specs.Stands.{plain_of}
use Rattle.node_core.specs.Starting.{with_sent}
use Rattle.node_core.proofs.node.NodeParts.rollbacks.Given as goal

-- those of the sessions before are made
abbrev pub invariant-loop-session : goal.invariant-loop-session
invariant-loop-session l =
    (fold send_rollback (plain_of l.self) (take l.session-index l.sessions) ≡ with_sent (plain_of l.self) l.sent.items)
    × (length l.sent.items ≤ l.session-index)
