-- where a call of a node may want memory
use Rattle.std.specs.Prelude.{◌≡◌, ◌≤◌, ℕ, Bool, true, false, List, None, IsTrue}
use Rattle.finite_map.specs.FiniteMap.{get}
use Rattle.row_model.specs.declared.calls.Call.{Call}
use Rattle.order_event.specs.declared.event.Event.{Event}
use Rattle.order_event.specs.declared.step.Answer.{Answer}
use Rattle.order_event.specs.declared.step.Answer.TheVariants as answer
use Rattle.node_meaning.specs.Node.{ModelNode, is_connected}
use Rattle.node_meaning.specs.Steps.{start_step}
use Rattle.node_core.specs.Client.{closed_by, takes_memory}

-- a session's call, where no answer waits for it, no rule before the table of calls answers it, and
-- the table takes memory
abbrev pub CallWants : ModelNode → ℕ → Call → Type 0
CallWants n session call =
    (get n.waiting session ≡ None) × (closed_by n.at (get n.live session) ≡ None)
    × IsTrue (takes_memory (get n.live session) call)

-- taking an event, where the node is connected
abbrev pub TakeWants : ModelNode → Type 0
TakeWants n = IsTrue (is_connected n.at.phase)

-- certifying, where something that was taken is left
abbrev pub CertifyWants : ModelNode → Type 0
CertifyWants n = n.at.certified ≡ n.at.taken → ⊥

abbrev pub is_start : Answer → Bool
is_start (answer.Started number victims) = true
is_start other = false

-- whether the unit with a number starts
abbrev pub starts : List Event → ModelNode → ℕ → Bool
starts order n number = is_start (start_step order n number).0

-- starting a unit, where it starts
abbrev pub StartWants : List Event → ModelNode → ℕ → Type 0
StartWants order n number = IsTrue (starts order n number)

-- reporting, where the node is connected and has committed the view in which it entered
abbrev pub ReportWants : ModelNode → Type 0
ReportWants n = IsTrue (is_connected n.at.phase) × (n.at.view ≤ n.at.committed)
