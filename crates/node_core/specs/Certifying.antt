-- what certifying an event does to the transaction that sent it
use Rattle.std.specs.Prelude.{ℕ, ◌==◌, Bool, false, Option, None, Some, if◌then◌else◌}
use Rattle.wsrep_base.specs.declared.verdict.Verdict.{Verdict}
use Rattle.order_event.specs.declared.event.Event.{Event}
use Rattle.order_event.specs.declared.event.Event.TheVariants as event
use Rattle.node_meaning.specs.Node.{ModelNode}
use Rattle.node_meaning.specs.Steps.{told_verdict, session_of}

-- whether the event is a write set of the member
abbrev pub is_write_of : Event → ℕ → Bool
is_write_of (event.Write member body) own = member == own
is_write_of (event.View version members) own = false
is_write_of (event.Report member number) own = false

-- the transaction with this begin number is told
abbrev pub told_begun : ModelNode → ℕ → Verdict → Option ℕ → ModelNode
told_begun n number v None = n
told_begun n number v (Some begin) = told_verdict n number v (session_of n.live begin)

-- it is told where the write set is the node's own
abbrev pub told_if : Bool → Option ℕ → ℕ → Verdict → ModelNode → ModelNode
told_if own begin number v n = if own then told_begun n number v begin else n
