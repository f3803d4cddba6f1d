-- the parts that a drain is made of
use Rattle.std.specs.Prelude.{◌≡◌, ◌≤◌, ◌<◌, ℕ, ◌+◌, ◌-◌, List, length, replicate}
use Rattle.wsrep_base.specs.declared.limits.TheConstants.{MOST_EVENTS}
use Rattle.finite_map.specs.FiniteMap.{len}
use Rattle.wsrep_base.specs.declared.limits.TheConstants.{NUMBERS_END}
use Rattle.order_event.specs.declared.event.Event.{Event}
use Rattle.order_event.specs.declared.step.Act.{Act}
use Rattle.order_event.specs.declared.step.Act.TheVariants as act
use Rattle.node_meaning.specs.Node.{ModelNode}
use Rattle.node_meaning.specs.Steps.{take_step, certify_step, commit_next, times}
use Rattle.node_core.specs.Stands.{plain_of}
use Rattle.cluster_core.specs.declared.fault.StepFault.{StepFault}
use Rattle.cluster_core.specs.Seated.{Seat, IsSeated}
use Rattle.node_laws.specs.Drains.{all_sent, commit_acts}
use Rattle.cluster_core.specs.Acts.{Goes, Runs, Halts}

-- so many messages were ordered, the oldest first
pub record Sent (count : ℕ) (before now : List Event) (old new : Seat) : Type 0 where
  pub all : all_sent now (plain_of new.node) ≡ all_sent before (plain_of old.node)
  pub left : length new.node.queue.outbox ≡ length old.node.queue.outbox - count
  pub ran : Runs (replicate count act.Order) before now (plain_of old.node) (plain_of new.node)
  pub goes : Goes before now new

-- not all of them were
pub record SentFew (count : ℕ) (before now : List Event) (old new : Seat)
    (fault : StepFault) : Type 0 where
  pub halts : Halts (replicate count act.Order) before now old new fault
  pub goes : Goes before now new

-- these steps were done, which lead to this node
pub record Part (acts : List Act) (order : List Event) (to : ModelNode)
    (old new : Seat) : Type 0 where
  pub plain : plain_of new.node ≡ to
  pub ran : Runs acts order order (plain_of old.node) (plain_of new.node)
  pub seated : IsSeated order new

-- not all of them were
pub record PartDone (acts : List Act) (order : List Event) (old new : Seat)
    (fault : StepFault) : Type 0 where
  pub halts : Halts acts order order old new fault
  pub seated : IsSeated order new

abbrev pub take_next : List Event → ModelNode → ModelNode
take_next order n = (take_step order n).1

abbrev pub certify_next : List Event → ModelNode → ModelNode
certify_next order n = (certify_step order n).1

-- so many events were taken
abbrev pub Takes : ℕ → List Event → Seat → Seat → Type 0
Takes count order old new =
    Part (replicate count act.Take) order
    (times count (take_next order) (plain_of old.node)) old new

abbrev pub TakesFew : ℕ → List Event → Seat → Seat → StepFault → Type 0
TakesFew count order old new fault = PartDone (replicate count act.Take) order old new fault

-- so many events were certified, over every order over which the seat stands
abbrev pub Certifies : ℕ → Seat → Seat → Type 0
Certifies count old new = (order : List Event) → IsSeated order old
    → Part (replicate count act.Certify) order
    (times count (certify_next order) (plain_of old.node)) old new

abbrev pub CertifiesFew : ℕ → Seat → Seat → StepFault → Type 0
CertifiesFew count old new fault =
    (order : List Event) → IsSeated order old
    → PartDone (replicate count act.Certify) order old new fault

-- so many numbers were committed
abbrev pub Commits : ℕ → Seat → Seat → Type 0
Commits count old new = (order : List Event) → IsSeated order old
    → Part (commit_acts order count (plain_of old.node)) order
    (times count (commit_next order) (plain_of old.node)) old new

abbrev pub CommitsFew : ℕ → Seat → Seat → StepFault → Type 0
CommitsFew count old new fault = (order : List Event) → IsSeated order old
    → PartDone (commit_acts order count (plain_of old.node)) order old new fault

-- there is an order of a countable length over which it stands
abbrev pub IsSomewhereShort : Seat → Type 0
IsSomewhereShort seat = (order : List Event) × IsSeated order seat × (length order ≤ MOST_EVENTS)

-- there are serials for one more write set, and for one of each live transaction
abbrev pub HasSerials : Seat → Type 0
HasSerials seat = seat.node.at.serial + len seat.node.live < NUMBERS_END
