-- what one node of a cluster and its group are after a step of that node
use Rattle.std.specs.Prelude.{◌≡◌, ℕ, ◌-◌, List, ◌∷◌, ◌++◌, map, slice_get, Some}
use Rattle.std.specs.List.{AllByRecursion}
use Rattle.order_event.specs.declared.event.Event.{Event}
use Rattle.order_event.specs.declared.step.Act.{Act}
use Rattle.order_event.specs.declared.step.Act.TheVariants as act
use Rattle.order_event.specs.declared.step.Answer.{Answer}
use Rattle.node_meaning.specs.Node.{ModelNode}
use Rattle.node_meaning.specs.Cluster.{ModelCluster, set_at, step_of}
use Rattle.node_core.specs.Stands.{plain_of}
use Rattle.cluster_core.specs.declared.seat.Seat as declared
use Rattle.cluster_core.specs.Orders.{OrderIsKept}
use Rattle.cluster_core.specs.Seated.{Seat, IsSeated, seen}
use Rattle.cluster_core.specs.declared.fault.StepFault.{StepFault}
use Rattle.node_laws.specs.Drains.{after_acts, drain_acts}
use Rattle.cluster_core.specs.Steps.{MayFail}

-- the seat stands over the order
pub record IsKept (order : List Event) (seat : Seat) : Type 0 where
  pub order_kept : OrderIsKept order
  pub seated : IsSeated order seat

-- the order grew, and the seat stands over it
pub record Goes (before now : List Event) (new : Seat) : Type 0 where
  pub more : List Event
  pub grown : now ≡ before ++ more
  pub kept : IsKept now new

abbrev pub cluster_of : List Event → List ModelNode → ModelCluster
cluster_of order nodes = record { order = order; nodes = nodes }

-- a step of the seat is the model's step in each cluster in which its node stands
pub record Acted (a : Act) (before now : List Event) (old new : Seat)
    (answer : Answer) : Type 0 where
  pub same : (nodes : List ModelNode) (i : ℕ) → slice_get nodes i ≡ Some (plain_of old.node)
      → (answer, cluster_of now (set_at nodes i (plain_of new.node)))
      ≡ step_of (cluster_of before nodes) i (plain_of old.node) a
  pub goes : Goes before now new

-- these steps lead from the one to the other
pub record Runs (acts : List Act) (before now : List Event) (old new : ModelNode) : Type 0 where
  pub is : (nodes : List ModelNode) (node : ℕ) → slice_get nodes (node - 1) ≡ Some old
      → cluster_of now (set_at nodes (node - 1) new)
      ≡ after_acts (cluster_of before nodes) node acts

-- of these steps those before this one were done, and it was not
pub record Stops (acts : List Act) (before now : List Event) (old new : ModelNode)
    (next : Act) : Type 0 where
  pub done : List Act
  pub rest : List Act
  pub front : acts ≡ done ++ next ∷ rest
  pub ran : Runs done before now old new

-- and it may come to this fault there
pub record Halts (acts : List Act) (before now : List Event) (old new : Seat)
    (fault : StepFault) : Type 0 where
  pub next : Act
  pub stops : Stops acts before now (plain_of old.node) (plain_of new.node) next
  pub may : MayFail now (plain_of new.node) next fault

-- all is as it was, and for a drain as the steps before this one leave it
abbrev pub Left : Act → List Event → List Event → ModelNode → ModelNode → Act → Type 0
Left act.Drain before now old new next = Stops (drain_acts before old) before now old new next
Left other before now old new next = (next ≡ other) × (now ≡ before) × (new ≡ old)

-- a step that could not be done
pub record Failed (a : Act) (before now : List Event) (old new : Seat)
    (fault : StepFault) : Type 0 where
  pub next : Act
  pub left : Left a before now (plain_of old.node) (plain_of new.node) next
  pub may : MayFail now (plain_of new.node) next fault
  pub goes : Goes before now new

-- all seats of a cluster stand over the order
pub record AreKept {W : Type 0} (order : List Event) (seats : List (declared.Seat W)) : Type 0 where
  pub order_kept : OrderIsKept order
  pub seated : AllByRecursion (λ s. IsSeated order (seen s)) seats

abbrev pub nodes_of : {W : Type 0} → List (declared.Seat W) → List ModelNode
nodes_of {W} seats = map (λ (s : declared.Seat W). plain_of s.node.parts) seats
