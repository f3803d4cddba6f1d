-- when a seat, a node with the work of its started units, stands over an order, and what its steps
-- do
use Rattle.std.specs.Prelude.{◌≡◌, ℕ, ◌==◌, Bool, true, false, cond, List, slice_get, Option, Some, None}
use Rattle.std.specs.Map.{lookup}
use Rattle.finite_map.specs.FiniteMap.{get}
use Rattle.apply_unit.specs.Task.{ModelTask}
use Rattle.order_event.specs.declared.event.Event.{Event}
use Rattle.order_event.specs.declared.step.Answer.{Answer}
use Rattle.node_meaning.specs.Node.{ModelNode}
use Rattle.node_meaning.specs.Units.{unit_task}
use Rattle.node_meaning.specs.Steps.{take_step}
use Rattle.node_core.specs.declared.answers.Started.{Started}
use Rattle.node_core.specs.declared.answers.Started.TheVariants as started
use Rattle.node_core.specs.Answers.{is_started}
use Rattle.node_core.specs.Stands.{Stands, plain_of}
use Rattle.cluster_core.specs.declared.seat.Seat as declared
use Rattle.node_core.specs.declared.node.NodeParts.{NodeParts}

-- the work that is kept for a number
abbrev pub kept_at : List (ℕ × ModelTask) → ℕ → Option ModelTask
kept_at entries number = lookup (λ k. number == k) entries

-- the work of a unit, where it is started and not finished
abbrev pub work_of : List Event → ℕ → Bool → Option ModelTask
work_of order number true = Some (unit_task order number)
work_of order number false = None

-- the parts of a node, and the work of its started units by their numbers
pub record Seat : Type 0 where
  pub node : NodeParts
  pub done : List (ℕ × ModelTask)

-- what of a seat its steps are said of: all but the watcher of its node
abbrev pub seen : {W : Type 0} → declared.Seat W → Seat
seen seat = record { node = seat.node.parts; done = seat.done.entries }

-- the node stands, and the work of each started unit is kept, and no other
pub record IsSeated (order : List Event) (seat : Seat) : Type 0 where
  pub stands : Stands order seat.node
  pub work : (number : ℕ)
      → kept_at seat.done number
      ≡ work_of order number (is_started (get seat.node.units.units number))

-- there is an order over which it stands
abbrev pub IsSomewhere : Seat → Type 0
IsSomewhere seat = (order : List Event) × IsSeated order seat

-- a step over one order: its answer and the model node after it are the model's, and the seat
-- stands
pub record SeatDone (order : List Event) (f : ModelNode → Answer × ModelNode) (old new : Seat)
    (answer : Answer) : Type 0 where
  pub same : (answer, plain_of new.node) ≡ f (plain_of old.node)
  pub seated : IsSeated order new

-- a step does what the model does, over every order over which the seat stands
abbrev pub SeatDoes : (List Event → ModelNode → Answer × ModelNode) → Seat → Seat → Answer → Type 0
SeatDoes f old new answer =
    (order : List Event) → IsSeated order old → SeatDone order (f order) old new answer

-- the event is taken, over every order whose next event it is
abbrev pub SeatTakes : Event → Seat → Seat → Answer → Type 0
SeatTakes event old new answer =
    (order : List Event) → slice_get order old.node.at.taken ≡ Some event → IsSeated order old
    → SeatDone order (take_step order) old new answer

-- after want of memory all is as it was
pub record SeatUnchanged (old new : Seat) : Type 0 where
  pub plain : plain_of new.node ≡ plain_of old.node
  pub seated : (order : List Event) → IsSeated order old → IsSeated order new

-- the work of a unit that was started is kept beside the other work
abbrev pub KeepsTask : ℕ → Started → List (ℕ × ModelTask) → List (ℕ × ModelTask) → Type 0
KeepsTask number (started.Unit task victims) old new =
    (k : ℕ) → kept_at new k ≡ cond (number == k) (Some task) (kept_at old k)
KeepsTask number (started.NotYet earlier) old new = new ≡ old
KeepsTask number started.Local old new = new ≡ old
KeepsTask number started.NoUnit old new = new ≡ old
