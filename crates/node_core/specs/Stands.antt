-- when a node of the code stands for the model node over an order, and what a call of it does
use Rattle.std.specs.Prelude.{◌≡◌, ◌≢◌, ◌≤◌, ℕ, true, List, length, take, drop, Some, None}
use Rattle.finite_map.specs.FiniteMap.{get}
use Rattle.wsrep_base.specs.StateId.{nil_id}
use Rattle.order_event.specs.declared.event.Event.{Event}
use Rattle.certification.specs.Certifies.{Certifies}
use Rattle.row_locks.specs.Alike.{HoldAlike}
use Rattle.node_meaning.specs.declared.progress.Stage.{Stage}
use Rattle.node_meaning.specs.declared.progress.Stage.TheVariants as stage
use Rattle.node_meaning.specs.Node.{ModelNode, ApplyUnit, is_connected, locks_of, rows_at}
use Rattle.node_meaning.specs.Joining.{ring_of}
use Rattle.node_meaning.specs.Facts.{Facts}
use Rattle.node_core.specs.declared.node.NodeParts.{NodeParts}
use Rattle.node_core.specs.Tabled.{Tabled}
use Rattle.node_meaning.specs.Units.{ops_at, unit_task, named_rows}
use Rattle.node_parts.specs.Units.{Work, UnitTable}

-- the model node that the code keeps
abbrev pub plain_of : NodeParts → ModelNode
plain_of node = record {
  at = node.at;
  id = node.id;
  gcache = node.ring.size;
  since = node.since;
  ordered = node.queue.ordered;
  outbox = node.queue.outbox;
  live = node.live;
  units = node.units.units;
  waiting = node.waiting;
}

-- a unit has its task once it is finished, and room for its rows
abbrev pub HasTask : List Event → ℕ → Work → Stage → Type 0
HasTask order number work stage.Started = work.done ≡ None
HasTask order number work stage.Finished = work.done ≡ Some (unit_task order number)

pub record IsWorked (order : List Event) (number : ℕ) (u : ApplyUnit) (work : Work) : Type 0 where
  pub rows : work.rows ≡ length (named_rows (ops_at order number))
  pub task : HasTask order number work u.stage

pub record AreWorked (order : List Event) (table : UnitTable) : Type 0 where
  pub worked : (number : ℕ) (u : ApplyUnit) → get table.units number ≡ Some u
      → (work : Work) × (get table.work number ≡ Some work) × IsWorked order number u work

-- locks, rows and units are those of the live transactions and units over the rows committed so far
pub record Tables (order : List Event) (node : NodeParts) : Type 0 where
  pub locks : HoldAlike node.locks.locks (locks_of node.live node.units.units)
  pub rows : Tabled (rows_at order node.at.committed) node.live node.rows
  pub units : AreWorked order node.units
  pub room : node.units.room ≤ node.rows.spare

-- what it has for a node that joins: its ring is that of the order, and its id is that of a state
-- while it is connected
pub record Serves (order : List Event) (node : NodeParts) : Type 0 where
  pub ring : node.ring ≡ ring_of order (plain_of node)
  pub since : node.since ≤ node.at.taken
  pub id : is_connected node.at.phase ≡ true → node.id ≢ nil_id

-- the node stands for the model node that it keeps
pub record Stands (order : List Event) (node : NodeParts) : Type 0 where
  pub inbox : node.inbox ≡ drop node.at.certified (take node.at.taken order)
  pub certification : Certifies order node.at.committed node.at.certified node.certification
  pub tables : Tables order node
  pub serves : Serves order node
  pub facts : Facts order (plain_of node)

-- a call over one order: its answer and the model node after it are the model's, and the node
-- stands
pub record DoneOver {A : Type 0} (order : List Event) (f : ModelNode → A × ModelNode)
    (old new : NodeParts) (answer : A) : Type 0 where
  pub same : (answer, plain_of new) ≡ f (plain_of old)
  pub stands : Stands order new

-- a call does what the model does, over every order for which the node stands
abbrev pub Does : {A : Type 0} → (List Event → ModelNode → A × ModelNode)
    → NodeParts → NodeParts → A → Type 0
Does f old new answer =
    (order : List Event) → Stands order old → DoneOver order (f order) old new answer

-- a call without an answer
abbrev pub quietly : (ModelNode → ModelNode) → List Event → ModelNode → Unit {0} × ModelNode
quietly f order n = (tt, f n)

-- the ring, the number of the last snapshot and the id stay
pub record KeepsRing (old new : NodeParts) : Type 0 where
  pub ring : new.ring ≡ old.ring
  pub since : new.since ≡ old.since
  pub id : new.id ≡ old.id

-- after want of memory all is as it was; there may be more room
pub record Unchanged (old new : NodeParts) : Type 0 where
  pub plain : plain_of new ≡ plain_of old
  pub inbox : new.inbox ≡ old.inbox
  pub ring : new.ring ≡ old.ring
  pub certification : new.certification ≡ old.certification
  pub work : new.units.work ≡ old.units.work
  pub unit_room : new.units.room ≡ old.units.room
  pub locks : new.locks.locks ≡ old.locks.locks
  pub committed : new.rows.committed ≡ old.rows.committed
  pub changes : new.rows.changes ≡ old.rows.changes
  pub room : old.rows.spare ≤ new.rows.spare

-- in the middle of a call: the tables go along with the model node, and nothing else moves
pub record Moves (f : ModelNode → ModelNode) (old new : NodeParts) : Type 0 where
  pub plain : plain_of new ≡ f (plain_of old)
  pub inbox : new.inbox ≡ old.inbox
  pub ring : KeepsRing old new
  pub certification : new.certification ≡ old.certification
  pub tables : (order : List Event) → Tables order old → Tables order new

-- there is an order for which the node stands: so a node is at its start, and each call keeps it
abbrev pub IsStanding : NodeParts → Type 0
IsStanding node = (order : List Event) × Stands order node
