-- when the unit of a commit can start, and what the steps of its start leave
use Rattle.std.specs.Prelude.{◌≡◌, ◌≤◌, ◌<◌, ℕ, ◌+◌, false, List, ◌++◌, length, Option, Some, None}
use Rattle.finite_map.specs.FiniteMap.{FiniteMap, get}
use Rattle.std.specs.Ordering.{nat_cmp}
use Rattle.wsrep_base.specs.declared.ids.TrxId.{TrxId}
use Rattle.key_sets.specs.Keys.{Keys, touches}
use Rattle.row_model.specs.Rows.{Rows}
use Rattle.order_event.specs.declared.event.Event.{Event}
use Rattle.order_event.specs.declared.event.Message.{Message}
use Rattle.order_event.specs.declared.event.Message.TheVariants as message
use Rattle.order_event.specs.declared.step.Answer.TheVariants as answer
use Rattle.write_set.specs.declared.write_set.WriteSet.{WriteSet}
use Rattle.write_set.specs.Spelling.{spelling}
use Rattle.cert_meaning.specs.declared.items.CommitItem.{CommitItem}
use Rattle.client_trx.specs.Live.{Live, rollback_due}
use Rattle.row_locks.specs.Locks.{touching_sessions}
use Rattle.row_locks.specs.Alike.{HoldAlike}
use Rattle.node_meaning.specs.Node.{ModelNode, ApplyUnit, locks_of}
use Rattle.node_meaning.specs.Facts.{commit_at}
use Rattle.node_meaning.specs.Steps.{is_local, started, start_step}
use Rattle.node_parts.specs.Queue.{all_queued}
use Rattle.node_parts.specs.Units.{added}
use Rattle.node_core.specs.declared.node.NodeParts.{NodeParts}
use Rattle.node_core.specs.declared.answers.Started.{Started}
use Rattle.node_core.specs.Tabled.{Tabled}
use Rattle.node_core.specs.Answers.{started_answer, GivesTask}
use Rattle.node_core.specs.Stands.{Stands, KeepsRing, DoneOver, plain_of}
use Rattle.node_core.specs.Memory.{is_start}

-- a commit that passed and is not committed, has no unit and is no live transaction's, and is
-- touched by none before it
pub record CanStart (order : List Event) (node : NodeParts) (number : ℕ)
    (keys : Keys) : Type 0 where
  pub stands : Stands order node
  pub above : node.at.committed < number
  pub within : number ≤ node.at.certified
  pub label : ℕ
  pub trx : TrxId
  pub is_commit : commit_at order number ≡ Some (record { number = label; trx = trx; keys = keys })
  pub fresh : get node.units.units number ≡ None
  pub remote : is_local node.live number ≡ false
  pub clear : (earlier : ℕ) (c : CommitItem) → node.at.committed < earlier → earlier < number
      → commit_at order earlier ≡ Some c
      → touches c.keys keys ≡ false

-- the unit starts, and aborts who is in its way
abbrev pub unit_started : ℕ → Keys → ModelNode → answer.the_data × ModelNode
unit_started number keys n =
    started n number keys (touching_sessions (locks_of n.live n.units) keys)

-- the message of a write set
abbrev pub written : Option WriteSet → Option Message
written None = None
written (Some set) = Some (message.Write (spelling set))

-- the rollback that the end of a session's transaction leaves, by serial and last seen
abbrev pub rollback_message : Option Live → ℕ → ℕ → Option Message
rollback_message None serial last_seen = None
rollback_message (Some t) serial last_seen = written (rollback_due t serial last_seen)

-- these messages are sent, each with a serial of its own
abbrev pub with_sent : ModelNode → List Message → ModelNode
with_sent n sent = record n {
  at = record n.at { serial = n.at.serial + length sent };
  outbox = n.outbox ++ sent;
}

-- these messages are sent, and a unit starts
abbrev pub entered : NodeParts → ℕ → Keys → ℕ → List Message → NodeParts
entered node number keys rows sent = record node {
  at = record node.at { serial = node.at.serial + length sent };
  queue = all_queued node.queue sent;
  units = added node.units number keys rows;
}

-- the unit of these keys is what the model starts
pub record IsStartable (order : List Event) (node : NodeParts) (number : ℕ)
    (keys : Keys) : Type 0 where
  pub can : CanStart order node number keys
  pub is : start_step order (plain_of node) number ≡ unit_started number keys (plain_of node)

-- the model starts no unit, and answers so
pub record IsRefused (order : List Event) (node : NodeParts) (number : ℕ)
    (refused : Started) : Type 0 where
  pub done : DoneOver order (λ n. start_step order n number) node node
      (started_answer number refused)
  pub idle : is_start (started_answer number refused) ≡ false
  pub task : GivesTask order number refused

-- the unit is started over one order, and its task is given
pub record IsStartedOver (order : List Event) (number : ℕ) (keys : Keys) (old new : NodeParts)
    (given : Started) : Type 0 where
  pub task : GivesTask order number given
  pub done : DoneOver order (unit_started number keys) old new (started_answer number given)

-- in the middle of aborting: locks and rows go along with the live transactions, and the units stay
pub record Aborts (f : ModelNode → ModelNode) (old new : NodeParts) : Type 0 where
  pub plain : plain_of new ≡ f (plain_of old)
  pub at : new.at ≡ old.at
  pub inbox : new.inbox ≡ old.inbox
  pub ring : KeepsRing old new
  pub certification : new.certification ≡ old.certification
  pub units : new.units ≡ old.units
  pub spare : old.locks.spare ≤ new.locks.spare
  pub room : old.rows.spare ≤ new.rows.spare
  pub locks : (older : FiniteMap nat_cmp ApplyUnit)
      → HoldAlike old.locks.locks (locks_of old.live older)
      → HoldAlike new.locks.locks (locks_of new.live older)
  pub rows : (rows : Rows) → Tabled rows old.live old.rows → Tabled rows new.live new.rows
