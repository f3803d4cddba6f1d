-- what a node that joins takes of another node
use Rattle.std.specs.Prelude.{◌≡◌, ◌≢◌, ◌≤◌, ℕ, ◌+◌, List, length, take, drop, None, Ok, Err}
use Rattle.std.specs.List.{AllByRecursion}
use Rattle.wsrep_base.specs.StateId.{nil_id}
use Rattle.wsrep_base.specs.declared.limits.TheConstants.{MOST_EVENTS}
use Rattle.order_event.specs.declared.event.Event.{Event}
use Rattle.order_event.specs.Spelling.{HasFewMembers}
use Rattle.cert_meaning.specs.State.{FoldState}
use Rattle.cert_meaning.specs.Fold.{state_at}
use Rattle.certification.specs.Certifies.{ModelCertification}
use Rattle.gcache_ring.specs.Held.{empty_ring}
use Rattle.undo_rows.specs.RowTable.{RowTable}
use Rattle.node_meaning.specs.declared.progress.Phase.TheVariants as phase
use Rattle.state_snapshot.specs.Rules.{IsGiven}
use Rattle.state_snapshot.specs.Spelling.{snapshot_of}
use Rattle.state_snapshot.specs.Orders.{OrderFits}
use Rattle.state_snapshot.specs.Reading.{installed}
use Rattle.state_snapshot.specs.declared.fault.SnapFault.TheVariants as snap
use Rattle.node_meaning.specs.Node.{ModelNode}
use Rattle.node_meaning.specs.Joining.{received_events, received_snapshot}
use Rattle.node_meaning.specs.Facts.{own_body}
use Rattle.node_core.specs.declared.gift.Gift.{Gift}
use Rattle.node_core.specs.declared.gift.Gift.TheVariants.{Ist, Sst}
use Rattle.node_core.specs.declared.gift.ReceiveFault.{ReceiveFault}
use Rattle.node_core.specs.declared.gift.ReceiveFault.TheVariants.{Snap, NoMemory}
use Rattle.node_core.specs.declared.node.NodeParts.{NodeParts}
use Rattle.node_core.specs.Stands.{Stands, DoneOver, quietly}

-- ---- what is handed over
-- events for the node: few, of which each view's members can be counted, and none is a write set of
-- its member; and they come only where it has a state
pub record EventsFit (events : List Event) (n : ModelNode) : Type 0 where
  pub few : n.at.taken + length events ≤ MOST_EVENTS
  pub members : AllByRecursion HasFewMembers events
  pub others : AllByRecursion (λ e. own_body n.at.member e ≡ None) events
  pub given : n.id ≢ nil_id

abbrev pub GiftFits : Gift → ModelNode → Type 0
GiftFits (Ist events) n = EventsFit events n
GiftFits (Sst bytes) n = Unit {0}

-- the events of the order that follow on a number are these
abbrev pub AreNext : List Event → ℕ → List Event → Type 0
AreNext order taken events = take (length events) (drop taken order) ≡ events

-- the bytes are the snapshot of the order's state at a number, with an id that is not nil
pub record IsStateAt (order : List Event) (number : ℕ) (id bytes : List ℕ) : Type 0 where
  pub within : number ≤ length order
  pub few : number ≤ MOST_EVENTS
  pub fits : OrderFits order
  pub sized : length id ≡ 16
  pub given : IsGiven id
  pub spelled : bytes ≡ snapshot_of (state_at order number) id

-- ---- what the node does with it
-- it took all the events at once, of every order in which they are the next ones
pub record TookEvents (events : List Event) (old new : NodeParts) (last : ℕ) : Type 0 where
  pub to : last ≡ old.at.taken + length events
  pub does : (order : List Event) → AreNext order old.at.taken events → Stands order old
      → DoneOver order (quietly (received_events last) order) old new tt

-- it took the state that the bytes spell; where this is an order's, it stands for that order
pub record TookSnapshot (bytes : List ℕ) (old new : NodeParts) (last : ℕ) : Type 0 where
  pub state : FoldState
  pub named : List ℕ
  pub is : installed bytes ≡ Ok (state, named)
  pub to : last ≡ state.number
  pub does : (order : List Event) (number : ℕ) (id : List ℕ) → IsStateAt order number id bytes
      → Stands order old
      → (last ≡ number) × DoneOver order (quietly (received_snapshot number id) order) old new tt

abbrev pub Received : Gift → NodeParts → NodeParts → ℕ → Type 0
Received (Ist events) = TookEvents events
Received (Sst bytes) = TookSnapshot bytes

-- the first fault of bytes that are no snapshot
abbrev pub IsFaultOf : Gift → ReceiveFault → Type 0
IsFaultOf gift NoMemory = Unit {0}
IsFaultOf (Ist events) (Snap fault) = ⊥
IsFaultOf (Sst bytes) (Snap fault) = (installed bytes ≡ Err fault) × (fault ≢ snap.NoMemory)

-- a node that installed a state with a number, whose ring is empty from there on
abbrev pub has_installed : NodeParts → ℕ → List ℕ → RowTable → ModelCertification → NodeParts
has_installed node number id rows certification = record node {
  at = record node.at {
    phase = phase.Connected;
    taken = number;
    certified = number;
    committed = number;
  };
  id = id;
  certification = certification;
  rows = rows;
  ring = empty_ring node.ring.size number;
  since = number;
}
