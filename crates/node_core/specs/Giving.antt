-- what a node gives to one that joins: the events of its ring from a number on, or a snapshot
use Rattle.std.specs.Prelude.{◌≡◌, ℕ, ◌-◌, Bool, true, false, ◌&&◌, nat_le, List, length, take, drop, Option, Some, None, Result, Ok, Err}
use Rattle.order_event.specs.declared.event.Event.{Event}
use Rattle.cert_meaning.specs.Fold.{state_at}
use Rattle.gcache_ring.specs.Held.{range_of}
use Rattle.state_snapshot.specs.Rules.{IsGiven}
use Rattle.state_snapshot.specs.Spelling.{snapshot_of}
use Rattle.state_snapshot.specs.Orders.{OrderFits}
use Rattle.node_meaning.specs.Node.{ModelNode}
use Rattle.node_meaning.specs.Joining.{ring_of}
use Rattle.node_core.specs.declared.gift.Gift.{Gift}
use Rattle.node_core.specs.declared.gift.Gift.TheVariants.{Ist, Sst}
use Rattle.node_core.specs.declared.gift.GiveFault.{GiveFault}
use Rattle.node_core.specs.declared.gift.GiveFault.TheVariants.{Busy, NoMemory}
use Rattle.node_core.specs.declared.node.NodeParts.{NodeParts}
use Rattle.node_core.specs.Stands.{Stands}

-- whether a number is in the range, where there is one
abbrev pub is_in : Option (ℕ × ℕ) → ℕ → Bool
is_in None number = false
is_in (Some range) number = nat_le range.0 number && nat_le number range.1

-- whether the node gives events: the states are the same, and its ring has the first of them
abbrev pub gives_events : List Event → ModelNode → ℕ → Bool → Bool
gives_events order n from same = same && is_in (range_of (ring_of order n)) from

-- the events that it took, from this number on
abbrev pub events_from : List Event → ModelNode → ℕ → List Event
events_from order n from = drop (from - 1) (take n.at.taken order)

-- the bytes are the snapshot of the state that the node has committed, with its id
pub record IsSnapshotAt (order : List Event) (n : ModelNode) (bytes : List ℕ) : Type 0 where
  pub given : IsGiven n.id
  pub sized : length n.id ≡ 16
  pub spelled : bytes ≡ snapshot_of (state_at order n.at.committed) n.id

-- events exactly where it gives those; else a snapshot, if it has committed all that it certified
abbrev pub Gives : List Event → ModelNode → ℕ → Bool → Result Gift GiveFault → Type 0
Gives order n from same (Ok (Ist events)) =
    (gives_events order n from same ≡ true) × (events ≡ events_from order n from)
Gives order n from same (Ok (Sst bytes)) =
    (gives_events order n from same ≡ false)
    × (n.at.certified ≡ n.at.committed) × IsSnapshotAt order n bytes
Gives order n from same (Err (Busy certified committed)) =
    (gives_events order n from same ≡ false)
    × (certified ≡ n.at.certified) × (committed ≡ n.at.committed) × (certified ≡ committed → ⊥)
Gives order n from same (Err NoMemory) = Unit {0}

-- there is an order for which the node stands, whose events have numbers of their types and views
-- that can be counted
pub record CanGive (node : NodeParts) : Type 0 where
  pub order : List Event
  pub stands : Stands order node
  pub fits : OrderFits order
