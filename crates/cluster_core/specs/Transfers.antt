-- a node that joins, and what it takes of another one
use Rattle.std.specs.Prelude.{◌≡◌, ◌≤◌, ◌<◌, ℕ, ◌+◌, true, List, length, drop, slice_get, Option, Some, None, is_some, IsTrue}
use Rattle.std.specs.List.{AllByRecursion}
use Rattle.wsrep_base.specs.declared.limits.TheConstants.{MOST_EVENTS}
use Rattle.order_event.specs.declared.event.Event.{Event}
use Rattle.order_event.specs.declared.step.Act.{Act}
use Rattle.order_event.specs.declared.step.Act.TheVariants as act
use Rattle.order_event.specs.declared.step.Answer.{Answer}
use Rattle.group_order.specs.Order.{new_member}
use Rattle.node_meaning.specs.Node.{ModelNode, is_left, is_joining}
use Rattle.node_meaning.specs.Joining.{IsAtRest, received_events, received_snapshot}
use Rattle.node_meaning.specs.Facts.{own_body}
use Rattle.node_meaning.specs.Cluster.{step_at}
use Rattle.node_core.specs.declared.answers.Place.{Place}
use Rattle.node_core.specs.declared.gift.Gift.{Gift}
use Rattle.node_core.specs.declared.gift.Gift.TheVariants as gift
use Rattle.node_core.specs.declared.node.NodeParts.{NodeParts}
use Rattle.node_core.specs.Joining.{EventsFit, AreNext, IsStateAt}
use Rattle.node_core.specs.Stands.{Stands, plain_of}
use Rattle.cluster_core.specs.declared.seat.Seat as declared
use Rattle.cluster_core.specs.declared.transfer.Offer.{Offer}
use Rattle.cluster_core.specs.Orders.{OrderIsKept}
use Rattle.cluster_core.specs.Seated.{Seat, IsSeated}
use Rattle.cluster_core.specs.Steps.{TransferWants, hands_over}
use Rattle.cluster_core.specs.Acts.{AreKept, cluster_of, nodes_of}

-- ---- what holds of a node that joins
-- it is at rest, and no view had the member that it becomes
pub record CanJoin (order : List Event) (n : ModelNode) : Type 0 where
  pub rests : IsAtRest n
  pub member : n.at.member < new_member order

-- until it has the state that it misses it is at rest, and no write set behind what it took is of
-- its member
pub record Awaits (order : List Event) (n : ModelNode) : Type 0 where
  pub rests : IsAtRest n
  pub others : AllByRecursion (λ e. own_body n.at.member e ≡ None) (drop n.at.taken order)

pub record MayEnter (order : List Event) (n : ModelNode) : Type 0 where
  pub joins : is_left n.at.phase ≡ true → n.at.taken ≡ n.at.committed → CanJoin order n
  pub waits : is_joining n.at.phase ≡ true → Awaits order n

-- a step that needs no other node
abbrev pub IsAlone : Act → Type 0
IsAlone (act.Transfer donor) = ⊥
IsAlone other = Unit {0}

-- ---- what is handed over
-- the events that follow on what a node took, up to this one
pub record BringsEvents (order : List Event) (n : ModelNode) (events : List Event)
    (after : ModelNode) : Type 0 where
  pub last : ℕ
  pub becomes : after ≡ received_events last n
  pub to : n.at.taken + length events ≡ last
  pub next : AreNext order n.at.taken events
  pub fits : EventsFit events n

-- the order's state at a number, with its id
pub record BringsState (order : List Event) (n : ModelNode) (bytes : List ℕ)
    (after : ModelNode) : Type 0 where
  pub number : ℕ
  pub id : List ℕ
  pub becomes : after ≡ received_snapshot number id n
  pub state : IsStateAt order number id bytes

-- with the one or the other the node becomes that; with nothing it stays
abbrev pub Brings : List Event → ModelNode → Option Gift → ModelNode → Type 0
Brings order n None after = after ≡ n
Brings order n (Some (gift.Ist events)) after = BringsEvents order n events after
Brings order n (Some (gift.Sst bytes)) after = BringsState order n bytes after

-- memory may be wanted where something is handed over
abbrev pub OfferWants : Answer × ModelNode → Type 0
OfferWants told = IsTrue (hands_over told.0)

-- it is offered what brings it there
pub record IsOffer (order : List Event) (n : ModelNode) (told : Answer × ModelNode)
    (offer : Offer) : Type 0 where
  pub answer : offer.answer ≡ told.0
  pub hands : is_some offer.gift ≡ true → OfferWants told
  pub brings : Brings order n offer.gift told.1

-- a donor stands over a short order
pub record CanOffer (order : List Event) (donor : NodeParts) : Type 0 where
  pub stands : Stands order donor
  pub kept : OrderIsKept order
  pub short : length order ≤ MOST_EVENTS

-- what is told of a node that waits
pub record IsJoiner (order : List Event) (n : ModelNode) (place : Place)
    (committed : ℕ) : Type 0 where
  pub view : place.view ≡ n.at.view
  pub id : place.id ≡ n.id
  pub committed_is : committed ≡ n.at.committed
  pub awaits : Awaits order n

-- ---- the seat that takes it
-- it waits for the state that it misses, and this is what it misses of an order
pub record Receives (given : Gift) (seat : Seat) : Type 0 where
  pub order : List Event
  pub after : ModelNode
  pub seated : IsSeated order seat
  pub joining : is_joining seat.node.at.phase ≡ true
  pub rests : IsAtRest (plain_of seat.node)
  pub brings : Brings order (plain_of seat.node) (Some given) after

-- it becomes what the gift makes of it, and stands
pub record SeatTook (order : List Event) (after : ModelNode) (new : Seat) : Type 0 where
  pub plain : plain_of new.node ≡ after
  pub seated : IsSeated order new

abbrev pub TakesGift : Gift → Seat → Seat → Type 0
TakesGift given old new = (order : List Event) (after : ModelNode) → IsSeated order old
    → Brings order (plain_of old.node) (Some given) after → SeatTook order after new

-- ---- the whole transfer
pub record CanTransfer {W : Type 0} (order : List Event) (seats : List (declared.Seat W))
    (at : ℕ) : Type 0 where
  pub kept : AreKept order seats
  pub short : length order ≤ MOST_EVENTS
  pub enters : (n : ModelNode) → slice_get (nodes_of seats) at ≡ Some n → MayEnter order n

-- it is the model's step
pub record Transferred {W : Type 0} (order : List Event) (at donor : ℕ)
    (old new : List (declared.Seat W)) (answer : Answer) : Type 0 where
  pub same : (answer, cluster_of order (nodes_of new))
      ≡ step_at (cluster_of order (nodes_of old)) at (slice_get (nodes_of old) at)
      (act.Transfer donor)
  pub kept : AreKept order new

-- after want of memory, which comes only where something is handed over, all is as it was
pub record NotTransferred {W : Type 0} (order : List Event) (at donor : ℕ)
    (old new : List (declared.Seat W)) : Type 0 where
  pub same : nodes_of new ≡ nodes_of old
  pub wants : (n : ModelNode) → slice_get (nodes_of old) at ≡ Some n
      → TransferWants (cluster_of order (nodes_of old)) n donor
  pub kept : AreKept order new
