-- the course of one node over an order that grows: what it does, and what others order
use Rattle.std.specs.Prelude.{◌≡◌, ◌≤◌, ◌<◌, ◌^◌, ℕ, ◌+◌, ◌==◌, ◌&&◌, Bool, not, true, false, List, [], ◌∷◌, ◌++◌, length, map, None, if◌then◌else◌}
use Rattle.std.specs.List.{AllByRecursion, list_any}
use Rattle.order_event.specs.declared.event.Event.{Event}
use Rattle.order_event.specs.declared.event.Event.TheVariants as event
use Rattle.order_event.specs.declared.event.Message.{Message}
use Rattle.order_event.specs.declared.step.Act.{Act}
use Rattle.order_event.specs.declared.step.Act.TheVariants as act
use Rattle.group_order.specs.Order.{event_of, start_order, view_without, view_with, new_member}
use Rattle.node_meaning.specs.Node.{ModelNode, is_left, is_joining, start_node}
use Rattle.node_meaning.specs.Leaving.{left_node}
use Rattle.node_meaning.specs.Joining.{joined_node, received_events, received_snapshot}
use Rattle.node_meaning.specs.Steps.{sent_out, node_step, drained}
use Rattle.node_laws.specs.Fits.{ActFits}
use Rattle.node_laws.specs.InStep.{message_of}

-- the order so far, the node, and the members that it was before
pub record Course : Type 0 where
  pub order : List Event
  pub node : ModelNode
  pub former : List ℕ

-- what may happen next
pub data Happens : Type 0 where
  -- others order events
  Others : (events : List Event) → Happens
  -- the node does a step
  Does : (a : Act) → Happens
  -- it takes the events of a donor at once, up to this one
  Takes : (last : ℕ) → Happens
  -- it takes a donor's snapshot of the state at this number, with that state's id
  Installs : (number : ℕ) (id : List ℕ) → Happens

-- the oldest message of the outbox takes the next number
abbrev pub first_event : ModelNode → List Message → List Event
first_event n [] = []
first_event n (m ∷ ms) = event_of n.at.member m ∷ []

-- all of the outbox is ordered, and then everything is taken, certified and committed
abbrev pub drain_over : Course → List Event → Course
drain_over c order = record c {
  order = order;
  node =
      drained order
      (record c.node { ordered = c.node.ordered ++ c.node.outbox; outbox = [] });
}

-- a view without the node's member is ordered, and the node has left
abbrev pub leave_over : Course → Course
leave_over c = record c {
  order = c.order ++ view_without c.order c.node.at.member ∷ [];
  node = left_node c.node;
}

-- a view with a new member is ordered, and the node is that member
abbrev pub join_over : Bool → Course → Course
join_over fresh c =
    let member = new_member c.order in record {
      order = c.order ++ view_with c.order member ∷ [];
      node = joined_node fresh member (length c.order + 1) c.node;
      former = c.node.at.member ∷ c.former;
    }

abbrev pub does : Course → Act → Course
does c act.Order = record c {
  order = c.order ++ first_event c.node c.node.outbox;
  node = sent_out c.node;
}
does c act.Drain = drain_over c (c.order ++ map (event_of c.node.at.member) c.node.outbox)
does c act.Leave = if is_left c.node.at.phase then c else leave_over c
does c (act.Join fresh) =
    if is_left c.node.at.phase && c.node.at.taken == c.node.at.committed
    then join_over fresh c else c
does c other = record c { node = (node_step c.order c.node other).1 }

abbrev pub next : Course → Happens → Course
next c (Others events) = record c { order = c.order ++ events }
next c (Does a) = does c a
next c (Takes last) = record c { node = received_events last c.node }
next c (Installs number id) = record c { node = received_snapshot number id c.node }

abbrev pub course : Course → List Happens → Course
course c [] = c
course c (h ∷ happens) = course (next c h) happens

-- ---- what may happen
-- an event of others is none of the member's, and a view of others has the member exactly while its
-- node has not left
abbrev pub IsOfOthers : ℕ → Bool → Event → Type 0
IsOfOthers member left (event.Write sender body) = sender == member ≡ false
IsOfOthers member left (event.View version members) = list_any (λ k. k == member) members ≡ not left
IsOfOthers member left (event.Report sender number) = sender == member ≡ false

-- so it is with the node's member; and each member that the node was before has left
abbrev pub AreOfOthers : Course → List Event → Type 0
AreOfOthers c events =
    AllByRecursion (IsOfOthers c.node.at.member (is_left c.node.at.phase)) events
    × AllByRecursion (λ k. AllByRecursion (IsOfOthers k true) events) c.former

-- a call of the node has names in their form and values in range; where a join is not refused, the
-- new member is in range, and no message of it is ordered
abbrev pub DoesFit : Course → Act → Type 0
DoesFit c (act.Join fresh) =
    is_left c.node.at.phase ≡ true → c.node.at.taken ≡ c.node.at.committed
    → (new_member c.order < 2 ^ 32)
    × AllByRecursion (λ (e : Event). message_of (new_member c.order) e ≡ None) c.order
DoesFit c other = ActFits other

-- what a node that joins takes reaches the view in which its member enters, and is there
abbrev pub MayTake : Course → ℕ → Type 0
MayTake c last =
    (is_joining c.node.at.phase ≡ true) × (c.node.at.view ≤ last) × (last ≤ length c.order)

abbrev pub Fits : Course → Happens → Type 0
Fits c (Others events) = AreOfOthers c events
Fits c (Does a) = DoesFit c a
Fits c (Takes last) = MayTake c last
Fits c (Installs number id) = MayTake c number

abbrev pub AllFit : Course → List Happens → Type 0
AllFit c [] = Unit {0}
AllFit c (h ∷ happens) = Fits c h × AllFit (next c h) happens

-- node `member` of so many at its start, with a ring of so many bytes
abbrev pub start_course : ℕ → ℕ → List ℕ → ℕ → Course
start_course nodes gcache id member =
    record { order = start_order nodes; node = start_node gcache id member; former = [] }
