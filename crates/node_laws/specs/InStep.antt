-- a node's messages in the order, while it is in the group and once it has left
use Rattle.std.specs.Prelude.{◌≡◌, ◌<◌, ℕ, ◌==◌, false, List, [], drop, Option, Some, None, if◌then◌else◌}
use Rattle.std.specs.List.{filter_map}
use Rattle.std.specs.Ordering.{nat_cmp}
use Rattle.finite_map.specs.FiniteMap.{FiniteMap, get}
use Rattle.order_event.specs.declared.event.Event.{Event}
use Rattle.order_event.specs.declared.event.Event.TheVariants as event
use Rattle.order_event.specs.declared.event.Message.{Message}
use Rattle.order_event.specs.declared.event.Message.TheVariants as message
use Rattle.client_trx.specs.Live.{Live, is_uncommitted}
use Rattle.node_meaning.specs.Node.{ModelNode}
use Rattle.node_meaning.specs.Joining.{IsAtRest}

-- what an event was sent as, where it is the member's
abbrev pub message_of : ℕ → Event → Option Message
message_of member (event.Write sender body) =
    if sender == member then Some (message.Write body) else None
message_of member (event.Report sender number) =
    if sender == member then Some (message.Report number) else None
message_of member (event.View version members) = None

-- the member's messages among the events behind the first so many
abbrev pub messages_behind : ℕ → ℕ → List Event → List Message
messages_behind member taken order = filter_map (message_of member) (drop taken order)

-- its messages behind what it took are those that it had ordered: so while it has not left
abbrev pub IsInStep : List Event → ModelNode → Type 0
IsInStep order n = n.ordered ≡ messages_behind n.at.member n.at.taken order

-- once it has left, nothing is queued, and each live transaction has sent its commit
pub record IsCleared (ordered outbox : List Message) (live : FiniteMap nat_cmp Live) : Type 0 where
  pub none_ordered : ordered ≡ []
  pub none_waits : outbox ≡ []
  pub committing : (session : ℕ) (t : Live) → get live session ≡ Some t
      → is_uncommitted t.status ≡ false

-- while it waits for the state that it misses it is at rest, and it has not taken the view in which
-- it enters
abbrev pub IsWaiting : ModelNode → Type 0
IsWaiting n = IsAtRest n × (n.at.taken < n.at.view)
