-- what a node becomes as it takes the next event
use Rattle.std.specs.Prelude.{◌+◌, List, [], ◌∷◌, ◌++◌, Bool, true, false}
use Rattle.order_event.specs.declared.event.Event.{Event}
use Rattle.gcache_ring.specs.Held.{with_event as with_pushed, with_events}
use Rattle.node_meaning.specs.Steps.{is_write}
use Rattle.node_parts.specs.Queue.{Queued, taken as without_oldest}
use Rattle.node_core.specs.declared.answers.Taken.{Taken}
use Rattle.node_core.specs.declared.answers.Taken.TheVariants as taken
use Rattle.node_core.specs.declared.node.NodeParts.{NodeParts}

-- the event is in the inbox and pushed to the ring
abbrev pub kept : NodeParts → Event → NodeParts
kept node e = record node { inbox = node.inbox ++ e ∷ []; ring = with_pushed node.ring e }

-- these events are, one after another
abbrev pub all_kept : NodeParts → List Event → NodeParts
all_kept node events =
    record node { inbox = node.inbox ++ events; ring = with_events node.ring events }

-- the event is in the inbox and pushed to the ring, and the queue is this one
abbrev pub with_event : NodeParts → Event → Queued → NodeParts
with_event node e queue = record node {
  at = record node.at { taken = node.at.taken + 1 };
  inbox = node.inbox ++ e ∷ [];
  ring = with_pushed node.ring e;
  queue = queue;
}

-- it is taken
abbrev pub took_with : NodeParts → Event → Queued → Taken × NodeParts
took_with node e queue = (taken.Took (node.at.taken + 1), with_event node e queue)

-- a write set of the node's own member, which is the oldest that it had ordered, or is not
abbrev pub taken_own : Bool → NodeParts → Event → Taken × NodeParts
taken_own false node e = (taken.Split (node.at.taken + 1), node)
taken_own true node e = took_with node e (without_oldest is_write node.queue)
