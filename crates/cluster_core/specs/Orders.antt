-- what holds of the order of a cluster
use Rattle.std.specs.Prelude.{◌≤◌, ◌<◌, ◌^◌, ◌+◌, List, length}
use Rattle.std.specs.List.{AllByRecursion}
use Rattle.order_event.specs.declared.event.Event.{Event}
use Rattle.order_event.specs.declared.event.Event.TheVariants as event
use Rattle.order_event.specs.declared.event.Message.{Message}
use Rattle.order_event.specs.declared.event.Message.TheVariants as message
use Rattle.order_event.specs.Laws.{AreBytes}
use Rattle.group_order.specs.Order.{last_view, last_member}

-- an event's numbers are of their types, the body of a write set is bytes, and the members of a
-- view can be counted in four bytes
abbrev pub EventFits : Event → Type 0
EventFits (event.Write member body) = AreBytes body
EventFits (event.View version members) =
    (version < 2 ^ 32) × AllByRecursion (λ member. member < 2 ^ 32) members
    × (length members < 2 ^ 32)
EventFits (event.Report member number) = Unit {0}

-- and so of a message that becomes an event
abbrev pub MessageFits : Message → Type 0
MessageFits (message.Write body) = AreBytes body
MessageFits (message.Report number) = Unit {0}

-- at most one member is new with each event
pub record OrderIsKept (order : List Event) : Type 0 where
  pub fits : AllByRecursion EventFits order
  pub members : length (last_view order).1 ≤ 9 + length order
  pub last : last_member order ≤ 9 + length order
