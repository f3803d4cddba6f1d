-- the order of events: how it starts, its n-th event, what a message becomes in it, and the views
-- that a member leaves behind and that a new one enters with
use Rattle.std.specs.Prelude.{ℕ, zero, suc, ◌+◌, ◌==◌, not, max, List, [], ◌∷◌, ◌++◌, fold, slice_get, Option, None}
use Rattle.std.specs.List.{filter}
use Rattle.order_event.specs.declared.event.Event.{Event}
use Rattle.order_event.specs.declared.event.Event.TheVariants.{Write, View, Report}
use Rattle.order_event.specs.declared.event.Message.{Message}
use Rattle.order_event.specs.declared.event.Message.TheVariants as message

-- the numbers from 1 to n
abbrev pub up_to : ℕ → List ℕ
up_to zero = []
up_to (suc n) = up_to n ++ suc n ∷ []

-- the order at its start: the view of version 1 with so many members
abbrev pub start_order : ℕ → List Event
start_order members = View 1 (up_to members) ∷ []

-- the event with a number, counted from 1
abbrev pub event_at : List Event → ℕ → Option Event
event_at order zero = None
event_at order (suc n) = slice_get order n

-- a message that is ordered becomes an event of the member that sent it
abbrev pub event_of : ℕ → Message → Event
event_of member (message.Write body) = Write member body
event_of member (message.Report number) = Report member number

-- ---- views
abbrev pub newer_view : ℕ × List ℕ → Event → ℕ × List ℕ
newer_view last (Write member body) = last
newer_view last (View version members) = (version, members)
newer_view last (Report member number) = last

-- the version and the members of the last view; version 0 and none where there is no view
abbrev pub last_view : List Event → ℕ × List ℕ
last_view order = fold newer_view (0, []) order

-- all of some members but one
abbrev pub all_but : ℕ → List ℕ → List ℕ
all_but member members = filter (λ other. not (other == member)) members

-- the last view without a member
abbrev pub view_without : List Event → ℕ → Event
view_without order member = View (last_view order).0 (all_but member (last_view order).1)

-- the greatest of some members; 0 where there is none
abbrev pub greatest_member : List ℕ → ℕ
greatest_member members = fold max 0 members

abbrev pub later_member : ℕ → Event → ℕ
later_member last (Write member body) = last
later_member last (View version members) = max last (greatest_member members)
later_member last (Report member number) = last

-- the greatest member of any view; 0 where there is none
abbrev pub last_member : List Event → ℕ
last_member order = fold later_member 0 order

-- the number of a new member, which no view had before
abbrev pub new_member : List Event → ℕ
new_member order = last_member order + 1

-- the last view with one member more
abbrev pub view_with : List Event → ℕ → Event
view_with order member = View (last_view order).0 ((last_view order).1 ++ member ∷ [])
