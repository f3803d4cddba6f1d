-- the one spelling of each event, in bytes
use Rattle.std.specs.Prelude.{ℕ, ◌+◌, ◌*◌, ◌^◌, ◌<◌, Bool, true, ◌&&◌, nat_lt, List, [], ◌∷◌, ◌++◌, length, Option, Some, None, IsTrue, flat_map}
use Rattle.std.specs.List.{AllByRecursion}
use Rattle.std.specs.Int.{w32, w64, to_be_bytes}
use Rattle.order_event.specs.declared.event.Event.{Event}
use Rattle.order_event.specs.declared.event.Event.TheVariants.{Write, View, Report}

-- a tag, and then: a write set's member, the number of its bytes, and the bytes; a view's version,
-- the number of its members, and the members; a report's member and number
unfoldable pub spelling : Event → List ℕ
spelling (Write member body) =
    1 ∷ (to_be_bytes w32 member ++ (to_be_bytes w32 (length body) ++ body))
spelling (View version members) =
    2 ∷ (to_be_bytes w32 version
    ++ (to_be_bytes w32 (length members) ++ flat_map (to_be_bytes w32) members))
spelling (Report member number) = 3 ∷ (to_be_bytes w32 member ++ to_be_bytes w64 number)

-- how many bytes the spelling has
abbrev pub event_len : Event → ℕ
event_len (Write member body) = 9 + length body
event_len (View version members) = 9 + 4 * length members
event_len (Report member number) = 13

-- whether a member is above the one before it, if there is one
abbrev pub is_above : Option ℕ → ℕ → Bool
is_above None member = true
is_above (Some before) member = nat_lt before member

-- whether the members rise strictly, and the first is above the one before it
abbrev pub rise_from : Option ℕ → List ℕ → Bool
rise_from before [] = true
rise_from before (member ∷ members) = is_above before member && rise_from (Some member) members

abbrev pub rise : List ℕ → Bool
rise members = rise_from None members

-- a view's members can be counted in four bytes
abbrev pub HasFewMembers : Event → Type 0
HasFewMembers (Write member body) = Unit {0}
HasFewMembers (View version members) = length members < 2 ^ 32
HasFewMembers (Report member number) = Unit {0}

-- the event has a spelling: its body or its members can be counted in four bytes, and members rise
-- strictly
abbrev pub HasSpelling : Event → Type 0
HasSpelling (Write member body) = length body < 2 ^ 32
HasSpelling (View version members) = (length members < 2 ^ 32) × IsTrue (rise members)
HasSpelling (Report member number) = Unit {0}

-- its numbers are of the types of an event's fields
abbrev pub FitsTypes : Event → Type 0
FitsTypes (Write member body) = member < 2 ^ 32
FitsTypes (View version members) = (version < 2 ^ 32) × AllByRecursion (λ m. m < 2 ^ 32) members
FitsTypes (Report member number) = (member < 2 ^ 32) × (number < 2 ^ 64)
