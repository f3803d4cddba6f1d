-- reading an event from left to right: its value, or the first fault that is met
use Rattle.std.specs.Prelude.{◌≡◌, ℕ, zero, suc, ◌==◌, not, List, [], ◌∷◌, length, Option, Some, None, Result, Ok, Err, if◌then◌else◌}
use Rattle.std.specs.Int.{Width, w8, w32, w64}
use Rattle.wsrep_base.specs.Place.{Place, place_in}
use Rattle.wsrep_base.specs.Reading as fields
use Rattle.wsrep_base.specs.Reading.{◌>>=◌, refuse}
use Rattle.order_event.specs.declared.event.Event.{Event}
use Rattle.order_event.specs.declared.event.Event.TheVariants.{Write, View, Report}
use Rattle.order_event.specs.declared.fault.EventFault.{EventFault}
use Rattle.order_event.specs.declared.fault.EventFault.TheVariants.{Short, Trailing, BadTag, NotCanonical, NoMemory}
use Rattle.order_event.specs.Spelling.{is_above}

-- a value and the place behind it, or the first fault
abbrev pub Read : Type 0 → Type 0
Read A = Result (A × Place) EventFault

-- the next n bytes
abbrev pub bytes_at : ℕ → Place → Read (List ℕ)
bytes_at = fields.bytes_at Short

abbrev pub number_at : Width → Place → Read ℕ
number_at = fields.number_at Short

-- a member, above the one before it
unfoldable pub member_at : Option ℕ → Place → Read ℕ
member_at before p = do
  member ← number_at w32 p
  rising ← refuse (not (is_above before member.0)) (NotCanonical p.at)
  Ok member

-- so many members, each above the one before it
unfoldable pub members_at : ℕ → Option ℕ → Place → Read (List ℕ)
members_at zero before p = Ok ([], p)
members_at (suc n) before p = do
  member ← member_at before p
  others ← members_at n (Some member.0) member.1
  Ok (member.0 ∷ others.0, others.1)

unfoldable pub write_at : Place → Read Event
write_at p = do
  member ← number_at w32 p
  count ← number_at w32 member.1
  body ← bytes_at count.0 count.1
  Ok (Write member.0 body.0, body.1)

unfoldable pub view_at : Place → Read Event
view_at p = do
  version ← number_at w32 p
  count ← number_at w32 version.1
  members ← members_at count.0 None count.1
  Ok (View version.0 members.0, members.1)

unfoldable pub report_at : Place → Read Event
report_at p = do
  member ← number_at w32 p
  number ← number_at w64 member.1
  Ok (Report member.0 number.0, number.1)

-- what a tag stands before
abbrev pub tagged_at : ℕ → Place → Read Event
tagged_at tag p =
    if tag == 1 then write_at p
    else if tag == 2 then view_at p
    else if tag == 3 then report_at p
    else Err BadTag

-- an event, by its tag
unfoldable pub event_at : Place → Read Event
event_at p = do
  tag ← number_at w8 p
  tagged_at tag.0 tag.1

-- the event that all the bytes spell
unfoldable pub read : List ℕ → Result Event EventFault
read bytes = do
  event ← event_at (place_in bytes 0)
  ended ← refuse (not (length event.1.left == 0)) (Trailing event.1.at)
  Ok event.0

-- what a function returned, seen by a view, is what is read, unless memory ran out
abbrev pub Fails : {Y : Type 0} → EventFault → Result Y EventFault → Type 0
Fails NoMemory reading = Unit {0}
Fails fault reading = reading ≡ Err fault

abbrev pub Gives : {X Y : Type 0} → (X → Y) → Result X EventFault → Result Y EventFault → Type 0
Gives view (Ok x) reading = reading ≡ Ok (view x)
Gives view (Err fault) reading = Fails fault reading
