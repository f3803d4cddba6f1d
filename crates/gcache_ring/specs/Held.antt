-- which events a ring of a size holds of those that were pushed
use Rattle.std.specs.Prelude.{ℕ, ◌+◌, ◌-◌, ◌&&◌, nat_le, List, [], ◌∷◌, ◌++◌, length, drop, Option, Some, None, Result, Ok, Err, if◌then◌else◌}
use Rattle.order_event.specs.declared.event.Event.{Event}
use Rattle.order_event.specs.Spelling.{event_len}
use Rattle.gcache_ring.specs.declared.fault.CopyFault.{CopyFault}
use Rattle.gcache_ring.specs.declared.fault.CopyFault.TheVariants.{NotHeld}

-- what the entry of an event takes: 24 bytes, and those of the event
abbrev pub entry_size : Event → ℕ
entry_size event = 24 + event_len event

-- what the entry of an event leaves of a size; None where it is larger
abbrev pub room_beside : ℕ → Event → Option ℕ
room_beside size event =
    if nat_le (entry_size event) size then Some (size - entry_size event) else None

-- what the entries of these events sum to
abbrev pub total : List Event → ℕ
total [] = 0
total (event ∷ events) = entry_size event + total events

-- the longest suffix whose entries sum to at most the size
abbrev pub held : ℕ → List Event → List Event
held size [] = []
held size (event ∷ events) =
    if nat_le (total (event ∷ events)) size then event ∷ events else held size events

pub record Ring : Type 0 where
  -- the most that the entries may sum to
  pub size : ℕ
  -- the number of the youngest event that was pushed
  pub last : ℕ
  -- the events that are held, oldest first
  pub events : List Event

-- nothing was pushed; the next event is the one behind this number
abbrev pub empty_ring : ℕ → ℕ → Ring
empty_ring size at = record { size = size; last = at; events = [] }

-- one more event is pushed
abbrev pub with_event : Ring → Event → Ring
with_event ring event =
    record ring { last = ring.last + 1; events = held ring.size (ring.events ++ event ∷ []) }

-- more events are pushed, one after another
abbrev pub with_events : Ring → List Event → Ring
with_events ring [] = ring
with_events ring (event ∷ events) = with_events (with_event ring event) events

-- the numbers of the oldest and the youngest of these events
abbrev pub range_to : ℕ → List Event → Option (ℕ × ℕ)
range_to last [] = None
range_to last (event ∷ events) = Some (last - length (event ∷ events) + 1, last)

abbrev pub range_of : Ring → Option (ℕ × ℕ)
range_of ring = range_to ring.last ring.events

-- the events from a number on, where it is in the range
abbrev pub copy_in : Option (ℕ × ℕ) → List Event → ℕ → Result (List Event) CopyFault
copy_in None events from = Err (NotHeld None)
copy_in (Some range) events from =
    if nat_le range.0 from && nat_le from range.1
    then Ok (drop (from - range.0) events) else Err (NotHeld (Some range.0))

abbrev pub copy_of : Ring → ℕ → Result (List Event) CopyFault
copy_of ring from = copy_in (range_of ring) ring.events from
