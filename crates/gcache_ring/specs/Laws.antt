-- the events that are held are the longest suffix that fits
use Rattle.std.specs.Prelude.{◌≡◌, ℕ, ◌≤◌, List, [], ◌∷◌, ◌++◌, length}
use Rattle.order_event.specs.declared.event.Event.{Event}
use Rattle.gcache_ring.specs.Held.{total, held}

-- they are a suffix
abbrev pub IsSuffix : Type 0
IsSuffix =
    (size : ℕ) (pushed : List Event)
    → (dropped : List Event) × (pushed ≡ dropped ++ held size pushed)

-- they fit
abbrev pub Fits : Type 0
Fits = (size : ℕ) (pushed : List Event) → total (held size pushed) ≤ size

-- no suffix that fits is longer
abbrev pub IsLongest : Type 0
IsLongest =
    (size : ℕ) (dropped kept : List Event) → total kept ≤ size
    → length kept ≤ length (held size (dropped ++ kept))

-- a ring that goes on from what it holds holds what it would of all that was pushed
abbrev pub HeldOfHeld : Type 0
HeldOfHeld = (size : ℕ) (pushed : List Event) (event : Event)
    → held size (held size pushed ++ event ∷ []) ≡ held size (pushed ++ event ∷ [])
