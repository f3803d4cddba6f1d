-- numbered entries: all up to one number are Finished, a window has the states of those above it
use Rattle.std.specs.Prelude.{◌≡◌, ℕ, ◌+◌, ◌-◌, ◌<◌, ◌≤◌, ◌^◌, Bool, true, false, nat_le, nat_lt, List, [], ◌∷◌, ◌++◌, length, drop, replicate, slice_set, if◌then◌else◌}
use Rattle.std.specs.List.{slice_index_or}
use Rattle.ordered_monitor.specs.declared.entry.EntryState.{EntryState}
use Rattle.ordered_monitor.specs.declared.entry.EntryState.TheVariants.{Idle, Waiting, Cancelled, Entered, Finished}
use Rattle.ordered_monitor.specs.declared.entry.Entry.{Entry}
use Rattle.ordered_monitor.specs.declared.entry.Entry.TheVariants.{NotYet, Cancelled as WasCancelled, Entered as HasEntered}

pub record Entries : Type 0 where
  -- the greatest number up to which all are Finished
  pub last_left : ℕ
  -- the states of the numbers above it, the next one first
  pub window : List EntryState

abbrev pub entries_of : ℕ → List EntryState → Entries
entries_of last_left window = record { last_left = last_left; window = window }

-- so many Idle ones behind the states
abbrev pub with_idle : List EntryState → ℕ → List EntryState
with_idle states count = states ++ replicate count Idle

-- where a number stands in the window above `last_left`
abbrev pub place : ℕ → ℕ → ℕ
place last_left n = n - last_left - 1

-- the state of every number; behind the window all are Idle
abbrev pub state_at : Entries → ℕ → EntryState
state_at m n =
    if nat_le n m.last_left then Finished else slice_index_or m.window (place m.last_left n) Idle

-- the numbers above `last_left`, as many as the window is long
abbrev pub IsInWindow : Entries → ℕ → Type 0
IsInWindow m n = (m.last_left < n) × (n ≤ m.last_left + length m.window)

-- an entry waits from Idle or Cancelled
abbrev pub CanWait : EntryState → Type 0
CanWait Idle = Unit {0}
CanWait Cancelled = Unit {0}
CanWait _ = ⊥

-- an entry asks to enter while it waits, or to learn that it was cancelled
abbrev pub CanEnter : EntryState → Type 0
CanEnter Waiting = Unit {0}
CanEnter Cancelled = Unit {0}
CanEnter _ = ⊥

-- a window of so many numbers above `at`, all Idle
abbrev pub all_idle : ℕ → ℕ → Entries
all_idle window at = entries_of at (replicate window Idle)

-- the states in a window of so many numbers, the added ones Idle
abbrev pub widened_states : List EntryState → ℕ → List EntryState
widened_states states window = with_idle states (window - length states)

-- the same entries in a wider window
abbrev pub widened : Entries → ℕ → Entries
widened m window = entries_of m.last_left (widened_states m.window window)

-- one number has another state
abbrev pub with_state : Entries → ℕ → EntryState → Entries
with_state m n state = record m { window = slice_set m.window (place m.last_left n) state }

-- a cancelled entry is told so; another one enters where all numbers up to `after` are left
abbrev pub entered_from : EntryState → Entries → ℕ → ℕ → Entry × Entries
entered_from Cancelled m n after = (WasCancelled, m)
entered_from _ m n after =
    if nat_lt m.last_left after then (NotYet m.last_left, m)
    else (HasEntered, with_state m n Entered)

-- what becomes of a try to enter
abbrev pub entered : Entries → ℕ → ℕ → Entry × Entries
entered m n after = entered_from (state_at m n) m n after

-- a waiting entry is cancelled; any other stays what it is
abbrev pub cancelled_from : EntryState → Entries → ℕ → Bool × Entries
cancelled_from Waiting m n = (true, with_state m n Cancelled)
cancelled_from _ m n = (false, m)

-- what becomes of a cancel
abbrev pub cancelled : Entries → ℕ → Bool × Entries
cancelled m n = cancelled_from (state_at m n) m n

-- how many entries are Finished before the first that is not
abbrev pub leading : List EntryState → ℕ
leading [] = 0
leading (Finished ∷ states) = leading states + 1
leading (_ ∷ states) = 0

-- the window moves over all Finished ones before the first that is not; as many Idle ones come in
abbrev pub moved : ℕ → List EntryState → Entries
moved last_left states =
    let count = leading states in
    entries_of (last_left + count) (with_idle (drop count states) count)

-- a number is Finished, and `last_left` moves over all that are
abbrev pub left : Entries → ℕ → Entries
left m n = moved m.last_left (with_state m n Finished).window

-- no number past the greatest of 64 bits is Finished
abbrev pub FinishedFit : ℕ → List EntryState → Type 0
FinishedFit last_left states =
    (k : ℕ) → slice_index_or states k Idle ≡ Finished → last_left + 1 + k < 2 ^ 64

-- the number above `last_left` is not Finished
abbrev pub IsFirstOpen : List EntryState → Type 0
IsFirstOpen states = slice_index_or states 0 Idle ≡ Finished → ⊥

-- what every monitor keeps
pub record IsKept (last_left : ℕ) (states : List EntryState) : Type 0 where
  pub fits : FinishedFit last_left states
  pub first_open : IsFirstOpen states
