-- what spelling and reading are to each other
use Rattle.std.specs.Prelude.{◌≡◌, ℕ, ◌<◌, List, length, slice_index, Ok}
use Rattle.order_event.specs.declared.event.Event.{Event}
use Rattle.order_event.specs.Spelling.{spelling, event_len, HasSpelling, FitsTypes}
use Rattle.order_event.specs.Reading.{read}

abbrev pub AreBytes : List ℕ → Type 0
AreBytes bytes = (i : ℕ) → slice_index bytes i < 256

-- each event is read from its spelling
abbrev pub ReadsBack : Type 0
ReadsBack = (e : Event) → FitsTypes e → HasSpelling e → read (spelling e) ≡ Ok e

-- no other bytes are read as that event
abbrev pub OneSpelling : Type 0
OneSpelling = (bytes : List ℕ) (e : Event) → AreBytes bytes → read bytes ≡ Ok e
    → HasSpelling e × (bytes ≡ spelling e)

-- how long spellings are
abbrev pub Lengths : Type 0
Lengths = (e : Event) → length (spelling e) ≡ event_len e
