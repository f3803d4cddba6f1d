-- what a state without the commits at or below its floor is good for
use Rattle.std.specs.Prelude.{◌≡◌, ℕ, List}
use Rattle.order_event.specs.declared.event.Event.{Event}
use Rattle.write_set.specs.declared.write_set.WriteSet.{WriteSet}
use Rattle.cert_meaning.specs.State.{FoldState}
use Rattle.cert_meaning.specs.Parts.{trim}
use Rattle.cert_meaning.specs.Verdict.{verdict}
use Rattle.cert_meaning.specs.Fold.{after, state_at}

-- a write set has the same verdict over a state and over the state trimmed
abbrev pub SameVerdictTrimmed : Type 0
SameVerdictTrimmed =
    (s : FoldState) (member : ℕ) (w : WriteSet) → verdict (trim s) member w ≡ verdict s member w

-- at each point of an order, an event leads from the state and from the state trimmed to states
-- that trimmed are the same
abbrev pub TrimmedGoesOn : Type 0
TrimmedGoesOn =
    (order : List Event) (n : ℕ) (e : Event)
    → trim (after (trim (state_at order n)) e) ≡ trim (after (state_at order n) e)
