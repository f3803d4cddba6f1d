-- what the watcher of a node hears
use Rattle.std.specs.Prelude.{◌≡◌, ℕ, zero, suc, List, [], ◌∷◌, ◌++◌, ◌+◌, Option, Some, None, IfSome}
use Rattle.wsrep_base.specs.declared.verdict.Judged.{Judged}
use Rattle.wsrep_watch.specs.declared.note.Note.{Note}
use Rattle.wsrep_watch.specs.Heard.{Gains}
use Rattle.order_event.specs.declared.event.Event.{Event}
use Rattle.node_meaning.specs.Units.{judged_at}
use Rattle.node_core.specs.declared.answers.Advanced.{Advanced}
use Rattle.node_core.specs.declared.answers.Advanced.TheVariants as advanced

-- the note of a number, by what became of its event
abbrev pub noted : ℕ → Judged → Note
noted number judged = record { number = number; judged = judged }

-- the note of the event with a number
abbrev pub note_at : List Event → ℕ → Note
note_at order number = noted number (judged_at order number)

-- one note for each number from 1 on, in order
abbrev pub notes_to : List Event → ℕ → List Note
notes_to order zero = []
notes_to order (suc p) = notes_to order p ++ note_at order (suc p) ∷ []

-- the notes that are told, where they are, are these first ones and one for each number up to p
abbrev pub HasHeard : List Note → List Event → ℕ → Option (List Note) → Type 0
HasHeard first order p told = IfSome told (λ notes. notes ≡ first ++ notes_to order p)

-- what a watcher tells, where there is one and it tells it
abbrev pub told_by : {W A : Type 0} → (W → Option A) → Option W → Option A
told_by tells None = None
told_by tells (Some watcher) = tells watcher

-- the note that is due after committing the next number
abbrev pub note_due : List Event → Advanced → Option Note
note_due order (advanced.At number) = Some (note_at order number)
note_due order advanced.Nothing = None
note_due order (advanced.NotReady number) = None

-- what an advance makes of the number up to which a node has committed
abbrev pub AdvancedTo : Advanced → ℕ → ℕ → Type 0
AdvancedTo (advanced.At number) old new = (number ≡ old + 1) × (new ≡ number)
AdvancedTo advanced.Nothing old new = new ≡ old
AdvancedTo (advanced.NotReady number) old new = new ≡ old

-- the watcher is told a note that is due, and else stays as it is
abbrev pub Hears : {W : Type 0} → (W → Option (List Note)) → Option Note → Option W → Option W
    → Type 0
Hears notes None old new = new ≡ old
Hears notes (Some note) old new = Gains (told_by notes old) note (told_by notes new)
