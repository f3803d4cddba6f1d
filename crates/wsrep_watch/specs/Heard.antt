-- what a watcher has heard, and where it ended
use Rattle.std.specs.Prelude.{◌≡◌, ℕ, ◌+◌, List, [], ◌∷◌, ◌++◌, length, nat_lt, min, ◌^◌, ◌-◌, Option, Some, None, IfSome, if◌then◌else◌}
use Rattle.wsrep_watch.specs.declared.note.Note.{Note}

-- notes that are told after one more were told before it, and have it at their end
abbrev pub Gains : Option (List Note) → Note → Option (List Note) → Type 0
Gains before note now =
    IfSome now (λ notes. (old : List Note) × (before ≡ Some old) × (notes ≡ old ++ note ∷ []))

-- an end that is told is at this number
abbrev pub EndsAt : ℕ → Option (Option ℕ) → Type 0
EndsAt at told = IfSome told (λ end. end ≡ Some at)

-- a list of the first 64 notes, how many came after them, and where it ended
pub record ModelList : Type 0 where
  pub first : List Note
  pub rest : ℕ
  pub end : Option ℕ

abbrev pub new_list : ModelList
new_list = record { first = []; rest = 0; end = None }

-- one more note: it is kept while there is room, and else counted, up to the last number of 64 bits
abbrev pub with_note : ModelList → Note → ModelList
with_note list note =
    if nat_lt (length list.first) 64 then record list { first = list.first ++ note ∷ [] }
    else record list { rest = min (list.rest + 1) (2 ^ 64 - 1) }

-- all notes, while none was only counted
abbrev pub all_notes : ModelList → Option (List Note)
all_notes list = if nat_lt 0 list.rest then None else Some list.first
