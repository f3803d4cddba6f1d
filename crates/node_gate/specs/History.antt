-- The history of a gate: a list of turns, each with the number of its seat and the entries that it
-- added.
use Rattle.std.specs.Prelude.{◌≡◌, ℕ, ◌==◌, All, List, [], ◌∷◌, ◌++◌, filter}
use Rattle.std.specs.List.{flat_map}
use Rattle.node_gate.specs.declared.view.Turn.{Turn}

module _ {E : Type 0} where
  -- the entries of all turns, in order
  abbrev pub entries_of : List (Turn E) → List E
  entries_of log = flat_map (λ t. t.entries) log

  -- the turns of the seat with this number, in order
  abbrev pub turns_of : ℕ → List (Turn E) → List (Turn E)
  turns_of n log = filter (λ t. t.seat == n) log

  -- the history begins with the turns that were seen
  abbrev pub StartsWith : List (Turn E) → List (Turn E) → Type 0
  StartsWith log seen = (rest : List (Turn E)) × (log ≡ seen ++ rest)

  -- the turns, and then one more of the seat with this number
  abbrev pub with_turn : List (Turn E) → ℕ → List E → List (Turn E)
  with_turn log n added = log ++ record { seat = n; entries = added } ∷ []

  -- each entry of a turn is one that its seat may add
  abbrev pub Allowed : (ℕ → E → Type 0) → List (Turn E) → Type 0
  Allowed may log = All (λ t. All (may t.seat) t.entries) log
