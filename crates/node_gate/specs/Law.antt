-- The rule of the gate's table, which holds between any two steps.
use Rattle.std.specs.Prelude.{◌≡◌, ℕ, ◌%◌, ◌^◌, ◌<◌, ◌≤◌, ◌⊎◌, true, false, All, List, [], ◌∷◌, map, length, Option, Some}
use mathlib.Core.Option.{none, some}
use mathlib.Core.Option as maybe
use lib.ListN.{get_elem?}
use Rattle.atomic_table.specs.Table.{State}
use Rattle.node_gate.specs.declared.view.Lock.TheVariants.{Serving, Gone}
use Rattle.node_gate.specs.declared.view.Turn.{Turn}
use Rattle.node_gate.specs.declared.view.View.{View}
use Rattle.node_gate.specs.History.{entries_of, turns_of, StartsWith, Allowed}
use Rattle.node_gate.specs.Tickets.{Tickets}
use Rattle.node_gate.specs.Seats.{Seats}
use Rattle.node_gate.specs.Views.{is_alive, lock_of, rank_of}

module _ {E M : Type 0} where
  -- the seat was taken in
  abbrev pub IsGone : List (View E M) → ℕ → Type 0
  IsGone views n = (v : View E M) × (get_elem? views n ≡ some v) × (v.lock ≡ Gone)

  -- what the seat i knows of the history is so
  pub record Fits (log : List (Turn E)) (views : List (View E M)) (i : ℕ) (v : View E M)
      : Type 0 where
    pub own : turns_of i log ≡ v.own
    pub saw : StartsWith log v.seen
    pub heard : StartsWith log v.told
    pub met : All (λ m. (turns_of m.number log ≡ m.turns) × IsGone views m.number) v.met

  -- who holds the value has read its turn
  abbrev pub HoldsInTurn : View E M → Type 0
  HoldsInTurn v = v.holds ≡ true → (k : ℕ) × (v.lock ≡ Serving k)

  -- who is in use knows the mark
  abbrev pub Knows : M → View E M → Type 0
  Knows its v = is_alive v.lock ≡ true → v.mark ≡ Some its

  -- what the seats know of the history is so, and no other made a turn
  pub record Stories (log : List (Turn E)) (views : List (View E M)) : Type 0 where
    pub each : (i : ℕ) (v : View E M) → get_elem? views i ≡ some v → is_alive v.lock ≡ true
        → Fits log views i v
    pub known : All (λ t. t.seat < length views) log
    pub holding : All HoldsInTurn views

-- No seat holds the value, and the slot has it, with the entries of the history and the gate's
-- mark.
-- Its number is published.
pub record AtHome {C E M : Type 0} (entries : C → List E) (count : List E → ℕ) (mark : C → M)
    (its : M) (shown : ℕ) (log : List (Turn E)) (homes : List (maybe.Option (Option C)))
    (views : List (View E M)) : Type 0 where
  pub value : C
  pub at_home : homes ≡ some (Some value) ∷ []
  pub has : entries value ≡ entries_of log
  pub shows : shown ≡ count (entries value)
  pub marked : mark value ≡ its
  pub free : All (λ v. v.holds ≡ false) views

-- one seat holds the value, and has seen the whole history and the number published
pub record IsOut {C E M : Type 0} (shown : ℕ) (log : List (Turn E))
    (homes : List (maybe.Option (Option C))) (views : List (View E M)) : Type 0 where
  pub seat : ℕ
  pub holder : View E M
  pub out : homes ≡ none ∷ []
  pub there : get_elem? views seat ≡ some holder
  pub holds : holder.holds ≡ true
  pub knows : holder.seen ≡ log
  pub shows : shown ≡ holder.published

-- The words are the tickets drawn, the ticket served and the number published.
pub record Law {C E M : Type 0} (entries : C → List E) (count : List E → ℕ) (mark : C → M)
    (may : ℕ → E → Type 0) (s : State (Option C) (View E M)) : Type 0 where
  pub ticket : ℕ
  pub serving : ℕ
  pub shown : ℕ
  pub its : M
  pub log : List (Turn E)
  pub words_are : s.words ≡ (ticket % 2 ^ 64) ∷ (serving % 2 ^ 64) ∷ shown ∷ []
  pub tickets : Tickets (map lock_of s.views) ticket serving
  pub seats : Seats (map rank_of s.views)
  pub stories : Stories log s.views
  pub place : AtHome entries count mark its shown log s.homes s.views
      ⊎ IsOut shown log s.homes s.views
  pub tops : All (λ v. v.published ≤ shown) s.views
  pub marks : All (Knows its) s.views
  pub allowed : Allowed may log
