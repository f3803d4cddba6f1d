-- What one more turn makes of a history.
use Rattle.std.proofs.Common.{◌≡◌, ◌≢◌, ℕ, suc, ◌<◌, Bool, true, false, All, List, [], ◌∷◌, ◌++◌, refl, sym, ap, ◌∙◌, subst, cond, arith, eqb, eq-eqb, ne_eqb, append_assoc}
use Rattle.std.proofs.lemmas.List.{append-nil}
use Rattle.std.proofs.lemmas.List.Elements.{filter-append, All-nil, All-cons, All-head, All-tail}
use Rattle.std.proofs.lemmas.Grind.{flat_map-append}
use mathlib.Core.Option.{some}
use lib.ListN.{get_elem?}
use Rattle.node_gate.specs.declared.view.Turn.{Turn}
use Rattle.node_gate.specs.History.{entries_of, turns_of, StartsWith, with_turn}
use Rattle.node_gate.proofs.Counts.{inside}

-- what holds of each element holds of the one that is read
pub all_at : {A : Type 0} (P : A → Type 0) (l : List A) (i : ℕ) (a : A) → All P l
    → get_elem? l i ≡ some a → P a
all_at P l i a all at = let h = inside l i a at in subst P h.1 (all i a h.0)

-- what holds of each that can be read holds of each element
pub all_from : {A : Type 0} (P : A → Type 0) (l : List A)
    → ((i : ℕ) (a : A) → get_elem? l i ≡ some a → P a) → All P l
all_from P [] each = All-nil P
all_from P (x ∷ xs) each = All-cons P x xs (each 0 x refl) (all_from P xs (λ i a at. each (suc i) a at))

pub is_false : (b : Bool) → (b ≡ true → ⊥) → b ≡ false
is_false true other = absurd (other refl)
is_false false other = refl

module _ {E : Type 0} where
  pub entries_turn : (log : List (Turn E)) (n : ℕ) (added : List E)
      → entries_of (with_turn log n added) ≡ entries_of log ++ added
  entries_turn log n added = flat_map-append (λ t. t.entries) log (record { seat = n; entries = added } ∷ [])
      ∙ ap (λ xs. entries_of log ++ xs) (append-nil added)

  pub turns_own : (log : List (Turn E)) (n : ℕ) (added : List E)
      → turns_of n (with_turn log n added) ≡ with_turn (turns_of n log) n added
  turns_own log n added = let t : Turn E = record { seat = n; entries = added } in
      filter-append (λ x. eqb x.seat n) log (t ∷ [])
      ∙ ap (λ b. turns_of n log ++ cond b (t ∷ []) []) (eq-eqb n n refl)

  pub turns_other : (log : List (Turn E)) (n m : ℕ) (added : List E) → n ≢ m
      → turns_of m (with_turn log n added) ≡ turns_of m log
  turns_other log n m added other = let t : Turn E = record { seat = n; entries = added } in
      filter-append (λ x. eqb x.seat m) log (t ∷ [])
      ∙ ap (λ b. turns_of m log ++ cond b (t ∷ []) []) (ne_eqb n m other)
      ∙ append-nil (turns_of m log)

  pub starts_itself : (log : List (Turn E)) → StartsWith log log
  starts_itself log = ([], sym (append-nil log))

  pub starts_more : (log seen more : List (Turn E)) → StartsWith log seen
      → StartsWith (log ++ more) seen
  starts_more log seen more s =
      (s.0 ++ more, ap (λ xs. xs ++ more) s.1 ∙ append_assoc seen s.0 more)

  -- a number that no seat has yet made no turn
  pub none_of : (log : List (Turn E)) (n : ℕ) → All (λ t. t.seat < n) log → turns_of n log ≡ []
  none_of [] n all = refl
  none_of (t ∷ ts) n all = let low = All-head (λ x. x.seat < n) t ts all in
      ap (λ b. cond b (t ∷ turns_of n ts) (turns_of n ts)) (ne_eqb t.seat n (λ e. omega arith))
      ∙ none_of ts n (All-tail (λ x. x.seat < n) t ts all)
