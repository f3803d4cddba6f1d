-- Items one behind the other, each read in the light of those before it: what is read fits, and what fits is read again.
use Rattle.std.proofs.Common.{◌≡◌, ℕ, zero, suc, List, [], ◌∷◌, ◌++◌, length, Ok, refl, ap, subst, ◌∙◌, append_assoc}
use Rattle.std.specs.List.{flat_map}
use Rattle.write_set.specs.Place.{Place}
use Rattle.write_set.specs.Reading.{Read}
use Rattle.wsrep_base.proofs.Fields.{IsBytes, read_ok, ok_is, place, Took, took_none, took_then}
use Rattle.state_snapshot.specs.Reading.{each_at}

-- one item: its text, what is known behind it, what holds of what is known, and what fits
pub record Step {A S : Type 0} (text : A → List ℕ) (next : S → A → S) (Holds : S → Type 0) (Fits : S → A → Type 0)
    (one_at : S → Place → Read (A × S)) : Type 0 where
  pub takes : (s : S) (p : Place) (x : (A × S) × Place) → IsBytes p.left → Holds s → one_at s p ≡ Ok x
      → Took p (text x.0.0) x.1 × Fits s x.0.0 × (x.0.1 ≡ next s x.0.0) × Holds (next s x.0.0)
  pub again : (s : S) (a : A) (rest : List ℕ) (at : ℕ) → Fits s a
      → (q : ℕ) × (one_at s (place (text a ++ rest) at) ≡ Ok ((a, next s a), place rest q))

-- nothing has to hold
abbrev pub Always : {S : Type 0} → S → Type 0
Always s = Unit {0}

module _ {A S : Type 0} (next : S → A → S) where
  -- what is known behind items
  abbrev pub all_next : S → List A → S
  all_next s [] = s
  all_next s (x ∷ xs) = all_next (next s x) xs

  abbrev pub AllFit : (S → A → Type 0) → S → List A → Type 0
  AllFit Fits s [] = Unit {0}
  AllFit Fits s (x ∷ xs) = Fits s x × AllFit Fits (next s x) xs

module _ {A S : Type 0} (text : A → List ℕ) (next : S → A → S) (Holds : S → Type 0) (Fits : S → A → Type 0)
    (one_at : S → Place → Read (A × S)) (step : Step text next Holds Fits one_at) where
  abbrev pub TakesEach : ℕ → S → Place → List A × Place → Type 0
  TakesEach n s p x = Took p (flat_map text x.0) x.1 × (length x.0 ≡ n) × AllFit next Fits s x.0 × Holds (all_next next s x.0)

  pub each_take : (n : ℕ) (s : S) (p : Place) (x : List A × Place) → IsBytes p.left → Holds s → each_at one_at n s p ≡ Ok x → TakesEach n s p x
  unfolding each_at
  each_take zero s p x fits holds e = subst (TakesEach zero s p) (ok_is ([], p) x e) (took_none p fits, refl, tt, holds)
  each_take (suc n) s p x fits holds e =
      let a = read_ok (A × S) (one_at s p) _ x e in
      let b = read_ok (List A) (each_at one_at n a.0.0.1 a.0.1) _ x a.2 in
      let t = step.takes s p a.0 fits holds a.1 in
      let is : each_at one_at n (next s a.0.0.0) a.0.1 ≡ Ok b.0 = subst (λ s'. each_at one_at n s' a.0.1 ≡ Ok b.0) t.2 b.1 in
      let rec = each_take n (next s a.0.0.0) a.0.1 b.0 t.0.fits t.3 is in
      subst (TakesEach (suc n) s p) (ok_is (a.0.0.0 ∷ b.0.0, b.0.1) x b.2)
      (took_then p (text a.0.0.0) a.0.1 (flat_map text b.0.0) b.0.1 t.0 rec.0, ap suc rec.1, (t.1, rec.2), rec.3)

  pub each_again : (xs : List A) (s : S) (rest : List ℕ) (at : ℕ) → AllFit next Fits s xs
      → (q : ℕ) × (each_at one_at (length xs) s (place (flat_map text xs ++ rest) at) ≡ Ok (xs, place rest q))
  unfolding each_at
  each_again [] s rest at fit = (at, refl)
  each_again (x ∷ xs) s rest at fit =
      let others = flat_map text xs in
      let k = step.again s x (others ++ rest) at fit.0 in
      let r = each_again xs (next s x) rest k.0 fit.1 in
      let is : each_at one_at (suc (length xs)) s (place (text x ++ (others ++ rest)) at) ≡ Ok (x ∷ xs, place rest r.0) = rw (k.1, r.1) refl in
      (r.0, ap (λ left. each_at one_at (suc (length xs)) s (place left at)) (append_assoc (text x) others rest) ∙ is)
