-- Lists that are read by place, and how a count changes with one element.
use Rattle.std.proofs.Common.{◌≡◌, ℕ, zero, suc, ◌+◌, ◌<◌, ◌≤◌, ◌⊎◌, Bool, true, false, cond, List, [], ◌∷◌, ◌++◌, map, length, get_or, set, refl, sym, ap, ◌∙◌, subst, inl, inr, ⊎_elim, arith, count_by, length-set, length-append}
use Rattle.std.proofs.lemmas.List.Sums.{sum_by-set, sum_by_push, count_by-le-length}
use mathlib.Core.Option.{some, some-injective, some-ne-none}
use lib.ListN.{get_elem?}
use lib.Seq.{map-set}
use Rattle.atomic_table.proofs.Lists.{set_again, at_map}

module _ {A : Type 0} where
  -- what is read lies inside
  pub inside : (l : List A) (i : ℕ) (a : A) → get_elem? l i ≡ some a
      → (i < length l) × (get_or l i a ≡ a)
  inside [] i a at = absurd (some-ne-none a (sym at))
  inside (x ∷ xs) zero a at = (omega arith, some-injective x a at)
  inside (x ∷ xs) (suc i) a at = let h = inside xs i a at in let l = h.0 in (omega arith, h.1)

  -- inside there is something to read
  pub read_inside : (l : List A) (i : ℕ) → i < length l → (a : A) × (get_elem? l i ≡ some a)
  read_inside [] i h = absurd (omega arith)
  read_inside (x ∷ xs) zero h = (x, refl)
  read_inside (x ∷ xs) (suc i) h = read_inside xs i (omega arith)

  pub same_read : (l : List A) (i : ℕ) (a b : A) → get_elem? l i ≡ some a
      → get_elem? l i ≡ some b → a ≡ b
  same_read l i a b at at' = some-injective a b (sym at ∙ at')

  -- the element behind the last stands at the list's length
  pub at_pushed : (l : List A) (a b : A) (j : ℕ) → get_elem? (l ++ a ∷ []) j ≡ some b
      → (get_elem? l j ≡ some b) ⊎ ((j ≡ length l) × (a ≡ b))
  at_pushed [] a b zero e = inr (refl, some-injective a b e)
  at_pushed [] a b (suc j) e = absurd (some-ne-none b (sym e))
  at_pushed (x ∷ xs) a b zero e = inl e
  at_pushed (x ∷ xs) a b (suc j) e =
      ⊎_elim (λ t. inl t) (λ t. inr (ap suc t.0, t.1)) (at_pushed xs a b j e)

  pub count_set : (p : A → Bool) (l : List A) (i : ℕ) (a b : A) → get_elem? l i ≡ some a
      → count_by p (set l i b) + cond (p a) 1 0 ≡ count_by p l + cond (p b) 1 0
  count_set p l i a b at = let h = inside l i a at in
      subst (λ (x : A). count_by p (set l i b) + cond (p x) 1 0 ≡ count_by p l + cond (p b) 1 0)
      h.1 (sum_by-set (λ x. cond (p x) 1 0) l i b a h.0)

  pub count_pushed : (p : A → Bool) (l : List A) (a : A)
      → count_by p (l ++ a ∷ []) ≡ count_by p l + cond (p a) 1 0
  count_pushed p l a = sum_by_push (λ x. cond (p x) 1 0) l a

  -- where one element is not counted, the count is below the length
  pub count_less : (p : A → Bool) (l : List A) (i : ℕ) (a b : A) → get_elem? l i ≡ some a
      → p a ≡ false → p b ≡ true → count_by p l < length l
  count_less p l i a b at out in' =
      let e : count_by p (set l i b) + cond (p a) 1 0 ≡ count_by p l + cond (p b) 1 0 =
      count_set p l i a b at in
      let e' : count_by p (set l i b) + 0 ≡ count_by p l + 1 =
      ap (λ t. count_by p (set l i b) + cond t 1 0) (sym out) ∙ e
      ∙ ap (λ t. count_by p l + cond t 1 0) in' in
      let most : count_by p (set l i b) ≤ length (set l i b) = count_by-le-length p (set l i b) in
      let same : length (set l i b) ≡ length l = length-set l i b in omega arith

  -- a part of the elements that the new one shares with the old one is as it was
  pub map_kept : {B : Type 0} (f : A → B) (l : List A) (i : ℕ) (a b : A)
      → get_elem? l i ≡ some a → f b ≡ f a → map f (set l i b) ≡ map f l
  map_kept f l i a b at same = map-set f l i b ∙ ap (set (map f l) i) same
      ∙ set_again (map f l) i (f a) (at_map f l i a at)

  pub map_pushed : {B : Type 0} (f : A → B) (l : List A) (a : A)
      → map f (l ++ a ∷ []) ≡ map f l ++ f a ∷ []
  map_pushed f [] a = refl
  map_pushed f (x ∷ xs) a = ap (λ r. f x ∷ r) (map_pushed f xs a)

  pub length_pushed : (l : List A) (a : A) → length (l ++ a ∷ []) ≡ length l + 1
  length_pushed l a = length-append l (a ∷ [])
