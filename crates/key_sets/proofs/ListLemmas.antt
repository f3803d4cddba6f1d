-- Members of a list, and the tests that some member passes.
use Rattle.std.proofs.Common.{◌≡◌, Bool, true, false, ◌||◌, ◌⊎◌, inl, inr, List, [], ◌∷◌, ◌++◌, refl, sym, ap, subst, ◌∙◌, true≢false}
use Rattle.std.specs.Prelude.{flat_map}
use Rattle.std.specs.List.{list_any}

-- x is a member of the list
abbrev pub In : {X : Type 0} → X → List X → Type 0
In x [] = ⊥
In x (y ∷ ys) = (x ≡ y) ⊎ In x ys

-- a member that passes
abbrev pub SomeIn : {X : Type 0} → (X → Bool) → List X → Type 0
SomeIn {X} f xs = (x : X) × In x xs × (f x ≡ true)

-- two tests that pass together are the same
pub same_answer : (b c : Bool) → (b ≡ true → c ≡ true) → (c ≡ true → b ≡ true) → b ≡ c
same_answer true true there back = refl
same_answer true false there back = sym (there refl)
same_answer false true there back = back refl
same_answer false false there back = refl

module _ {X : Type 0} (f : X → Bool) where
  here_or_later : (x : X) (xs : List X) (b : Bool) → f x ≡ b → (list_any f xs ≡ true → SomeIn f xs)
      → b || list_any f xs ≡ true → SomeIn f (x ∷ xs)
  here_or_later x xs true e later h = (x, inl refl, e)
  here_or_later x xs false e later h = let found = later h in (found.0, inr found.1, found.2)

  pub some_in : (xs : List X) → list_any f xs ≡ true → SomeIn f xs
  some_in [] h = absurd (true≢false (sym h))
  some_in (x ∷ xs) h = here_or_later x xs (f x) refl (some_in xs) h

  passes_later : (b c : Bool) → c ≡ true → b || c ≡ true
  passes_later true c h = refl
  passes_later false c h = h

  pub any_of : (x : X) (xs : List X) → In x xs → f x ≡ true → list_any f xs ≡ true
  any_of x [] i h = absurd i
  any_of x (y ∷ ys) (inl same) h = ap (λ b. b || list_any f ys) (ap f (sym same) ∙ h)
  any_of x (y ∷ ys) (inr later) h = passes_later (f y) _ (any_of x ys later h)

module _ {X : Type 0} where
  in_left : (x : X) (xs ys : List X) → In x xs → In x (xs ++ ys)
  in_left x [] ys i = absurd i
  in_left x (z ∷ zs) ys (inl same) = inl same
  in_left x (z ∷ zs) ys (inr later) = inr (in_left x zs ys later)

  in_right : (x : X) (xs ys : List X) → In x ys → In x (xs ++ ys)
  in_right x [] ys i = i
  in_right x (z ∷ zs) ys i = inr (in_right x zs ys i)

  in_either : (x : X) (xs ys : List X) → In x (xs ++ ys) → In x xs ⊎ In x ys
  in_either x [] ys i = inr i
  in_either x (z ∷ zs) ys (inl same) = inl (inl same)
  in_either x (z ∷ zs) ys (inr later) = one_more (in_either x zs ys later)
    where
      one_more : In x zs ⊎ In x ys → In x (z ∷ zs) ⊎ In x ys
      one_more (inl i) = inl (inr i)
      one_more (inr i) = inr i

module _ {X Y : Type 0} (g : X → List Y) where
  pub in_flat : (x : X) (xs : List X) (y : Y) → In x xs → In y (g x) → In y (flat_map g xs)
  in_flat x [] y i h = absurd i
  in_flat x (z ∷ zs) y (inl same) h = in_left y (g z) (flat_map g zs) (subst (λ w. In y (g w)) same h)
  in_flat x (z ∷ zs) y (inr later) h = in_right y (g z) (flat_map g zs) (in_flat x zs y later h)

  from_part : (y : Y) (z : X) (zs : List X) → In y (g z) ⊎ In y (flat_map g zs)
      → (In y (flat_map g zs) → (x : X) × In x zs × In y (g x)) → (x : X) × In x (z ∷ zs) × In y (g x)
  from_part y z zs (inl h) more = (z, inl refl, h)
  from_part y z zs (inr h) more = let found = more h in (found.0, inr found.1, found.2)

  pub from_flat : (xs : List X) (y : Y) → In y (flat_map g xs) → (x : X) × In x xs × In y (g x)
  from_flat [] y i = absurd i
  from_flat (z ∷ zs) y i = from_part y z zs (in_either y (g z) (flat_map g zs) i) (from_flat zs y)
