-- The entries of a map by numbers: which are members, and what a search among them finds.
use Rattle.std.proofs.Common.{◌≡◌, ℕ, ◌≤◌, ◌<◌, arith, eq-eqb, Bool, true, false, cond, ◌&&◌, inl, inr, List, [], ◌∷◌, Option, None, Some, refl, sym, ap, ◌∙◌, true≢false}
use Rattle.std.specs.Prelude.{T, ◌==◌, is_some}
use Rattle.std.specs.List.{find, list_any}
use Rattle.std.specs.Ordering.{nat_cmp, is_lt, is_eq, eq_by_cmp}
use Rattle.std.specs.declared.cmp.Ordering.{Ordering}
use Rattle.std.specs.declared.cmp.Ordering.TheVariants.{Less, Equal, Greater}
use Rattle.std.specs.FinMap.Entries.{is_sorted, below_all}
use Rattle.std.specs.FinMap.Entries as entries
use Rattle.std.proofs.lemmas.Bool.{false_from_ne_true, or_parts}
use Rattle.std.proofs.lemmas.Option.{same_Some}
use Rattle.finite_map.specs.FiniteMap.{FiniteMap, get, get-entries}
use Rattle.finite_map.proofs.Edits.{numbers, tied, untied, itself}
use Rattle.key_sets.proofs.ListLemmas.{In, some_in, any_of}

both_true : (a b : Bool) → T (a && b) → T a × T b
both_true true b h = (tt, h)
both_true false b h = absurd h

below_not_same : (o : Ordering) → T (is_lt o) → is_eq o ≡ false
below_not_same Less h = refl
below_not_same Equal h = absurd h
below_not_same Greater h = absurd h

-- what is some value is not none
pub some_not_none : {X : Type 0} (a : X) (o : Option X) → o ≡ Some a → o ≡ None → ⊥
some_not_none a o some none = true≢false (ap is_some (sym some ∙ none))

pub less_from : (a b : ℕ) → a ≤ b → a == b ≡ false → a < b
less_from a b fits unequal =
    let d : a ≡ b → ⊥ = λ same. true≢false (sym (eq-eqb a b same) ∙ unequal) in omega (arith, fits, d)

module _ {X : Type 0} where
  abbrev keyed : ℕ → List (ℕ × X) → Option X
  keyed = entries.find nat_cmp

  found_here : (q : ℕ) (v : X) (e : ℕ × X) (es : List (ℕ × X)) (b : Bool) → eq_by_cmp nat_cmp q e.0 ≡ b
      → cond b (Some e.1) (keyed q es) ≡ Some v → (keyed q es ≡ Some v → In (q, v) es) → In (q, v) (e ∷ es)
  found_here q v e es true same h later = inl (λ i. (tied numbers q e.0 same i, same_Some v e.1 (sym h) i))
  found_here q v e es false same h later = inr (later h)

  in_from_keyed : (q : ℕ) (v : X) (es : List (ℕ × X)) → keyed q es ≡ Some v → In (q, v) es
  in_from_keyed q v [] h = cc
  in_from_keyed q v (e ∷ es) h = found_here q v e es (eq_by_cmp nat_cmp q e.0) refl h (in_from_keyed q v es)

  below_none : (p : ℕ) (es : List (ℕ × X)) → T (below_all nat_cmp p es) → keyed p es ≡ None
  below_none p [] h = refl
  below_none p (e ∷ es) h =
      let less = both_true _ _ h in
      ap (λ b. cond b (Some e.1) (keyed p es)) (below_not_same (nat_cmp p e.0) less.0) ∙ below_none p es less.1

  -- the key of the first entry is not behind it
  pub none_later : (e : ℕ × X) (es : List (ℕ × X)) → T (is_sorted nat_cmp (e ∷ es))
      → entries.find nat_cmp e.0 es ≡ None
  none_later e es rising = below_none e.0 es (both_true _ _ rising).0

  not_here : (q : ℕ) (v : X) (e : ℕ × X) (es : List (ℕ × X)) (b : Bool) → eq_by_cmp nat_cmp q e.0 ≡ b
      → keyed e.0 es ≡ None → keyed q es ≡ Some v → cond b (Some e.1) (keyed q es) ≡ Some v
  not_here q v e es true same none h =
      let here = ap (λ p. keyed p es) (tied numbers q e.0 same) in cc
  not_here q v e es false same none h = h

  keyed_from_in : (q : ℕ) (v : X) (es : List (ℕ × X)) → T (is_sorted nat_cmp es) → In (q, v) es → keyed q es ≡ Some v
  keyed_from_in q v [] rising i = absurd i
  keyed_from_in q v (e ∷ es) rising (inl same) =
      ap (λ b. cond b (Some e.1) (keyed q es)) (ap (λ (p : ℕ × X). eq_by_cmp nat_cmp q p.0) (sym same) ∙ itself numbers q)
      ∙ ap (λ (p : ℕ × X). Some p.1) (sym same)
  keyed_from_in q v (e ∷ es) rising (inr later) =
      let parts = both_true _ _ rising in
      not_here q v e es (eq_by_cmp nat_cmp q e.0) refl (below_none e.0 es parts.0) (keyed_from_in q v es parts.1 later)

  -- the entries behind the first one rise, and have other keys
  pub later_sorted : (e : ℕ × X) (es : List (ℕ × X)) → T (is_sorted nat_cmp (e ∷ es))
      → T (is_sorted nat_cmp es)
  later_sorted e es rising = (both_true _ _ rising).1

  below_differs : (p : ℕ) (es : List (ℕ × X)) → T (below_all nat_cmp p es) → (q : ℕ) (v : X)
      → In (q, v) es → eq_by_cmp nat_cmp p q ≡ false
  below_differs p [] below q v i = absurd i
  below_differs p (e ∷ es) below q v (inl same) =
      ap (λ (x : ℕ × X). eq_by_cmp nat_cmp p x.0) same
      ∙ below_not_same (nat_cmp p e.0) (both_true _ _ below).0
  below_differs p (e ∷ es) below q v (inr i) = below_differs p es (both_true _ _ below).1 q v i

  pub later_key : (e : ℕ × X) (es : List (ℕ × X)) → T (is_sorted nat_cmp (e ∷ es)) → (q : ℕ) (v : X)
      → In (q, v) es → eq_by_cmp nat_cmp q e.0 ≡ false
  later_key e es rising q v i =
      false_from_ne_true (eq_by_cmp nat_cmp q e.0) (λ tie.
      untied numbers e.0 q (below_differs e.0 es (both_true _ _ rising).0 q v i)
      (sym (tied numbers q e.0 tie)))

  -- an entry is what the map has at its key
  pub get_from_in : (m : FiniteMap nat_cmp X) (q : ℕ) (v : X) → In (q, v) m.entries → get m q ≡ Some v
  get_from_in m q v i = get-entries m q ∙ keyed_from_in q v m.entries m.sorted i

  pub in_from_get : (m : FiniteMap nat_cmp X) (q : ℕ) (v : X) → get m q ≡ Some v → In (q, v) m.entries
  in_from_get m q v h = in_from_keyed q v m.entries (sym (get-entries m q) ∙ h)

-- what a search finds is a member that passes the test
pub record Found {X : Type 0} (m : FiniteMap nat_cmp X) (test : ℕ × X → Bool) (e : ℕ × X) : Type 0 where
  pub there : get m e.0 ≡ Some e.1
  pub passes : test e ≡ true

module _ {X : Type 0} (test : X → Bool) where
  found_at : (x : X) (xs : List X) (y : X) (b : Bool) → test x ≡ b → cond b (Some x) (find test xs) ≡ Some y
      → (find test xs ≡ Some y → In y xs × (test y ≡ true)) → In y (x ∷ xs) × (test y ≡ true)
  found_at x xs y true same h later = let is = same_Some x y h in (inl (sym is), ap test (sym is) ∙ same)
  found_at x xs y false same h later = let rest = later h in (inr rest.0, rest.1)

  -- what is found is a member that passes
  pub from_find : (xs : List X) (y : X) → find test xs ≡ Some y → In y xs × (test y ≡ true)
  from_find [] y h = cc
  from_find (x ∷ xs) y h = found_at x xs y (test x) refl h (from_find xs y)

  missed_at : (x : X) (xs : List X) (y : X) (b : Bool) → test x ≡ b → cond b (Some x) (find test xs) ≡ None
      → In y (x ∷ xs) → (find test xs ≡ None → In y xs → test y ≡ false) → test y ≡ false
  missed_at x xs y true same h i later = cc
  missed_at x xs y false same h (inl is) later = ap test is ∙ same
  missed_at x xs y false same h (inr i) later = later h i

  -- where nothing is found no member passes
  pub none_passes : (xs : List X) (y : X) → find test xs ≡ None → In y xs → test y ≡ false
  none_passes [] y h i = absurd i
  none_passes (x ∷ xs) y h i = missed_at x xs y (test x) refl h i (none_passes xs y)

  -- where no member passes the test, none does
  pub none_of : (xs : List X) (y : X) → list_any test xs ≡ false → In y xs → test y ≡ false
  none_of [] y h i = absurd i
  none_of (x ∷ xs) y h (inl is) = ap test is ∙ (or_parts (test x) (list_any test xs) h).0
  none_of (x ∷ xs) y h (inr i) = none_of xs y (or_parts (test x) (list_any test xs) h).1 i

  pub any_none : (xs : List X) → ((y : X) → In y xs → test y ≡ false) → list_any test xs ≡ false
  any_none xs h = false_from_ne_true _ (λ yes. let found = some_in test xs yes in true≢false (sym found.2 ∙ h found.0 found.1))

module _ {X : Type 0} (m : FiniteMap nat_cmp X) (test : ℕ × X → Bool) where
  pub entry_found : (e : ℕ × X) → find test m.entries ≡ Some e → Found m test e
  entry_found e h =
      let found = from_find test m.entries e h in
      record { there = get_from_in m e.0 e.1 found.0; passes = found.1 }

  pub entry_missed : (q : ℕ) (v : X) → find test m.entries ≡ None → get m q ≡ Some v → test (q, v) ≡ false
  entry_missed q v none h = none_passes test m.entries (q, v) none (in_from_get m q v h)

  pub some_entry : list_any test m.entries ≡ true → (e : ℕ × X) × Found m test e
  some_entry h =
      let found = some_in test m.entries h in
      (found.0, record { there = get_from_in m found.0.0 found.0.1 found.1; passes = found.2 })

  pub no_entry : (q : ℕ) (v : X) → list_any test m.entries ≡ false → get m q ≡ Some v → test (q, v) ≡ false
  no_entry q v none h = none_of test m.entries (q, v) none (in_from_get m q v h)

  pub entries_fail : ((q : ℕ) (v : X) → get m q ≡ Some v → test (q, v) ≡ false) → list_any test m.entries ≡ false
  entries_fail h = any_none test m.entries (λ e i. h e.0 e.1 (get_from_in m e.0 e.1 i))

  pub entry_any : (q : ℕ) (v : X) → get m q ≡ Some v → test (q, v) ≡ true → list_any test m.entries ≡ true
  entry_any q v h passes = any_of test (q, v) m.entries (in_from_get m q v h) passes
