-- A search among the entries of a map, in rising order of the numbers.
use Rattle.std.proofs.Common.{◌≡◌, ℕ, ◌<◌, Bool, true, false, cond, inl, inr, List, [], ◌∷◌, Option, None, Some, refl, sym, ap, ◌∙◌, arith}
use Rattle.std.specs.Prelude.{T, is_some, ◌&&◌, ◌||◌}
use Rattle.std.specs.List.{find, list_any}
use Rattle.std.specs.Ordering.{nat_cmp, is_lt}
use Rattle.std.specs.declared.cmp.Ordering.{Ordering}
use Rattle.std.specs.declared.cmp.Ordering.TheVariants.{Less, Equal, Greater}
use Rattle.std.proofs.lemmas.Cmp.{ranked}
use Rattle.std.specs.FinMap.Entries.{is_sorted, below_all}
use Rattle.finite_map.specs.FiniteMap.{FiniteMap, get}
use Rattle.key_sets.proofs.ListLemmas.{In}
use Rattle.node_meaning.proofs.EntryLaws.{in_from_get, get_from_in}

lower_by : (p k : ℕ) (r : Ordering) → r ≡ nat_cmp p k → T (is_lt r) → p < k
lower_by p k Less is h = ranked p k Less is
lower_by p k Equal is h = absurd h
lower_by p k Greater is h = absurd h

both_true : (a b : Bool) → T (a && b) → T a × T b
both_true true b h = (tt, h)
both_true false b h = absurd h

module _ {X : Type 0} where
  pub below_in : (p : ℕ) (es : List (ℕ × X)) (n : ℕ) (x : X) → T (below_all nat_cmp p es) → In (n, x) es → p < n
  below_in p [] n x h i = absurd i
  below_in p (e ∷ es) n x h (inl same) =
      let lower = lower_by p e.0 (nat_cmp p e.0) refl (both_true _ _ h).0 in
      let is = ap (λ (a : ℕ × X). a.0) same in omega (arith, lower, is)
  below_in p (e ∷ es) n x h (inr later) = below_in p es n x (both_true _ _ h).1 later

  module _ (test : ℕ × X → Bool) where
    found_first : (es : List (ℕ × X)) (n : ℕ) (x : X) → T (is_sorted nat_cmp es) → In (n, x) es
        → ((q : ℕ) (y : X) → In (q, y) es → q < n → test (q, y) ≡ false) → test (n, x) ≡ true → find test es ≡ Some (n, x)
    found_first [] n x rising i fails passes = absurd i
    found_first (e ∷ es) n x rising (inl same) fails passes =
        ap (λ a. cond (test a) (Some a) (find test es)) (sym same)
        ∙ ap (λ b. cond b (Some (n, x)) (find test es)) passes
    found_first (e ∷ es) n x rising (inr later) fails passes =
        let parts = both_true _ _ rising in
        ap (λ b. cond b (Some e) (find test es)) (fails e.0 e.1 (inl refl) (below_in e.0 es n x parts.0 later))
        ∙ found_first es n x parts.1 later (λ q y i. fails q y (inr i)) passes

    found_none : (es : List (ℕ × X)) → ((q : ℕ) (y : X) → In (q, y) es → test (q, y) ≡ false) → find test es ≡ None
    found_none [] fails = refl
    found_none (e ∷ es) fails =
        ap (λ b. cond b (Some e) (find test es)) (fails e.0 e.1 (inl refl)) ∙ found_none es (λ q y i. fails q y (inr i))

    any_cond : (e : ℕ × X) (b : Bool) (o : Option (ℕ × X)) (c : Bool) → is_some o ≡ c → is_some (cond b (Some e) o) ≡ (b || c)
    any_cond e true o c is = refl
    any_cond e false o c is = is

    -- something is found exactly where some entry passes
    pub any_found : (es : List (ℕ × X)) → is_some (find test es) ≡ list_any test es
    any_found [] = refl
    any_found (e ∷ es) = any_cond e (test e) (find test es) (list_any test es) (any_found es)

    -- no number below this one has an entry that passes
    abbrev pub NoneBelow : FiniteMap nat_cmp X → ℕ → Type 0
    NoneBelow m n = (q : ℕ) (y : X) → q < n → get m q ≡ Some y → test (q, y) ≡ false

    pub first_found : (m : FiniteMap nat_cmp X) (n : ℕ) (x : X) → get m n ≡ Some x → NoneBelow m n → test (n, x) ≡ true
        → find test m.entries ≡ Some (n, x)
    first_found m n x there fails passes =
        found_first m.entries n x m.sorted (in_from_get m n x there)
        (λ q y i lower. fails q y lower (get_from_in m q y i)) passes

    pub nothing_found : (m : FiniteMap nat_cmp X) (n : ℕ) → NoneBelow m n → ((q : ℕ) (y : X) → get m q ≡ Some y → q < n)
        → find test m.entries ≡ None
    nothing_found m n fails low =
        found_none m.entries (λ q y i. let there = get_from_in m q y i in fails q y (low q y there) there)
