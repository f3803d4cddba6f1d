-- Lists whose keys rise are the entries of a map, and a map is that of its entries.
use Rattle.std.proofs.Common.{◌≡◌, ℕ, ◌<◌, Bool, true, false, List, [], ◌∷◌, Option, Some, None, refl, sym, ap, ◌∙◌}
use Rattle.std.specs.Prelude.{T}
use Rattle.std.specs.Ordering.{is_lt, nat_cmp}
use Rattle.std.specs.declared.cmp.Ordering.{Ordering}
use Rattle.std.specs.declared.cmp.Ordering.TheVariants.{Less, Equal, Greater}
use Rattle.std.specs.Cmp.{IsTotalOrder, nat_cmp_is}
use Rattle.std.specs.FinMap.Entries.{put, is_sorted, below_all, by_order}
use Rattle.finite_map.specs.FiniteMap.{FiniteMap, empty, from_entries, entries-insert, same_entries_map}
use Rattle.write_set.proofs.RulesOf.{both, and}

pub less_is : (r : Ordering) → is_lt r ≡ true → r ≡ Less
less_is Less e = refl
less_is Equal e = absurd cc
less_is Greater e = absurd cc

is_true : (b : Bool) → T b → b ≡ true
is_true true h = refl
is_true false h = absurd h

lower : {K : Type 0} {R : K → K → Ordering} (o : IsTotalOrder R) (x y z : K) → is_lt (R x y) ≡ true → is_lt (R y z) ≡ true
    → is_lt (R x z) ≡ true
lower {R} o x y z one two = ap is_lt (o.trans x y z (less_is (R x y) one) (less_is (R y z) two))

module _ {K X : Type 0} {R : K → K → Ordering} (o : IsTotalOrder R) where
  -- each key is above the one before it
  abbrev pub KeysRise : Option K → List (K × X) → Type 0
  KeysRise last [] = Unit {0}
  KeysRise None (e ∷ es) = KeysRise (Some e.0) es
  KeysRise (Some last) (e ∷ es) = (is_lt (R last e.0) ≡ true) × KeysRise (Some e.0) es

  rises_lower : (x y : K) (es : List (K × X)) → is_lt (R x y) ≡ true → KeysRise (Some y) es → KeysRise (Some x) es
  rises_lower x y [] below rises = tt
  rises_lower x y (e ∷ es) below rises = (lower o x y e.0 below rises.0, rises.1)

  below_from : (x : K) (es : List (K × X)) → KeysRise (Some x) es → below_all R x es ≡ true
  below_from x [] rises = refl
  below_from x (e ∷ es) rises =
      and (is_lt (R x e.0)) (below_all R x es) rises.0 (below_from x es (rises_lower x e.0 es rises.0 rises.1))

  sorted_above : (x : K) (es : List (K × X)) → KeysRise (Some x) es → is_sorted R es ≡ true
  sorted_above x [] rises = refl
  sorted_above x (e ∷ es) rises =
      and (below_all R e.0 es) (is_sorted R es) (below_from e.0 es rises.1) (sorted_above e.0 es rises.1)

  pub sorted_from : (es : List (K × X)) → KeysRise None es → is_sorted R es ≡ true
  sorted_from [] rises = refl
  sorted_from (e ∷ es) rises =
      and (below_all R e.0 es) (is_sorted R es) (below_from e.0 es rises) (sorted_above e.0 es rises)

  pub rises_above : (x : K) (es : List (K × X)) → below_all R x es ≡ true → is_sorted R es ≡ true → KeysRise (Some x) es
  rises_above x [] below sorted = tt
  rises_above x (e ∷ es) below sorted =
      let h = both (is_lt (R x e.0)) (below_all R x es) below in
      let s = both (below_all R e.0 es) (is_sorted R es) sorted in
      (h.0, rises_above e.0 es s.0 s.1)

  pub rises_all : (es : List (K × X)) → is_sorted R es ≡ true → KeysRise None es
  rises_all [] sorted = tt
  rises_all (e ∷ es) sorted =
      let s = both (below_all R e.0 es) (is_sorted R es) sorted in rises_above e.0 es s.0 s.1

  pub entries_sorted : (m : FiniteMap R X) → is_sorted R m.entries ≡ true
  entries_sorted m = is_true (is_sorted R m.entries) m.sorted

  put_first : (k : K) (v : X) (es : List (K × X)) → below_all R k es ≡ true → put R k v es ≡ (k, v) ∷ es
  put_first k v [] below = refl
  put_first k v (e ∷ es) below =
      ap (λ r. by_order r ((k, v) ∷ e ∷ es) ((e.0, v) ∷ es) (e ∷ put R k v es))
      (less_is (R k e.0) (both (is_lt (R k e.0)) (below_all R k es) below).0)

  -- the map of entries in order has these entries
  pub from_sorted : (es : List (K × X)) → is_sorted R es ≡ true → (from_entries {R = R} es).entries ≡ es
  unfolding empty
  from_sorted [] sorted = refl
  from_sorted (e ∷ es) sorted =
      let s = both (below_all R e.0 es) (is_sorted R es) sorted in
      entries-insert o (from_entries es) e.0 e.1 ∙ ap (put R e.0 e.1) (from_sorted es s.1) ∙ put_first e.0 e.1 es s.0

  -- a map is that of its entries
  pub from_own : (m : FiniteMap R X) → from_entries m.entries ≡ m
  from_own m = same_entries_map (from_entries m.entries) m (from_sorted m.entries (entries_sorted m))

-- a lower number stands before a higher
pub number_below : (x y : ℕ) → x < y → is_lt (nat_cmp x y) ≡ true
number_below x y below = ap is_lt (sym (nat_cmp_is x y Less below))
