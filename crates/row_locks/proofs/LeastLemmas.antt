-- The first holder of those in order that passes is the least that does.
use Rattle.std.proofs.Common.{◌≡◌, Bool, true, false, ◌||◌, not, cond, List, [], ◌∷◌, map, Option, None, Some, refl, ap, ◌∙◌, arith}
use Rattle.std.specs.Prelude.{is_some}
use Rattle.std.specs.Ordering.{is_lt}
use Rattle.std.specs.FinMap.Entries.{find, is_sorted, below_all}
use Rattle.std.proofs.lemmas.Bool.{cond_both}
use Rattle.std.proofs.lemmas.Bool.Decides.{nat_tests}
use Rattle.key_sets.proofs.MeetLemmas.{both_are}
use Rattle.row_locks.specs.declared.holder.Holder.{Holder}
use Rattle.row_locks.specs.Holders.{holder_cmp}
use Rattle.row_locks.specs.Locks.{first_where}
use Rattle.row_locks.specs.LockTable.{lesser}
use Rattle.row_locks.proofs.HolderLemmas.{same_holder-exact}

-- whether the first comes before the second
abbrev pub comes_before : Holder → Holder → Bool
comes_before a b = is_lt (holder_cmp a b)

-- whether there is one, and it is no later than this holder
abbrev pub at_most : Option Holder → Holder → Bool
at_most None h = false
at_most (Some a) h = not (comes_before h a)

-- whether what is there comes after this holder
abbrev none_before : Holder → Option Holder → Bool
none_before x None = true
none_before x (Some a) = comes_before x a

-- one that is there passes
abbrev pub passes_if_there : (Holder → Bool) → Option Holder → Type 0
passes_if_there test o = (h : Holder) → o ≡ Some h → test h ≡ true

pub own_least : (a : Holder) → at_most (Some a) a ≡ true
own_least a = grind (arith, nat_tests)

-- ---- the lesser of two
module _ (h : Holder) where
  pub lesser-left : (o p : Option Holder) → at_most o h ≡ true → at_most (lesser o p) h ≡ true
  lesser-left o p e = grind (arith, nat_tests)

  pub lesser-right : (o p : Option Holder) → at_most p h ≡ true → at_most (lesser o p) h ≡ true
  lesser-right o p e = grind (arith, nat_tests)

-- ---- the first that passes
-- what is found comes after what comes before all
found_after : {X : Type 0} (x a : Holder) (es : List (Holder × X))
    → below_all holder_cmp x es ≡ true → is_some (find holder_cmp a es) ≡ true
    → comes_before x a ≡ true
found_after x a [] all there = cc
found_after x a (e ∷ es) all there =
    let more = found_after x a es in let same = same_holder-exact a e.0 in grind (arith, more, same)

module _ {X : Type 0} (test : Holder → Bool) where
  -- it is the one that passes and is no later than any that does
  pub first-is : (o : Option Holder) → passes_if_there test o
      → ((h : Holder) → test h ≡ true → at_most o h ≡ true)
      → (es : List (Holder × X)) → is_sorted holder_cmp es ≡ true
      → ((h : Holder) → test h ≡ true → is_some (find holder_cmp h es) ≡ true)
      → first_where test (map (λ e. e.0) es) ≡ o
  first-is None passes least [] sorted within = refl
  first-is (Some a) passes least [] sorted within = let there = within a (passes a refl) in cc
  first-is o passes least (e ∷ es) sorted within =
      let both = both_are (below_all holder_cmp e.0 es) (is_sorted holder_cmp es) sorted in
      cond_both (test e.0) (Some e.0) (first_where test (map (λ e. e.0) es)) (λ p. p ≡ o)
      (λ is. here o refl both.0 (least e.0 is))
      (λ fails. first-is o passes least es both.1
      (λ h is. let own = same_holder-exact h e.0 in grind (arith, within h is, own)))
    where
      here : (p : Option Holder) → o ≡ p → below_all holder_cmp e.0 es ≡ true
          → at_most o e.0 ≡ true → Some e.0 ≡ o
      here None is below most = let none = ap (λ p. at_most p e.0) is in cc
      here (Some a) is below most =
          let there = within a (passes a is) in let after = found_after e.0 a es below in
          let own = same_holder-exact a e.0 in grind (arith, there, after, own)

  -- it comes after what comes before all
  first_after : (x : Holder) (es : List (Holder × X)) → below_all holder_cmp x es ≡ true
      → none_before x (first_where test (map (λ e. e.0) es)) ≡ true
  first_after x [] all = refl
  first_after x (e ∷ es) all = grind (arith, first_after x es, all)

either_here : (x : Holder) (f g : Bool) (o p : Option Holder) → none_before x o ≡ true
    → none_before x p ≡ true
    → cond (f || g) (Some x) (lesser o p) ≡ lesser (cond f (Some x) o) (cond g (Some x) p)
either_here x f g o p after also = grind (arith, nat_tests)

-- who passes one of two tests, from who passes each
pub first-either : {X : Type 0} (f g : Holder → Bool) (es : List (Holder × X))
    → is_sorted holder_cmp es ≡ true
    → first_where (λ h. f h || g h) (map (λ e. e.0) es)
    ≡ lesser (first_where f (map (λ e. e.0) es)) (first_where g (map (λ e. e.0) es))
first-either f g [] sorted = refl
first-either f g (e ∷ es) sorted =
    let both = both_are (below_all holder_cmp e.0 es) (is_sorted holder_cmp es) sorted in
    ap (cond (f e.0 || g e.0) (Some e.0)) (first-either f g es both.1)
    ∙ either_here e.0 (f e.0) (g e.0) _ _ (first_after f e.0 es both.0)
    (first_after g e.0 es both.0)
