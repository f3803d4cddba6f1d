-- Which fragments some keys touch, told by the kinds at the same parts.
use Rattle.std.proofs.Common.{◌≡◌, ℕ, Bool, true, false, ◌||◌, ◌&&◌, List, [], ◌∷◌, ◌++◌, Option, Some, None, refl, sym, ap, ◌∙◌}
use Rattle.std.specs.Prelude.{flat_map}
use Rattle.std.specs.List.{list_any}
use Rattle.std.proofs.lemmas.List.Concat.{flat_map-append}
use Rattle.std.proofs.lemmas.List.Folds.{list_any-append}
use Rattle.key_sets.specs.declared.kind.Kind.{Kind}
use Rattle.key_sets.specs.declared.kind.Kind.TheVariants.{Shared}
use Rattle.key_sets.specs.declared.parts.Parts.{Parts}
use Rattle.key_sets.specs.Keys.{Keys, meet, pairs_meet, pairs_of, pairs_of_key, table_pair, touches}
use Rattle.key_sets.specs.Kinds.{kinds_touch}
use Rattle.cert_meaning.specs.declared.items.Fragment.{Fragment}
use Rattle.sr_fragments.specs.OpenSet.{latest, meets, pair_meets}
use Rattle.sr_fragments.proofs.LatestLemmas.{latest-or, latest-none_of}
use Rattle.key_sets.specs.Parts.{table_of}
use Rattle.cert_meaning.specs.Extremes.{greater}
use Rattle.cert_meaning.proofs.ExtremeLemmas.{greater-assoc, greater-none}

or_swap : (a b c d : Bool) → (a || b) || (c || d) ≡ (a || c) || (b || d)
or_swap true b c d = refl
or_swap false true true d = refl
or_swap false true false d = refl
or_swap false false c d = refl

pub or_false : (b : Bool) → b || false ≡ b
or_false true = refl
or_false false = refl

module _ {X : Type 0} where
  -- a member passes one of two tests
  pub any-or : (f g : X → Bool) (xs : List X)
      → list_any (λ x. f x || g x) xs ≡ list_any f xs || list_any g xs
  any-or f g [] = refl
  any-or f g (x ∷ xs) =
      ap (λ b. (f x || g x) || b) (any-or f g xs)
      ∙ or_swap (f x) (g x) (list_any f xs) (list_any g xs)

  any-none : (xs : List X) → list_any (λ x. false) xs ≡ false
  any-none [] = refl
  any-none (x ∷ xs) = any-none xs

  -- a member passes, where something else holds
  pub any-and : (b : Bool) (f : X → Bool) (xs : List X)
      → list_any (λ x. b && f x) xs ≡ b && list_any f xs
  any-and true f xs = refl
  any-and false f xs = any-none xs

  pub any-flat : {Y : Type 0} (f : Y → Bool) (g : X → List Y) (xs : List X)
      → list_any f (flat_map g xs) ≡ list_any (λ x. list_any f (g x)) xs
  any-flat f g [] = refl
  any-flat f g (x ∷ xs) =
      list_any-append f (g x) (flat_map g xs) ∙ ap (λ b. list_any f (g x) || b) (any-flat f g xs)

module _ where
  -- a fragment meets two lists of keys where it meets one of them
  pub meets-append : (ks ls : List (Parts × Kind)) (e : Fragment)
      → meets (ks ++ ls) e ≡ meets ks e || meets ls e
  meets-append ks ls e =
      (λ i. list_any (λ p. list_any (pairs_meet kinds_touch p)
      (flat_map-append pairs_of_key ks ls i)) (pairs_of e.keys))
      ∙ (λ i. list_any (λ p. list_any-append (pairs_meet kinds_touch p) (flat_map pairs_of_key ks)
      (flat_map pairs_of_key ls) i) (pairs_of e.keys))
      ∙ any-or (λ p. list_any (pairs_meet kinds_touch p) (flat_map pairs_of_key ks))
      (λ p. list_any (pairs_meet kinds_touch p) (flat_map pairs_of_key ls))
      (pairs_of e.keys)

  -- the latest that meets one key more
  latest-more : (k : Parts × Kind) (ks : List (Parts × Kind)) (es : List Fragment)
      → greater (latest (meets (k ∷ [])) es) (latest (meets ks) es) ≡ latest (meets (k ∷ ks)) es
  latest-more k ks es =
      sym (latest-or (meets (k ∷ [])) (meets ks) es)
      ∙ (λ i. latest (λ e. sym (meets-append (k ∷ []) ks e) i) es)

  -- once the first of the keys that are left is gone over, what was found and the rest are still
  -- the whole
  pub latest-next : (left next : List (Parts × Kind)) (k : Parts × Kind) (es : List Fragment)
      → left ≡ k ∷ next
      → (before one after all : Option ℕ) → greater before (latest (meets left) es) ≡ all
      → one ≡ latest (meets (k ∷ [])) es → after ≡ greater before one
      → greater after (latest (meets next) es) ≡ all
  latest-next left next k es is before one after all at_before at_one at_after =
      let rest = latest (meets next) es in
      (λ i. greater (at_after i) rest) ∙ greater-assoc before one rest
      ∙ ap (greater before) ((λ i. greater (at_one i) rest) ∙ latest-more k next es
      ∙ ap (λ ks. latest (meets ks) es) (sym is))
      ∙ at_before

  -- no key is met where there is none
  latest-no_keys : (es : List Fragment) → latest (meets []) es ≡ None
  latest-no_keys es = latest-none_of (meets []) (λ e. any-none (pairs_of e.keys)) es

  -- where no key is left, what was found is the whole
  pub latest-all : (left : List (Parts × Kind)) (es : List Fragment) → left ≡ []
      → (found all : Option ℕ)
      → greater found (latest (meets left) es) ≡ all → found ≡ all
  latest-all left es is found all at_found =
      sym (greater-none found)
      ∙ ap (greater found) (sym (ap (λ ks. latest (meets ks) es) is ∙ latest-no_keys es))
      ∙ at_found

  -- a fragment meets the key of a row by the key itself or at its table
  row_meets : (p : Parts) (kind : Kind) (name : List ℕ) → p.row ≡ Some name → (e : Fragment)
      → meets ((p, kind) ∷ []) e ≡ pair_meets (p, kind) e || pair_meets (table_of p, Shared) e
  row_meets p kind name is e =
      (λ i. list_any (λ x. list_any (pairs_meet kinds_touch x)
      (((p, kind) ∷ table_pair p (is i)) ++ [])) (pairs_of e.keys))
      ∙ (λ i. list_any (λ x. pairs_meet kinds_touch x (p, kind)
      || or_false (pairs_meet kinds_touch x (table_of p, Shared)) i) (pairs_of e.keys))
      ∙ any-or (λ x. pairs_meet kinds_touch x (p, kind))
      (λ x. pairs_meet kinds_touch x (table_of p, Shared)) (pairs_of e.keys)

  table_meets : (p : Parts) (kind : Kind) → p.row ≡ None → (e : Fragment)
      → meets ((p, kind) ∷ []) e ≡ pair_meets (p, kind) e
  table_meets p kind is e =
      (λ i. list_any (λ x. list_any (pairs_meet kinds_touch x)
      (((p, kind) ∷ table_pair p (is i)) ++ [])) (pairs_of e.keys))
      ∙ (λ i. list_any (λ x. or_false (pairs_meet kinds_touch x (p, kind)) i) (pairs_of e.keys))

  pub latest-row : (p : Parts) (kind : Kind) (name : List ℕ) → p.row ≡ Some name
      → (es : List Fragment)
      → greater (latest (pair_meets (p, kind)) es) (latest (pair_meets (table_of p, Shared)) es)
      ≡ latest (meets ((p, kind) ∷ [])) es
  latest-row p kind name is es =
      sym (latest-or (pair_meets (p, kind)) (pair_meets (table_of p, Shared)) es)
      ∙ (λ i. latest (λ e. sym (row_meets p kind name is e) i) es)

  pub latest-table : (p : Parts) (kind : Kind) → p.row ≡ None → (es : List Fragment)
      → greater (latest (pair_meets (p, kind)) es) None ≡ latest (meets ((p, kind) ∷ [])) es
  latest-table p kind is es =
      greater-none (latest (pair_meets (p, kind)) es)
      ∙ (λ i. latest (λ e. sym (table_meets p kind is e) i) es)

-- what touches the keys of a set
pub latest-touching : (keys : Keys) (es : List Fragment)
    → latest (meets keys.entries) es ≡ latest (λ e. touches e.keys keys) es
unfolding meet pairs_of
latest-touching keys es = refl
