-- Which entries meet some keys, told by the kinds at the same parts.
use Rattle.std.proofs.Common.{◌≡◌, ℕ, Bool, true, false, cond, ◌||◌, ◌&&◌, List, [], ◌∷◌, ◌++◌, Option, Some, None, refl, sym, ap, ◌∙◌}
use Rattle.std.specs.Prelude.{flat_map}
use Rattle.std.specs.List.{list_any}
use Rattle.std.proofs.lemmas.List.Concat.{flat_map-append}
use Rattle.std.proofs.lemmas.List.Folds.{list_any-append}
use Rattle.key_sets.specs.declared.kind.Kind.{Kind}
use Rattle.key_sets.specs.declared.kind.Kind.TheVariants.{Shared, Update, Exclusive}
use Rattle.key_sets.specs.declared.parts.Parts.{Parts}
use Rattle.key_sets.specs.Keys.{pairs_meet, pairs_of_key, table_pair}
use Rattle.key_sets.specs.Parts.{same_parts, table_of}
use Rattle.cert_meaning.specs.Extremes.{greater}
use Rattle.cert_meaning.proofs.ExtremeLemmas.{greater-assoc, greater-none}
use Rattle.cert_index.specs.declared.pair.Pair.{Pair}
use Rattle.cert_index.specs.Index.{Entry, latest, meets}
use Rattle.cert_index.specs.Pairs.{is_at, is_pair, same_kind}
use Rattle.cert_index.specs.Table.{pair_meets}
use Rattle.cert_index.proofs.LatestLemmas.{latest-or, latest-and, latest-none_of}

or_swap : (a b c d : Bool) → (a || b) || (c || d) ≡ (a || c) || (b || d)
or_swap true b c d = refl
or_swap false true true d = refl
or_swap false true false d = refl
or_swap false false c d = refl

pub or_false : (b : Bool) → b || false ≡ b
or_false true = refl
or_false false = refl

module _ {X : Type 0} where
  -- a member passes one of two tests
  pub any-or : (f g : X → Bool) (xs : List X) → list_any (λ x. f x || g x) xs ≡ list_any f xs || list_any g xs
  any-or f g [] = refl
  any-or f g (x ∷ xs) =
      ap (λ b. (f x || g x) || b) (any-or f g xs) ∙ or_swap (f x) (g x) (list_any f xs) (list_any g xs)

  any-none : (xs : List X) → list_any (λ x. false) xs ≡ false
  any-none [] = refl
  any-none (x ∷ xs) = any-none xs

  -- a member passes, where something else holds
  pub any-and : (b : Bool) (f : X → Bool) (xs : List X) → list_any (λ x. b && f x) xs ≡ b && list_any f xs
  any-and true f xs = refl
  any-and false f xs = any-none xs

module _ (test : Kind → Kind → Bool) where
  -- an entry meets two lists of keys where it meets one of them
  pub meets-append : (ks ls : List (Parts × Kind)) (e : Entry) → meets test (ks ++ ls) e ≡ meets test ks e || meets test ls e
  meets-append ks ls e =
      (λ i. list_any (λ p. list_any (pairs_meet test p) (flat_map-append pairs_of_key ks ls i)) (pairs_of_key e.key))
      ∙ (λ i. list_any (λ p. list_any-append (pairs_meet test p) (flat_map pairs_of_key ks) (flat_map pairs_of_key ls) i) (pairs_of_key e.key))
      ∙ any-or (λ p. list_any (pairs_meet test p) (flat_map pairs_of_key ks)) (λ p. list_any (pairs_meet test p) (flat_map pairs_of_key ls))
      (pairs_of_key e.key)

  -- the latest that meets one key more
  latest-more : (k : Parts × Kind) (ks : List (Parts × Kind)) (es : List Entry)
      → greater (latest (meets test (k ∷ [])) es) (latest (meets test ks) es) ≡ latest (meets test (k ∷ ks)) es
  latest-more k ks es =
      sym (latest-or (meets test (k ∷ [])) (meets test ks) es)
      ∙ (λ i. latest (λ e. sym (meets-append (k ∷ []) ks e) i) es)

  -- once the first of the keys that are left is gone over, what was found and the rest are still the whole
  pub latest-next : (left next : List (Parts × Kind)) (k : Parts × Kind) (es : List Entry) → left ≡ k ∷ next
      → (before one after all : Option ℕ) → greater before (latest (meets test left) es) ≡ all
      → one ≡ latest (meets test (k ∷ [])) es → after ≡ greater before one
      → greater after (latest (meets test next) es) ≡ all
  latest-next left next k es is before one after all at_before at_one at_after =
      let rest = latest (meets test next) es in
      (λ i. greater (at_after i) rest) ∙ greater-assoc before one rest
      ∙ ap (greater before) ((λ i. greater (at_one i) rest) ∙ latest-more k next es ∙ ap (λ ks. latest (meets test ks) es) (sym is))
      ∙ at_before

  -- no key is met where there is none
  latest-no_keys : (es : List Entry) → latest (meets test []) es ≡ None
  latest-no_keys es = latest-none_of (meets test []) (λ e. any-none (pairs_of_key e.key)) es

  -- where no key is left, what was found is the whole
  pub latest-all : (left : List (Parts × Kind)) (es : List Entry) → left ≡ [] → (found all : Option ℕ)
      → greater found (latest (meets test left) es) ≡ all → found ≡ all
  latest-all left es is found all at_found =
      sym (greater-none found)
      ∙ ap (greater found) (sym (ap (λ ks. latest (meets test ks) es) is ∙ latest-no_keys es))
      ∙ at_found

  -- an entry meets the key of a row by the key itself or at its table
  row_meets : (p : Parts) (kind : Kind) (name : List ℕ) → p.row ≡ Some name → (e : Entry)
      → meets test ((p, kind) ∷ []) e ≡ pair_meets test (p, kind) e || pair_meets test (table_of p, Shared) e
  row_meets p kind name is e =
      (λ i. list_any (λ x. list_any (pairs_meet test x) (((p, kind) ∷ table_pair p (is i)) ++ [])) (pairs_of_key e.key))
      ∙ (λ i. list_any (λ x. pairs_meet test x (p, kind) || or_false (pairs_meet test x (table_of p, Shared)) i) (pairs_of_key e.key))
      ∙ any-or (λ x. pairs_meet test x (p, kind)) (λ x. pairs_meet test x (table_of p, Shared)) (pairs_of_key e.key)

  table_meets : (p : Parts) (kind : Kind) → p.row ≡ None → (e : Entry)
      → meets test ((p, kind) ∷ []) e ≡ pair_meets test (p, kind) e
  table_meets p kind is e =
      (λ i. list_any (λ x. list_any (pairs_meet test x) (((p, kind) ∷ table_pair p (is i)) ++ [])) (pairs_of_key e.key))
      ∙ (λ i. list_any (λ x. or_false (pairs_meet test x (p, kind)) i) (pairs_of_key e.key))

  pub latest-row : (p : Parts) (kind : Kind) (name : List ℕ) → p.row ≡ Some name → (es : List Entry)
      → greater (latest (pair_meets test (p, kind)) es) (latest (pair_meets test (table_of p, Shared)) es)
      ≡ latest (meets test ((p, kind) ∷ [])) es
  latest-row p kind name is es =
      sym (latest-or (pair_meets test (p, kind)) (pair_meets test (table_of p, Shared)) es)
      ∙ (λ i. latest (λ e. sym (row_meets p kind name is e) i) es)

  pub latest-table : (p : Parts) (kind : Kind) → p.row ≡ None → (es : List Entry)
      → greater (latest (pair_meets test (p, kind)) es) None ≡ latest (meets test ((p, kind) ∷ [])) es
  latest-table p kind is es =
      greater-none (latest (pair_meets test (p, kind)) es) ∙ (λ i. latest (λ e. sym (table_meets p kind is e) i) es)

and_true : (a b : Bool) → a && b ≡ b && a
and_true true true = refl
and_true true false = refl
and_true false true = refl
and_true false false = refl

none_of : (b c : Bool) → (b && false) || (c && false) ≡ false
none_of true true = refl
none_of true false = refl
none_of false true = refl
none_of false false = refl

and_false : (b : Bool) → b && false ≡ false
and_false true = refl
and_false false = refl

-- the kind of a pair is one of three
by_kind : (test : Kind → Kind → Bool) (kind : Kind) (a : Bool) (k : Kind)
    → a && test k kind
    ≡ (test Shared kind && (a && same_kind k Shared))
    || ((test Update kind && (a && same_kind k Update)) || (test Exclusive kind && (a && same_kind k Exclusive)))
by_kind test kind false k =
    sym ((λ i. and_false (test Shared kind) i || ((test Update kind && false) || (test Exclusive kind && false)))
    ∙ none_of (test Update kind) (test Exclusive kind))
by_kind test kind true Shared =
    sym ((λ i. and_true (test Shared kind) true i || none_of (test Update kind) (test Exclusive kind) i)
    ∙ or_false (test Shared kind))
by_kind test kind true Update =
    sym ((λ i. and_false (test Shared kind) i || (and_true (test Update kind) true i || and_false (test Exclusive kind) i))
    ∙ or_false (test Update kind))
by_kind test kind true Exclusive =
    sym (λ i. and_false (test Shared kind) i || (and_false (test Update kind) i || and_true (test Exclusive kind) true i))

abbrev pair : Parts → Kind → Pair
pair p k = record { parts = p; kind = k }

module _ (test : Kind → Kind → Bool) (p : Parts) (kind : Kind) where
  -- a pair is met where the entry has one of the kinds there that pass
  kinds_meet : (e : Entry) → pair_meets test (p, kind) e
      ≡ (test Shared kind && is_at (pair p Shared) e)
      || ((test Update kind && is_at (pair p Update) e) || (test Exclusive kind && is_at (pair p Exclusive) e))
  kinds_meet e =
      let shared : Parts × Kind → Bool = λ x. test Shared kind && is_pair (pair p Shared) x in
      let update : Parts × Kind → Bool = λ x. test Update kind && is_pair (pair p Update) x in
      let exclusive : Parts × Kind → Bool = λ x. test Exclusive kind && is_pair (pair p Exclusive) x in
      let xs = pairs_of_key e.key in
      (λ i. list_any (λ x. by_kind test kind (same_parts x.0 p) x.1 i) xs)
      ∙ any-or shared (λ x. update x || exclusive x) xs
      ∙ ap (λ b. list_any shared xs || b) (any-or update exclusive xs)
      ∙ (λ i. any-and (test Shared kind) (is_pair (pair p Shared)) xs i
      || (any-and (test Update kind) (is_pair (pair p Update)) xs i || any-and (test Exclusive kind) (is_pair (pair p Exclusive)) xs i))

  pub latest-kinds : (es : List Entry)
      → greater (cond (test Shared kind) (latest (is_at (pair p Shared)) es) None)
      (greater (cond (test Update kind) (latest (is_at (pair p Update)) es) None)
      (cond (test Exclusive kind) (latest (is_at (pair p Exclusive)) es) None))
      ≡ latest (pair_meets test (p, kind)) es
  latest-kinds es =
      let shared : Entry → Bool = λ e. test Shared kind && is_at (pair p Shared) e in
      let update : Entry → Bool = λ e. test Update kind && is_at (pair p Update) e in
      let exclusive : Entry → Bool = λ e. test Exclusive kind && is_at (pair p Exclusive) e in
      sym ((λ i. latest (λ e. kinds_meet e i) es)
      ∙ latest-or shared (λ e. update e || exclusive e) es
      ∙ ap (greater (latest shared es)) (latest-or update exclusive es)
      ∙ (λ i. greater (latest-and (test Shared kind) (is_at (pair p Shared)) es i)
      (greater (latest-and (test Update kind) (is_at (pair p Update)) es i)
      (latest-and (test Exclusive kind) (is_at (pair p Exclusive)) es i))))
