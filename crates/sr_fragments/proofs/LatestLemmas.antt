-- The latest of the fragments that pass a test: of two tests, and of two lists.
use Rattle.std.proofs.Common.{◌≡◌, ℕ, Bool, true, false, cond, ◌||◌, ◌&&◌, List, [], ◌∷◌, ◌++◌, Option, Some, None, refl, sym, ap, ◌∙◌, arith}
use Rattle.std.specs.Prelude.{max, map, filter}
use Rattle.wsrep_base.specs.Trx.{greatest}
use Rattle.cert_meaning.specs.Extremes.{greater}
use Rattle.cert_meaning.proofs.ExtremeLemmas.{greater_first, greater-assoc}
use Rattle.cert_meaning.specs.declared.items.Fragment.{Fragment}
use Rattle.sr_fragments.specs.OpenSet.{latest}

-- the number of an entry that passes
abbrev pub at : Bool → ℕ → Option ℕ
at b n = cond b (Some n) None

pub latest-step : (p : Fragment → Bool) (e : Fragment) (es : List Fragment)
    → latest p (e ∷ es) ≡ greater (at (p e) e.number) (latest p es)
latest-step p e es = by (p e)
  where
    by : (b : Bool) → greatest
        (map (λ (x : Fragment). x.number) (cond b (e ∷ filter p es) (filter p es)))
        ≡ greater (at b e.number) (latest p es)
    by true = greater_first e.number (latest p es)
    by false = refl

pub greater-comm : (a b : Option ℕ) → greater a b ≡ greater b a
greater-comm None None = refl
greater-comm None (Some b) = refl
greater-comm (Some a) None = refl
greater-comm (Some a) (Some b) = ap Some (let same : max a b ≡ max b a = omega arith in same)

pub greater-same : (a : Option ℕ) → greater a a ≡ a
greater-same None = refl
greater-same (Some a) = ap Some (let same : max a a ≡ a = omega arith in same)

greater-swap : (a b c d : Option ℕ)
    → greater (greater a b) (greater c d) ≡ greater (greater a c) (greater b d)
greater-swap a b c d =
    greater-assoc a b (greater c d)
    ∙ ap (greater a) (sym (greater-assoc b c d) ∙ ap (λ o. greater o d) (greater-comm b c)
    ∙ greater-assoc c b d)
    ∙ sym (greater-assoc a c (greater b d))

pub at-or : (b c : Bool) (n : ℕ) → at (b || c) n ≡ greater (at b n) (at c n)
at-or true true n = sym (greater-same (Some n))
at-or true false n = refl
at-or false c n = refl

-- of what passes one of two tests
pub latest-or : (p q : Fragment → Bool) (es : List Fragment)
    → latest (λ e. p e || q e) es ≡ greater (latest p es) (latest q es)
latest-or p q [] = refl
latest-or p q (e ∷ es) =
    latest-step (λ x. p x || q x) e es
    ∙ (λ i. greater (at-or (p e) (q e) e.number i) (latest-or p q es i))
    ∙ greater-swap (at (p e) e.number) (at (q e) e.number) (latest p es) (latest q es)
    ∙ (λ i. greater (sym (latest-step p e es) i) (sym (latest-step q e es) i))

pub latest-none : (es : List Fragment) → latest (λ e. false) es ≡ None
latest-none [] = refl
latest-none (e ∷ es) = latest-none es

-- of what passes a test, where something else holds
pub latest-and : (b : Bool) (p : Fragment → Bool) (es : List Fragment)
    → latest (λ e. b && p e) es ≡ cond b (latest p es) None
latest-and true p es = refl
latest-and false p es = latest-none es

-- of two lists
pub latest-append : (p : Fragment → Bool) (xs ys : List Fragment)
    → latest p (xs ++ ys) ≡ greater (latest p xs) (latest p ys)
latest-append p [] ys = refl
latest-append p (x ∷ xs) ys =
    latest-step p x (xs ++ ys) ∙ ap (greater (at (p x) x.number)) (latest-append p xs ys)
    ∙ sym (greater-assoc (at (p x) x.number) (latest p xs) (latest p ys))
    ∙ ap (λ o. greater o (latest p ys)) (sym (latest-step p x xs))

pub latest-none_of : (p : Fragment → Bool) → ((e : Fragment) → p e ≡ false) → (es : List Fragment)
    → latest p es ≡ None
latest-none_of p none es = (λ i. latest (λ e. none e i) es) ∙ latest-none es
