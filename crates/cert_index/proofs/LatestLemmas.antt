-- The latest of the entries that pass a test: of two tests, of two lists, and above a number.
use Rattle.std.proofs.Common.{◌≡◌, ℕ, ◌≤◌, ◌<◌, Bool, true, false, cond, ◌||◌, ◌&&◌, List, [], ◌∷◌, ◌++◌, Option, Some, None, refl, sym, ap, ◌∙◌, arith}
use Rattle.std.specs.Prelude.{max, map, filter, nat_lt}
use Rattle.std.proofs.lemmas.Bool.{lt-ltb, le-ltb, ltb-true, ltb-false}
use Rattle.wsrep_base.specs.Trx.{greatest}
use Rattle.cert_meaning.specs.Extremes.{greater}
use Rattle.cert_meaning.proofs.ExtremeLemmas.{greater_first, greater-assoc}
use Rattle.cert_index.specs.Index.{Entry, above, latest, only_above, AreUpTo}

-- the number of an entry that passes
abbrev pub at : Bool → ℕ → Option ℕ
at b n = cond b (Some n) None

pub latest-step : (p : Entry → Bool) (e : Entry) (es : List Entry) → latest p (e ∷ es) ≡ greater (at (p e) e.number) (latest p es)
latest-step p e es = by (p e)
  where
    by : (b : Bool) → greatest (map (λ (x : Entry). x.number) (cond b (e ∷ filter p es) (filter p es)))
        ≡ greater (at b e.number) (latest p es)
    by true = greater_first e.number (latest p es)
    by false = refl

greater-comm : (a b : Option ℕ) → greater a b ≡ greater b a
greater-comm None None = refl
greater-comm None (Some b) = refl
greater-comm (Some a) None = refl
greater-comm (Some a) (Some b) = ap Some (let same : max a b ≡ max b a = omega arith in same)

greater-same : (a : Option ℕ) → greater a a ≡ a
greater-same None = refl
greater-same (Some a) = ap Some (let same : max a a ≡ a = omega arith in same)

greater-swap : (a b c d : Option ℕ) → greater (greater a b) (greater c d) ≡ greater (greater a c) (greater b d)
greater-swap a b c d =
    greater-assoc a b (greater c d)
    ∙ ap (greater a) (sym (greater-assoc b c d) ∙ ap (λ o. greater o d) (greater-comm b c) ∙ greater-assoc c b d)
    ∙ sym (greater-assoc a c (greater b d))

pub at-or : (b c : Bool) (n : ℕ) → at (b || c) n ≡ greater (at b n) (at c n)
at-or true true n = sym (greater-same (Some n))
at-or true false n = refl
at-or false c n = refl

-- of what passes one of two tests
pub latest-or : (p q : Entry → Bool) (es : List Entry) → latest (λ e. p e || q e) es ≡ greater (latest p es) (latest q es)
latest-or p q [] = refl
latest-or p q (e ∷ es) =
    latest-step (λ x. p x || q x) e es
    ∙ (λ i. greater (at-or (p e) (q e) e.number i) (latest-or p q es i))
    ∙ greater-swap (at (p e) e.number) (at (q e) e.number) (latest p es) (latest q es)
    ∙ (λ i. greater (sym (latest-step p e es) i) (sym (latest-step q e es) i))

pub latest-none : (es : List Entry) → latest (λ e. false) es ≡ None
latest-none [] = refl
latest-none (e ∷ es) = latest-none es

-- of what passes a test, where something else holds
pub latest-and : (b : Bool) (p : Entry → Bool) (es : List Entry) → latest (λ e. b && p e) es ≡ cond b (latest p es) None
latest-and true p es = refl
latest-and false p es = latest-none es

-- of two lists
pub latest-append : (p : Entry → Bool) (xs ys : List Entry) → latest p (xs ++ ys) ≡ greater (latest p xs) (latest p ys)
latest-append p [] ys = refl
latest-append p (x ∷ xs) ys =
    latest-step p x (xs ++ ys) ∙ ap (greater (at (p x) x.number)) (latest-append p xs ys)
    ∙ sym (greater-assoc (at (p x) x.number) (latest p xs) (latest p ys))
    ∙ ap (λ o. greater o (latest p ys)) (sym (latest-step p x xs))

-- a number that is not below any is the greatest
topped : (o : Option ℕ) (b : Bool) (m n : ℕ) → m ≤ n → greater o (Some n) ≡ Some n
    → greater (greater (at b m) o) (Some n) ≡ Some n
topped o false m n up is = is
topped o true m n up is =
    greater-assoc (Some m) o (Some n) ∙ ap (greater (Some m)) is
    ∙ ap Some (let top : max m n ≡ n = omega (arith, up) in top)

pub latest-topped : (p : Entry → Bool) (n : ℕ) (es : List Entry) → AreUpTo n es → greater (latest p es) (Some n) ≡ Some n
latest-topped p n [] up = refl
latest-topped p n (e ∷ es) up =
    ap (λ o. greater o (Some n)) (latest-step p e es) ∙ topped (latest p es) (p e) e.number n up.0 (latest-topped p n es up.1)

-- what is above, of a number that is above and of what there is
above_with : (to n : ℕ) (o : Option ℕ) → nat_lt to n ≡ true → only_above to (greater (Some n) o) ≡ greater (Some n) (only_above to o)
above_with to n None e = ap (λ b. cond b (Some n) None) e
above_with to n (Some m) e = by (nat_lt to m) refl
  where
    more : nat_lt to (max n m) ≡ true
    more = let less = ltb-true to n e in lt-ltb to (max n m) (let up : to < max n m = omega (arith, less) in up)

    by : (b : Bool) → nat_lt to m ≡ b → only_above to (Some (max n m)) ≡ greater (Some n) (cond b (Some m) None)
    by true f = ap (λ b. cond b (Some (max n m)) None) more
    by false f =
        ap (λ b. cond b (Some (max n m)) None) more
        ∙ ap Some (let less = ltb-true to n e in let low = ltb-false to m f in let top : max n m ≡ n = omega (arith, less, low) in top)

above_without : (to n : ℕ) (o : Option ℕ) → nat_lt to n ≡ false → only_above to (greater (Some n) o) ≡ only_above to o
above_without to n None e = ap (λ b. cond b (Some n) None) e
above_without to n (Some m) e = by (nat_lt to m) refl
  where
    low : n ≤ to
    low = ltb-false to n e

    by : (b : Bool) → nat_lt to m ≡ b → only_above to (Some (max n m)) ≡ cond b (Some m) None
    by true f =
        let less = ltb-true to m f in
        let top : max n m ≡ m = omega (arith, less, low) in
        ap (only_above to) (ap Some top) ∙ ap (λ b. cond b (Some m) None) f
    by false f =
        let under = ltb-false to m f in
        let more = le-ltb to (max n m) (let down : max n m ≤ to = omega (arith, under, low) in down) in
        ap (λ b. cond b (Some (max n m)) None) more

-- the latest of the entries above a number is the latest of all, where that is above
pub latest-above : (p : Entry → Bool) (to : ℕ) (es : List Entry) → latest p (above to es) ≡ only_above to (latest p es)
latest-above p to [] = refl
latest-above p to (e ∷ es) = by (latest-above p to es) (nat_lt to e.number) refl (p e) refl
  where
    with_e : (c : Bool) → p e ≡ c → only_above to (latest p (e ∷ es)) ≡ only_above to (greater (at c e.number) (latest p es))
    with_e c f = ap (only_above to) (latest-step p e es ∙ ap (λ b. greater (at b e.number) (latest p es)) f)

    by : latest p (above to es) ≡ only_above to (latest p es) → (b : Bool) → nat_lt to e.number ≡ b → (c : Bool) → p e ≡ c
        → latest p (cond b (e ∷ above to es) (above to es)) ≡ only_above to (latest p (e ∷ es))
    by rest true is true f =
        latest-step p e (above to es) ∙ (λ i. greater (at (f i) e.number) (rest i))
        ∙ sym (above_with to e.number (latest p es) is) ∙ sym (with_e true f)
    by rest true is false f =
        latest-step p e (above to es) ∙ (λ i. greater (at (f i) e.number) (rest i)) ∙ sym (with_e false f)
    by rest false is true f = rest ∙ sym (above_without to e.number (latest p es) is) ∙ sym (with_e true f)
    by rest false is false f = rest ∙ sym (with_e false f)

pub latest-none_of : (p : Entry → Bool) → ((e : Entry) → p e ≡ false) → (es : List Entry) → latest p es ≡ None
latest-none_of p none es = (λ i. latest (λ e. none e i) es) ∙ latest-none es
