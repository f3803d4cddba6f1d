-- The table finds the latest of the entries: once one more is entered, and once the old ones are gone.
use Rattle.std.proofs.Common.{◌≡◌, ℕ, ◌+◌, length, take, get_or, append_assoc, ◌≤◌, ◌<◌, Bool, true, false, cond, ◌||◌, ◌&&◌, List, [], ◌∷◌, ◌++◌, Option, Some, refl, sym, ap, subst, ◌∙◌, arith, le-leb}
use Rattle.std.specs.Prelude.{nat_lt, nat_le}
use Rattle.std.specs.List.{list_any}
use Rattle.std.specs.Map.{lookup}
use Rattle.std.proofs.lemmas.List.{map_more}
use Rattle.std.proofs.lemmas.Bool.{lt-ltb, le-ltb, ltb-false, lt-leb}
use Rattle.key_sets.specs.declared.kind.Kind.{Kind}
use Rattle.key_sets.specs.declared.parts.Parts.{Parts}
use Rattle.cert_meaning.specs.Extremes.{greater}
use Rattle.cert_meaning.proofs.ExtremeLemmas.{greater-none}
use Rattle.cert_index.specs.declared.pair.Pair.{Pair}
use Rattle.cert_index.specs.Index.{Entry, above, entries_of, latest, only_above, AreUpTo}
use Rattle.cert_index.specs.Pairs.{is_at, is_of, pair_eq}
use Rattle.cert_index.specs.Table.{BeginsAbove, Finds, RiseFrom}
use Rattle.cert_index.proofs.LatestLemmas.{at, latest-step, latest-append, latest-topped, latest-above}
use Rattle.cert_index.proofs.PairLemmas.{only_above-again}

abbrev pub Table : Type 0
Table = List (Pair × ℕ)

abbrev pub entry : ℕ → Parts × Kind → Entry
entry n key = record { number = n; key = key }

up_to-more : (n : ℕ) (key : Parts × Kind) (es : List Entry) → AreUpTo n es → AreUpTo n (es ++ entry n key ∷ [])
up_to-more n key [] up = (let same : n ≤ n = omega arith in same, tt)
up_to-more n key (e ∷ es) up = (up.0, up_to-more n key es up.1)

rise-more : (least n : ℕ) (key : Parts × Kind) (es : List Entry) → least ≤ n → AreUpTo n es → RiseFrom least es
    → RiseFrom least (es ++ entry n key ∷ [])
rise-more least n key [] low up rise = (low, tt)
rise-more least n key (e ∷ es) low up rise = (rise.0, rise-more e.number n key es up.0 up.1 rise.1)

put_on_top : (b : Bool) (n : ℕ) (o : Option ℕ) → greater o (Some n) ≡ Some n → greater o (at b n) ≡ cond b (Some n) o
put_on_top true n o is = is
put_on_top false n o is = greater-none o

-- one more entry, of a commit that none is above
pub entered-more : (before after : Table) (n : ℕ) (key : Parts × Kind) (es fs : List Entry) → fs ≡ es ++ entry n key ∷ []
    → AreUpTo n es → Finds before es
    → ((q : Pair) → lookup (pair_eq q) after ≡ cond (is_of q key) (Some n) (lookup (pair_eq q) before))
    → Finds after fs
entered-more before after n key es fs more up finds is = subst (Finds after) (sym more) (record {
  rise = rise-more 0 n key es (let low : 0 ≤ n = omega arith in low) up finds.rise;
  found = λ q.
      is q ∙ ap (cond (is_of q key) (Some n)) (finds.found q)
      ∙ sym (put_on_top (is_of q key) n (latest (is_at q) es) (latest-topped (is_at q) n es up))
      ∙ ap (greater (latest (is_at q) es)) (sym (latest-step (is_at q) (entry n key) [] ∙ greater-none (at (is_of q key) n)))
      ∙ sym (latest-append (is_at q) es (entry n key ∷ []));
})

pub up_to-next : (n : ℕ) (key : Parts × Kind) (es fs : List Entry) → fs ≡ es ++ entry n key ∷ [] → AreUpTo n es → AreUpTo n fs
up_to-next n key es fs more up = subst (AreUpTo n) (sym more) (up_to-more n key es up)

-- what is kept once one key more of a commit is entered
pub kept-next : (n : ℕ) (keys : List (Parts × Kind)) (i : ℕ) (d : Parts × Kind) (start before after : List Entry) → i < length keys
    → before ≡ start ++ entries_of n (take i keys) → after ≡ before ++ entry n (get_or keys i d) ∷ []
    → after ≡ start ++ entries_of n (take (i + 1) keys)
kept-next n keys i d start before after inside was is =
    is ∙ ap (λ es. es ++ entry n (get_or keys i d) ∷ []) was
    ∙ append_assoc start (entries_of n (take i keys)) (entry n (get_or keys i d) ∷ [])
    ∙ ap (λ es. start ++ es) (sym (map_more (entry n) keys i d inside))

-- whether the entry is old and has the pair
abbrev pub goes : ℕ → Pair → Entry → Bool
goes to q e = nat_le e.number to && is_at q e

-- what a look-up gives once the old ones of these entries are gone
abbrev pub left : ℕ → List Entry → Pair → Option ℕ → Option ℕ
left to es q o = cond (list_any (goes to q) es) (only_above to o) o

-- the oldest entry goes
pub left-next : (to : ℕ) (e : Entry) (es : List Entry) (q : Pair) (before after : Option ℕ) → e.number ≤ to
    → after ≡ cond (is_of q e.key) (only_above to before) before → left to es q after ≡ left to (e ∷ es) q before
left-next to e es q before after old is =
    ap (left to es q) is
    ∙ by (is_of q e.key) (list_any (goes to q) es)
    ∙ ap (λ b. cond ((b && is_of q e.key) || list_any (goes to q) es) (only_above to before) before) (sym low)
  where
    low : nat_le e.number to ≡ true
    low = le-leb e.number to old

    by : (b c : Bool) → cond c (only_above to (cond b (only_above to before) before)) (cond b (only_above to before) before)
        ≡ cond ((true && b) || c) (only_above to before) before
    by true true = only_above-again to before
    by true false = refl
    by false c = refl

pub rise-weaker : (low least : ℕ) (es : List Entry) → low ≤ least → RiseFrom least es → RiseFrom low es
rise-weaker low least [] less rise = tt
rise-weaker low least (e ∷ es) less rise = (let more = rise.0 in omega (arith, more, less), rise.1)

kept_above : (to : ℕ) (e : Entry) (es : List Entry) → to < e.number → above to (e ∷ es) ≡ e ∷ above to es
kept_above to e es less =
    let more = lt-ltb to e.number less in ap (λ b. cond b (e ∷ above to es) (above to es)) more

-- where the oldest is above, all are
all_above : (to least : ℕ) (es : List Entry) → to < least → RiseFrom least es → above to es ≡ es
all_above to least [] less rise = refl
all_above to least (e ∷ es) less rise =
    let more : to < e.number = let up = rise.0 in omega (arith, up, less) in
    kept_above to e es more ∙ ap (λ xs. e ∷ xs) (all_above to e.number es more rise.1)

pub above-all : (to least : ℕ) (es : List Entry) → BeginsAbove to es → RiseFrom least es → above to es ≡ es
above-all to least [] begins rise = refl
above-all to least (e ∷ es) begins rise = kept_above to e es begins ∙ ap (λ xs. e ∷ xs) (all_above to e.number es begins rise.1)

none_goes : (to least : ℕ) (q : Pair) (es : List Entry) → to < least → RiseFrom least es → list_any (goes to q) es ≡ false
none_goes to least q [] less rise = refl
none_goes to least q (e ∷ es) less rise =
    let more : to < e.number = let up = rise.0 in omega (arith, up, less) in
    let high = lt-leb e.number to more in
    ap (λ b. (b && is_at q e) || list_any (goes to q) es) high ∙ none_goes to e.number q es more rise.1

pub left-all : (to least : ℕ) (q : Pair) (es : List Entry) (o : Option ℕ) → BeginsAbove to es → RiseFrom least es → left to es q o ≡ o
left-all to least q [] o begins rise = refl
left-all to least q (e ∷ es) o begins rise =
    let high = lt-leb e.number to begins in
    let none : list_any (goes to q) (e ∷ es) ≡ false =
    ap (λ b. (b && is_at q e) || list_any (goes to q) es) high ∙ none_goes to e.number q es begins rise.1 in
    ap (λ b. cond b (only_above to o) o) none

-- where no entry that goes has the pair, the latest is above
latest_stays : (to : ℕ) (q : Pair) (es : List Entry) → list_any (goes to q) es ≡ false
    → latest (is_at q) (above to es) ≡ latest (is_at q) es
latest_stays to q [] none = refl
latest_stays to q (e ∷ es) none = by (latest_stays to q es two.1) (nat_lt to e.number) refl (is_at q e) refl
  where
    split : (b c : Bool) → b || c ≡ false → (b ≡ false) × (c ≡ false)
    split true c h = cc
    split false c h = (refl, h)

    two : (goes to q e ≡ false) × (list_any (goes to q) es ≡ false)
    two = split (goes to q e) (list_any (goes to q) es) none

    by : latest (is_at q) (above to es) ≡ latest (is_at q) es → (b : Bool) → nat_lt to e.number ≡ b → (c : Bool) → is_at q e ≡ c
        → latest (is_at q) (cond b (e ∷ above to es) (above to es)) ≡ latest (is_at q) (e ∷ es)
    by rest true high c f =
        latest-step (is_at q) e (above to es) ∙ ap (greater (at (is_at q e) e.number)) rest ∙ sym (latest-step (is_at q) e es)
    by rest false low true f =
        let old = le-leb e.number to (ltb-false to e.number low) in
        let gone : goes to q e ≡ true = λ i. old i && f i in let stays = two.0 in cc
    by rest false low false f = rest ∙ sym (latest-step (is_at q) e es ∙ ap (λ b. greater (at b e.number) (latest (is_at q) es)) f)

pub left-latest : (to : ℕ) (q : Pair) (es : List Entry) → left to es q (latest (is_at q) es) ≡ latest (is_at q) (above to es)
left-latest to q es = by (list_any (goes to q) es) refl
  where
    by : (b : Bool) → list_any (goes to q) es ≡ b
        → cond b (only_above to (latest (is_at q) es)) (latest (is_at q) es) ≡ latest (is_at q) (above to es)
    by true is = sym (latest-above (is_at q) to es)
    by false is = sym (latest_stays to q es is)

-- a table that answers alike finds the same
pub finds-same : (before after : Table) (es fs : List Entry) → fs ≡ es → Finds before es
    → ((q : Pair) → lookup (pair_eq q) after ≡ lookup (pair_eq q) before) → Finds after fs
finds-same before after es fs same finds is =
    subst (Finds after) (sym same) (record { rise = finds.rise; found = λ q. is q ∙ finds.found q })

pub above-next : (to : ℕ) (e : Entry) (es : List Entry) → e.number ≤ to → above to (e ∷ es) ≡ above to es
above-next to e es old = ap (λ b. cond b (e ∷ above to es) (above to es)) (le-ltb to e.number old)
