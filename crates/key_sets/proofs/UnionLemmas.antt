-- Keys that are added one after another: what the set has where, and how many keys it has.
use Rattle.std.proofs.Common.{◌≡◌, ℕ, suc, ◌+◌, ◌≤◌, ◌<◌, Bool, true, false, cond, List, [], ◌∷◌, length, filter, Option, None, Some, is_some, refl, sym, ap, subst, ◌∙◌, arith}
use Rattle.std.specs.Prelude.{is_none}
use Rattle.std.specs.Map.{keys_of}
use Rattle.std.specs.FinMap.Entries.{find}
use Rattle.std.proofs.lemmas.Map.Entries.{length-keys_of}
use Rattle.finite_map.specs.FiniteMap.{get, len, get-entries, len-entries}
use Rattle.key_sets.specs.declared.kind.Kind.{Kind}
use Rattle.key_sets.specs.declared.parts.Parts.{Parts}
use Rattle.key_sets.specs.Kinds.{raised, joined}
use Rattle.key_sets.specs.Parts.{parts_cmp, same_parts}
use Rattle.key_sets.specs.Keys.{Keys, with_key, with_keys, union}
use Rattle.key_sets.proofs.PartsLemmas.{parts_equivalence, same_parts-exact}
use Rattle.key_sets.proofs.Apart.{Apart, Apart-entries}
use Rattle.key_sets.proofs.WithKey.{get-with_key, len-with_key}

pub with_keys-none : (keys : Keys) → with_keys keys [] ≡ keys
unfolding with_keys
with_keys-none keys = refl

pub with_keys-cons : (keys : Keys) (e : Parts × Kind) (es : List (Parts × Kind))
    → with_keys keys (e ∷ es) ≡ with_keys (with_key keys e.0 e.1) es
unfolding with_keys
with_keys-cons keys e es = refl

one_key_more : (keys : Keys) (e : Parts × Kind) (es : List (Parts × Kind)) (q : Parts) (b : Bool) → same_parts q e.0 ≡ b
    → find parts_cmp e.0 es ≡ None
    → joined (cond b (Some (raised (get keys e.0) e.1)) (get keys q)) (find parts_cmp q es)
    ≡ joined (get keys q) (cond b (Some e.1) (find parts_cmp q es))
one_key_more keys e es q true same none =
    let at = same_parts-exact q e.0 same in
    ap (joined (Some (raised (get keys e.0) e.1))) (ap (λ p. find parts_cmp p es) at ∙ none)
    ∙ ap (λ p. Some (raised (get keys p) e.1)) (sym at)
one_key_more keys e es q false same none = refl

-- at each parts the set has the kind that it had and the kind that is added, joined
pub get-with_keys : (keys : Keys) (es : List (Parts × Kind)) → Apart es → (q : Parts)
    → get (with_keys keys es) q ≡ joined (get keys q) (find parts_cmp q es)
unfolding with_keys
get-with_keys keys [] apart q = refl
get-with_keys keys (e ∷ es) apart q =
    get-with_keys (with_key keys e.0 e.1) es apart.1 q
    ∙ ap (λ o. joined o (find parts_cmp q es)) (get-with_key keys e.0 e.1 q)
    ∙ one_key_more keys e es q (same_parts q e.0) refl apart.0

-- the union has at each parts the kinds of both, joined
pub get-union : (a b : Keys) (q : Parts) → get (union a b) q ≡ joined (get a q) (get b q)
get-union a b q =
    get-with_keys a b.entries (Apart-entries b) q ∙ ap (joined (get a q)) (sym (get-entries b q))

-- the keys whose parts the set lacks
abbrev pub new_parts : Keys → List (Parts × Kind) → List Parts
new_parts keys es = filter (λ p. is_none (get keys p)) (keys_of es)

pub count-new_parts : (keys : Keys) (es : List (Parts × Kind))
    → length (filter (λ (e : Parts × Kind). is_none (get keys e.0)) es) ≡ length (new_parts keys es)
count-new_parts keys [] = refl
count-new_parts keys (e ∷ es) = by (is_none (get keys e.0)) (count-new_parts keys es)
  where
    lacked : List (Parts × Kind)
    lacked = filter (λ (f : Parts × Kind). is_none (get keys f.0)) es

    by : (b : Bool) → length lacked ≡ length (new_parts keys es)
        → length (cond b (e ∷ lacked) lacked) ≡ length (cond b (e.0 ∷ new_parts keys es) (new_parts keys es))
    by true same = ap suc same
    by false same = same

first_lacks : (b : Bool) (k : Kind) (o : Option Kind) → cond b (Some k) o ≡ None → (b ≡ false) × (o ≡ None)
first_lacks true k o h = cc
first_lacks false k o h = (refl, h)

-- another key that is added leaves the parts that the set lacks
new_parts-with_key : (keys : Keys) (p : Parts) (k : Kind) (es : List (Parts × Kind)) → find parts_cmp p es ≡ None
    → new_parts (with_key keys p k) es ≡ new_parts keys es
new_parts-with_key keys p k [] none = refl
new_parts-with_key keys p k (e ∷ es) none =
    let lacks = first_lacks (same_parts p e.0) e.1 (find parts_cmp p es) none in
    let here : get (with_key keys p k) e.0 ≡ get keys e.0 =
    get-with_key keys p k e.0
    ∙ ap (λ b. cond b (Some (raised (get keys p) k)) (get keys e.0)) (parts_equivalence.symm e.0 p ∙ lacks.0) in
    λ i. cond (is_none (here i)) (e.0 ∷ new_parts-with_key keys p k es lacks.1 i) (new_parts-with_key keys p k es lacks.1 i)

counted : (o : Option Kind) (p : Parts) (n m : ℕ) (ps : List Parts) → m ≡ cond (is_some o) n (n + 1) + length ps
    → m ≡ n + length (cond (is_none o) (p ∷ ps) ps)
counted None p n m ps h = omega arith
counted (Some k) p n m ps h = h

-- the set grows by the parts that it lacked
pub len-with_keys : (keys : Keys) (es : List (Parts × Kind)) → Apart es
    → len (with_keys keys es) ≡ len keys + length (new_parts keys es)
unfolding with_keys
len-with_keys keys [] apart = omega arith
len-with_keys keys (e ∷ es) apart =
    let more = with_key keys e.0 e.1 in
    counted (get keys e.0) e.0 (len keys) (len (with_keys more es)) (new_parts keys es)
    (len-with_keys more es apart.1
    ∙ (λ i. len-with_key keys e.0 e.1 i + length (new_parts-with_key keys e.0 e.1 es apart.0 i)))

fewer : (test : Parts → Bool) (ps : List Parts) → length (filter test ps) ≤ length ps
fewer test [] = omega arith
fewer test (p ∷ ps) = by (test p) (fewer test ps)
  where
    by : (b : Bool) → length (filter test ps) ≤ length ps → length (cond b (p ∷ filter test ps) (filter test ps)) ≤ suc (length ps)
    by true less = omega arith
    by false less = omega arith

-- the union has at most as many keys as both sets together
pub len-union-sum : (a b : Keys) → len (union a b) ≤ len a + len b
len-union-sum a b =
    let grown = len-with_keys a b.entries (Apart-entries b) in
    let less = fewer (λ p. is_none (get a p)) (keys_of b.entries) in
    let keys = length-keys_of b.entries in
    let size = len-entries b in
    omega arith

at_least : (o : Option Kind) (n m : ℕ) → cond (is_some o) n (n + 1) ≤ m → n ≤ m
at_least None n m h = omega arith
at_least (Some k) n m h = h

-- and it never shrinks
pub len-with_keys-le : (keys : Keys) (es : List (Parts × Kind)) → len keys ≤ len (with_keys keys es)
unfolding with_keys
len-with_keys-le keys [] = omega arith
len-with_keys-le keys (e ∷ es) =
    at_least (get keys e.0) (len keys) _
    (subst (λ n. n ≤ len (with_keys (with_key keys e.0 e.1) es)) (len-with_key keys e.0 e.1)
    (len-with_keys-le (with_key keys e.0 e.1) es))

-- a full set that lacks the first key passes its size
pub with_keys-passes : (keys : Keys) (e : Parts × Kind) (es : List (Parts × Kind)) → get keys e.0 ≡ None
    → len keys < len (with_keys keys (e ∷ es))
unfolding with_keys
with_keys-passes keys e es none =
    let more = len-with_keys-le (with_key keys e.0 e.1) es in
    let grown = len-with_key keys e.0 e.1 ∙ ap (λ o. cond (is_some o) (len keys) (len keys + 1)) none in
    omega arith
