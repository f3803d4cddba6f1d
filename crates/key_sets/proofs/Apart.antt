-- Lists of keys where no parts stand twice: a key is a member where a look-up finds it.
use Rattle.std.proofs.Common.{◌≡◌, Bool, true, false, ◌&&◌, cond, inl, inr, List, [], ◌∷◌, None, Some, refl, sym, ap, ◌∙◌}
use Rattle.std.specs.Prelude.{T}
use Rattle.std.specs.Ordering.{is_lt, is_eq}
use Rattle.std.specs.declared.cmp.Ordering.{Ordering}
use Rattle.std.specs.declared.cmp.Ordering.TheVariants.{Less, Equal, Greater}
use Rattle.std.specs.FinMap.Entries.{find, is_sorted, below_all}
use Rattle.finite_map.specs.FiniteMap.{get, get-entries}
use Rattle.key_sets.specs.declared.kind.Kind.{Kind}
use Rattle.key_sets.specs.declared.parts.Parts.{Parts}
use Rattle.key_sets.specs.Parts.{parts_cmp, same_parts}
use Rattle.key_sets.specs.Keys.{Keys}
use Rattle.key_sets.proofs.ListLemmas.{In}
use Rattle.key_sets.proofs.PartsLemmas.{same_parts-exact, same_parts-itself}

-- no parts stand twice
abbrev pub Apart : List (Parts × Kind) → Type 0
Apart [] = Unit {0}
Apart (e ∷ es) = (find parts_cmp e.0 es ≡ None) × Apart es

both_true : (a b : Bool) → T (a && b) → T a × T b
both_true true b h = (tt, h)
both_true false b h = absurd h

below_not_same : (o : Ordering) → T (is_lt o) → is_eq o ≡ false
below_not_same Less h = refl
below_not_same Equal h = absurd h
below_not_same Greater h = absurd h

find_below : (p : Parts) (es : List (Parts × Kind)) → T (below_all parts_cmp p es) → find parts_cmp p es ≡ None
find_below p [] h = refl
find_below p (e ∷ es) h =
    let less = both_true _ _ h in
    ap (λ b. cond b (Some e.1) (find parts_cmp p es)) (below_not_same (parts_cmp p e.0) less.0) ∙ find_below p es less.1

-- as of the set's keys
pub Apart-from_sorted : (es : List (Parts × Kind)) → T (is_sorted parts_cmp es) → Apart es
Apart-from_sorted [] h = tt
Apart-from_sorted (e ∷ es) h =
    let rising = both_true _ _ h in (find_below e.0 es rising.0, Apart-from_sorted es rising.1)

pub Apart-entries : (keys : Keys) → Apart keys.entries
Apart-entries keys = Apart-from_sorted keys.entries keys.sorted

same_pair : {p q : Parts} {k l : Kind} → p ≡ q → k ≡ l → ◌≡◌ {A = Parts × Kind} (p, k) (q, l)
same_pair parts kinds = λ i. (parts i, kinds i)

found_here : (q : Parts) (k : Kind) (e : Parts × Kind) (es : List (Parts × Kind)) (b : Bool) → same_parts q e.0 ≡ b
    → cond b (Some e.1) (find parts_cmp q es) ≡ Some k → (find parts_cmp q es ≡ Some k → In (q, k) es)
    → In (q, k) (e ∷ es)
found_here q k e es true same h later = inl (same_pair (same_parts-exact q e.0 same) (cc))
found_here q k e es false same h later = inr (later h)

-- a key that is found is a member
pub in_from_find : (q : Parts) (k : Kind) (es : List (Parts × Kind)) → find parts_cmp q es ≡ Some k → In (q, k) es
in_from_find q k [] h = cc
in_from_find q k (e ∷ es) h = found_here q k e es (same_parts q e.0) refl h (in_from_find q k es)

not_here : (q : Parts) (k : Kind) (e : Parts × Kind) (es : List (Parts × Kind)) (b : Bool) → same_parts q e.0 ≡ b
    → find parts_cmp e.0 es ≡ None → find parts_cmp q es ≡ Some k → cond b (Some e.1) (find parts_cmp q es) ≡ Some k
not_here q k e es true same none h =
    let here = ap (λ p. find parts_cmp p es) (same_parts-exact q e.0 same) in cc
not_here q k e es false same none h = h

-- and a member is found
pub find_from_in : (q : Parts) (k : Kind) (es : List (Parts × Kind)) → Apart es → In (q, k) es
    → find parts_cmp q es ≡ Some k
find_from_in q k [] apart i = absurd i
find_from_in q k (e ∷ es) apart (inl same) =
    ap (λ b. cond b (Some e.1) (find parts_cmp q es)) (ap (λ (p : Parts × Kind). same_parts q p.0) (sym same) ∙ same_parts-itself q)
    ∙ ap (λ (p : Parts × Kind). Some p.1) (sym same)
find_from_in q k (e ∷ es) apart (inr later) =
    not_here q k e es (same_parts q e.0) refl apart.0 (find_from_in q k es apart.1 later)

-- the keys of a set are its members
pub get_from_in : (keys : Keys) (q : Parts) (k : Kind) → In (q, k) keys.entries → get keys q ≡ Some k
get_from_in keys q k i = get-entries keys q ∙ find_from_in q k keys.entries (Apart-entries keys) i

pub in_from_get : (keys : Keys) (q : Parts) (k : Kind) → get keys q ≡ Some k → In (q, k) keys.entries
in_from_get keys q k h = in_from_find q k keys.entries (sym (get-entries keys q) ∙ h)
