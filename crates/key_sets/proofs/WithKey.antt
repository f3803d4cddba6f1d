-- A key is added: what the set has where, and how many keys it has.
use Rattle.std.proofs.Common.{◌≡◌, ℕ, ◌+◌, ◌≤◌, ◌<◌, cond, List, Option, None, Some, is_some, refl, sym, ap, subst, ◌∙◌, set, get_or, arith}
use Rattle.std.specs.FinMap.Entries.{put, is_sorted, is_sorted-put}
use Rattle.std.specs.List.{insert as place}
use Rattle.std.specs.Prelude.{T}
use Rattle.finite_map.specs.FiniteMap.{get, insert, len, get-entries, get-insert, len-insert}
use Rattle.key_sets.specs.declared.kind.Kind.{Kind}
use Rattle.key_sets.specs.declared.parts.Parts.{Parts}
use Rattle.key_sets.specs.Kinds.{raised, stronger}
use Rattle.key_sets.specs.Parts.{parts_cmp, same_parts}
use Rattle.key_sets.specs.Keys.{Keys, LIMIT, keys_from, with_key}
use Rattle.key_sets.specs.Places.{IsAt, IsGap}
use Rattle.key_sets.proofs.PartsLemmas.{parts_total}
use Rattle.key_sets.proofs.TableLemmas.{keys_from-entries, put-keys_from}
use Rattle.key_sets.proofs.PlaceLemmas.{find_at, put_at, find_gap, put_gap}

-- at the parts of the key the set has the raised kind, and elsewhere what it had
pub get-with_key : (keys : Keys) (p : Parts) (k : Kind) (q : Parts)
    → get (with_key keys p k) q ≡ cond (same_parts q p) (Some (raised (get keys p) k)) (get keys q)
unfolding with_key
get-with_key keys p k q = get-insert parts_total keys p (raised (get keys p) k) q

-- there is one more key where the parts are new
pub len-with_key : (keys : Keys) (p : Parts) (k : Kind)
    → len (with_key keys p k) ≡ cond (is_some (get keys p)) (len keys) (len keys + 1)
unfolding with_key
len-with_key keys p k = len-insert parts_total keys p (raised (get keys p) k)

by_old : (n : ℕ) (old : Option Kind) → n ≤ LIMIT → (old ≡ None → n < LIMIT) → cond (is_some old) n (n + 1) ≤ LIMIT
by_old n None most room = let below = room refl in omega arith
by_old n (Some k) most room = most

-- a set that has room for new parts stays within its limit
pub with_key-within : (keys : Keys) (p : Parts) (k : Kind) → len keys ≤ LIMIT → (get keys p ≡ None → len keys < LIMIT)
    → len (with_key keys p k) ≤ LIMIT
with_key-within keys p k most room =
    subst (λ n. n ≤ LIMIT) (sym (len-with_key keys p k)) (by_old (len keys) (get keys p) most room)

-- keys that rise and are seen as the set with one more key
pub record With (keys : Keys) (p : Parts) (k : Kind) (es : List (Parts × Kind)) : Type 0 where
  pub rising : T (is_sorted parts_cmp es)
  pub seen : keys_from es ≡ with_key keys p k

-- so are those where the raised kind is put at the parts
with_put : (keys : Keys) (p : Parts) (k v : Kind) → v ≡ raised (get keys p) k
    → With keys p k (put parts_cmp p v keys.entries)
unfolding with_key
with_put keys p k v is = record {
  rising = is_sorted-put parts_cmp parts_total p v keys.entries keys.sorted;
  seen = put-keys_from p v keys.entries
      ∙ (λ i. insert (keys_from-entries keys i) p (is i));
}

-- a key that is there is written over
pub with_set : (keys : Keys) (p : Parts) (k v : Kind) (at : ℕ) (d : Parts × Kind) → IsAt p keys.entries at
    → v ≡ stronger (get_or keys.entries at d).1 k → (es : List (Parts × Kind)) → es ≡ set keys.entries at (p, v)
    → With keys p k es
with_set keys p k v at d here is es written =
    subst (With keys p k) (put_at p v keys.entries at here ∙ sym written)
    (with_put keys p k v (is ∙ ap (λ old. raised old k) (sym (get-entries keys p ∙ find_at p keys.entries at d here))))

-- a key that is not there goes in
pub with_insert : (keys : Keys) (p : Parts) (k : Kind) (at : ℕ) → IsGap p keys.entries at
    → (es : List (Parts × Kind)) → es ≡ place keys.entries at (p, k) → With keys p k es
with_insert keys p k at gap es placed =
    subst (With keys p k) (put_gap p k keys.entries at gap ∙ sym placed)
    (with_put keys p k k (ap (λ old. raised old k) (sym (get-entries keys p ∙ find_gap p keys.entries at gap))))

-- a set that has room for the key stays within its limit
pub with-fits : (keys : Keys) (p : Parts) (k : Kind) (es : List (Parts × Kind)) → With keys p k es → len keys ≤ LIMIT
    → (get keys p ≡ None → len keys < LIMIT) → T (is_sorted parts_cmp es) × (len (keys_from es) ≤ LIMIT)
with-fits keys p k es with most room =
    (with.rising, subst (λ m. len m ≤ LIMIT) (sym with.seen) (with_key-within keys p k most room))
