-- Keys in order are the entries of their set, and the keys of a set are read again.
use Rattle.std.proofs.Common.{◌≡◌, ℕ, ◌+◌, ◌^◌, ◌≤◌, Bool, true, false, cond, List, [], ◌∷◌, ◌++◌, length, Option, Some, None, Ok, Err, refl, sym, ap, subst, ◌∙◌, append_assoc, arith}
use Rattle.std.specs.Prelude.{nat_le, T}
use Rattle.std.specs.Int.{w32, to_be_bytes}
use Rattle.std.specs.List.{flat_map}
use Rattle.std.specs.Ordering.{is_lt, is_eq, ordering_reverse}
use Rattle.std.specs.declared.cmp.Ordering.{Ordering}
use Rattle.std.specs.declared.cmp.Ordering.TheVariants.{Less, Equal, Greater}
use Rattle.std.specs.FinMap.Entries.{put, find, is_sorted, below_all, by_order}
use Rattle.std.proofs.lemmas.Bool.{ltb-false, le-leb, leb-true}
use Rattle.std.proofs.lemmas.List.{append-nil}
use Rattle.finite_map.specs.FiniteMap.{empty, get, insert, len, entries-insert, same_entries_map}
use Rattle.key_sets.specs.declared.kind.Kind.{Kind}
use Rattle.key_sets.specs.declared.parts.Parts.{Parts}
use Rattle.key_sets.specs.Kinds.{raised}
use Rattle.key_sets.specs.Parts.{parts_cmp}
use Rattle.key_sets.specs.Keys.{Keys, LIMIT, with_key, with_keys}
use Rattle.key_sets.proofs.PartsLemmas.{parts_total}
use Rattle.write_set.specs.declared.fault.WsFault.TheVariants.{Short}
use Rattle.write_set.specs.Rules.{keys_fit}
use Rattle.write_set.specs.Spelling.{key_text, keys_text}
use Rattle.write_set.specs.Place.{Place}
use Rattle.write_set.specs.Reading.{Read, some_keys_at, with_read, keys_at}
use Rattle.write_set.proofs.RulesOf.{both, and}
use Rattle.write_set.proofs.Bounds.{above}
use Rattle.wsrep_base.proofs.Fields.{IsBytes, read_ok, passed, ok_is, place, Took, took_then, number_takes, number_again, wide32}
use Rattle.write_set.proofs.KeyLaws.{Rises, all_fit, AllInRange, some_keys_take, some_keys_again}

abbrev Key : Type 0
Key = Parts × Kind

less_is : (r : Ordering) → is_lt r ≡ true → r ≡ Less
less_is Less e = refl
less_is Equal e = absurd cc
less_is Greater e = absurd cc

lower : (x y z : Parts) → is_lt (parts_cmp x y) ≡ true → is_lt (parts_cmp y z) ≡ true → is_lt (parts_cmp x z) ≡ true
lower x y z one two = ap is_lt (parts_total.trans x y z (less_is (parts_cmp x y) one) (less_is (parts_cmp y z) two))

-- ---- each key above the one before it: all keys in order

rises_lower : (x y : Parts) (es : List Key) → is_lt (parts_cmp x y) ≡ true → Rises (Some y) es → Rises (Some x) es
rises_lower x y [] below rises = tt
rises_lower x y (e ∷ es) below rises = (lower x y e.0 below rises.0, rises.1)

below_from : (x : Parts) (es : List Key) → Rises (Some x) es → below_all parts_cmp x es ≡ true
below_from x [] rises = refl
below_from x (e ∷ es) rises =
    and (is_lt (parts_cmp x e.0)) (below_all parts_cmp x es) rises.0 (below_from x es (rises_lower x e.0 es rises.0 rises.1))

pub sorted_from : (before : Option Parts) (es : List Key) → Rises before es → is_sorted parts_cmp es ≡ true
sorted_from before [] rises = refl
sorted_from before (e ∷ es) rises =
    and (below_all parts_cmp e.0 es) (is_sorted parts_cmp es) (below_from e.0 es rises.1) (sorted_from (Some e.0) es rises.1)

rises_above : (x : Parts) (es : List Key) → below_all parts_cmp x es ≡ true → is_sorted parts_cmp es ≡ true → Rises (Some x) es
rises_above x [] below sorted = tt
rises_above x (e ∷ es) below sorted =
    let h = both (is_lt (parts_cmp x e.0)) (below_all parts_cmp x es) below in
    let s = both (below_all parts_cmp e.0 es) (is_sorted parts_cmp es) sorted in
    (h.0, rises_above e.0 es s.0 s.1)

rises_all : (es : List Key) → is_sorted parts_cmp es ≡ true → Rises None es
rises_all [] sorted = tt
rises_all (e ∷ es) sorted =
    let s = both (below_all parts_cmp e.0 es) (is_sorted parts_cmp es) sorted in (refl, rises_above e.0 es s.0 s.1)

-- ---- a key above all others is put behind them

abbrev IsLast : List Key → Parts → Type 0
IsLast [] k = Unit {0}
IsLast (e ∷ es) k = (is_lt (parts_cmp e.0 k) ≡ true) × IsLast es k

below_middle : (x : Parts) (es : List Key) (e : Key) (others : List Key) → below_all parts_cmp x (es ++ e ∷ others) ≡ true → is_lt (parts_cmp x e.0) ≡ true
below_middle x [] e others h = (both (is_lt (parts_cmp x e.0)) (below_all parts_cmp x others) h).0
below_middle x (y ∷ es) e others h =
    below_middle x es e others (both (is_lt (parts_cmp x y.0)) (below_all parts_cmp x (es ++ e ∷ others)) h).1

is_last : (es : List Key) (e : Key) (others : List Key) → is_sorted parts_cmp (es ++ e ∷ others) ≡ true → IsLast es e.0
is_last [] e others h = tt
is_last (x ∷ es) e others h =
    let s = both (below_all parts_cmp x.0 (es ++ e ∷ others)) (is_sorted parts_cmp (es ++ e ∷ others)) h in
    (below_middle x.0 es e others s.0, is_last es e others s.1)

greater : (k x : Parts) → is_lt (parts_cmp x k) ≡ true → parts_cmp k x ≡ Greater
greater k x below = parts_total.antisymm k x ∙ ap ordering_reverse (less_is (parts_cmp x k) below)

put_last : (es : List Key) (k : Parts) (v : Kind) → IsLast es k → put parts_cmp k v es ≡ es ++ (k, v) ∷ []
put_last [] k v last = refl
put_last (e ∷ es) k v last =
    ap (λ r. by_order r ((k, v) ∷ e ∷ es) ((e.0, v) ∷ es) (e ∷ put parts_cmp k v es)) (greater k e.0 last.0)
    ∙ ap (λ others. e ∷ others) (put_last es k v last.1)

find_last : (es : List Key) (k : Parts) → IsLast es k → find parts_cmp k es ≡ None
find_last [] k last = refl
find_last (e ∷ es) k last =
    ap (λ r. cond (is_eq r) (Some e.1) (find parts_cmp k es)) (greater k e.0 last.0) ∙ find_last es k last.1

key_last : (keys : Keys) (e : Key) → IsLast keys.entries e.0 → (with_key keys e.0 e.1).entries ≡ keys.entries ++ e ∷ []
unfolding with_key get
key_last keys e last =
    ap (λ old. (insert keys e.0 (raised old e.1)).entries) (find_last keys.entries e.0 last)
    ∙ entries-insert parts_total keys e.0 e.1 ∙ put_last keys.entries e.0 e.1 last

keys_last : (es : List Key) (keys : Keys) → is_sorted parts_cmp (keys.entries ++ es) ≡ true → (with_keys keys es).entries ≡ keys.entries ++ es
unfolding with_keys
keys_last [] keys sorted = sym (append-nil keys.entries)
keys_last (e ∷ es) keys sorted =
    let one = key_last keys e (is_last keys.entries e es sorted) in
    let more : (with_key keys e.0 e.1).entries ++ es ≡ keys.entries ++ e ∷ es = ap (λ es'. es' ++ es) one ∙ append_assoc keys.entries (e ∷ []) es in
    keys_last es (with_key keys e.0 e.1) (ap (is_sorted parts_cmp) more ∙ sorted) ∙ more

-- the set of keys in order has these entries
pub set_entries : (es : List Key) → is_sorted parts_cmp es ≡ true → (with_keys empty es).entries ≡ es
unfolding empty
set_entries es sorted = keys_last es empty sorted

is_true : (b : Bool) → T b → b ≡ true
is_true true h = refl
is_true false h = absurd h

entries_sorted : (keys : Keys) → is_sorted parts_cmp keys.entries ≡ true
entries_sorted keys = is_true (is_sorted parts_cmp keys.entries) keys.sorted

-- a set is that of its entries
pub set_again : (keys : Keys) → with_keys empty keys.entries ≡ keys
set_again keys = same_entries_map (with_keys empty keys.entries) keys (set_entries keys.entries (entries_sorted keys))

-- ---- all keys

read_all : (keys : Keys) (read : Read (List Key)) (x : Keys × Place) → with_read keys read ≡ Ok x
    → (y : List Key × Place) × (read ≡ Ok y) × ((with_keys keys y.0, y.1) ≡ x)
read_all keys (Ok y) x e = (y, refl, ok_is (with_keys keys y.0, y.1) x e)
read_all keys (Err fault) x e = absurd cc

abbrev pub TakesAllKeys : Place → Keys × Place → Type 0
TakesAllKeys p x = Took p (keys_text x.0) x.1 × (nat_le (len x.0) LIMIT ≡ true) × (keys_fit x.0 ≡ true) × AllInRange x.0.entries

pub keys_take : (p : Place) (x : Keys × Place) → IsBytes p.left → keys_at p ≡ Ok x → TakesAllKeys p x
unfolding keys_at len
keys_take p x fits e =
    let a = read_ok ℕ _ _ x e in
    let b = passed _ _ _ x a.2 in
    let c = read_all empty (some_keys_at a.0.0 None a.0.1) x b.1 in
    let es = c.0.0 in
    let t = number_takes Short w32 (2 ^ 32) wide32 p a.0 fits a.1 in
    let k = some_keys_take a.0.0 None a.0.1 c.0 t.0.fits c.1 in
    let few : a.0.0 ≤ LIMIT = ltb-false LIMIT a.0.0 b.0 in
    let set = with_keys empty es in
    let entries : set.entries ≡ es = set_entries es (sorted_from None es k.4) in
    let back : es ≡ set.entries = sym entries in
    let text : to_be_bytes w32 a.0.0 ++ flat_map key_text es ≡ keys_text set =
    ap (λ n. to_be_bytes w32 n ++ flat_map key_text es) (sym k.1) ∙ ap (λ es'. to_be_bytes w32 (length es') ++ flat_map key_text es') back in
    let taken : Took p (keys_text set) c.0.1 =
    subst (λ text. Took p text c.0.1) text (took_then p (to_be_bytes w32 a.0.0) a.0.1 (flat_map key_text es) c.0.1 t.0 k.0) in
    subst (TakesAllKeys p) c.2
    (taken, ap (λ es'. nat_le (length es') LIMIT) entries ∙ le-leb (length es) LIMIT (rw k.1 few), ap all_fit entries ∙ k.2, subst AllInRange back k.3)

pub keys_again : (keys : Keys) (rest : List ℕ) (at : ℕ) → nat_le (len keys) LIMIT ≡ true → keys_fit keys ≡ true → AllInRange keys.entries
    → (q : ℕ) × (keys_at (place (keys_text keys ++ rest) at) ≡ Ok (keys, place rest q))
unfolding keys_at len
keys_again keys rest at few fit range =
    let n = length keys.entries in
    let most : n ≤ 4096 = leb-true n 4096 few in
    let others = flat_map key_text keys.entries in
    let k = some_keys_again keys.entries None rest (at + 4) fit range (rises_all keys.entries (entries_sorted keys)) in
    let is : keys_at (place (to_be_bytes w32 n ++ (others ++ rest)) at) ≡ Ok (with_keys empty keys.entries, place rest k.0) =
    rw (number_again Short w32 (2 ^ 32) wide32 n (others ++ rest) at (omega arith), above LIMIT n most, k.1) refl in
    (k.0, ap (λ text. keys_at (place text at)) (append_assoc (to_be_bytes w32 n) others rest) ∙ is ∙ ap (λ set. Ok (set, place rest k.0)) (set_again keys))
