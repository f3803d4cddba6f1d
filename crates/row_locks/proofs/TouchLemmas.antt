-- Whether one key touches a key set, by look-ups of the key and of its table.
use Rattle.std.proofs.Common.{◌≡◌, ℕ, Bool, true, false, ◌&&◌, ◌||◌, cond, List, [], ◌∷◌, None, Some, refl, sym, ap, ◌∙◌, append-nil, arith}
use Rattle.std.specs.Prelude.{is_some, flat_map}
use Rattle.std.specs.List.{list_any}
use Rattle.std.proofs.lemmas.List.Folds.{list_any-append}
use Rattle.finite_map.specs.FiniteMap.{empty, get, entries-insert}
use Rattle.key_sets.specs.declared.kind.Kind.{Kind}
use Rattle.key_sets.specs.declared.kind.Kind.TheVariants.{Shared}
use Rattle.key_sets.specs.declared.parts.Parts.{Parts}
use Rattle.key_sets.specs.Kinds.{kinds_touch}
use Rattle.key_sets.specs.Parts.{same_parts, table_of}
use Rattle.key_sets.specs.Keys.{Keys, meet, touches, one_key, pairs_of, pairs_of_key, pairs_meet}
use Rattle.key_sets.specs.Probes.{passes, table_meets, tables_meet}
use Rattle.key_sets.proofs.KindLaws.{kinds_touch-symm}
use Rattle.key_sets.proofs.PartsLemmas.{parts_total, same_parts-exact}
use Rattle.key_sets.proofs.ProbeLemmas.{keys_met, tables_met, last_probe}
use Rattle.key_sets.proofs.UnionLaws.{get-one_key}
use Rattle.row_locks.specs.LockTable.{has_row_of}

entries-one_key : (p : Parts) (k : Kind) → (one_key p k).entries ≡ (p, k) ∷ []
unfolding empty
entries-one_key p k = entries-insert parts_total empty p k

-- the three look-ups together are the comparison of all pairs
probed : (all keys rows below : Bool) → (keys ≡ true → all ≡ true) → (rows ≡ true → all ≡ true)
    → (keys ≡ false → rows ≡ false → below ≡ all) → all ≡ keys || (rows || below)
probed all keys rows below one other last = grind arith

row_passes : (t : Kind → Bool) (a c : Bool) (k : Kind)
    → a && passes t (cond c (Some k) None) ≡ t k && (a && c)
row_passes t a c k = grind arith

any_and : {X : Type 0} (t : Bool) (f : X → Bool) (xs : List X)
    → list_any (λ x. t && f x) xs ≡ t && list_any f xs
any_and t f [] = grind arith
any_and t f (x ∷ xs) = let more = any_and t f xs in grind (arith, more)

-- rows of the set below the key of a table
rows-below : (b : Keys) (p : Parts) (k : Kind)
    → tables_meet kinds_touch b (one_key p k) ≡ kinds_touch Shared k && has_row_of b p
rows-below b p k =
    let row : Parts × Kind → Bool = λ e. is_some e.0.row in
    (λ i. list_any (λ e.
    (ap (λ o. row e && passes (kinds_touch Shared) o) (get-one_key p k (table_of e.0))
    ∙ row_passes (kinds_touch Shared) (row e) (same_parts (table_of e.0) p) k) i) b.entries)
    ∙ any_and (kinds_touch Shared k) (λ e. row e && same_parts (table_of e.0) p) b.entries

pub touches-one : (b : Keys) (p : Parts) (k : Kind)
    → touches (one_key p k) b
    ≡ passes (kinds_touch k) (get b p)
    || ((is_some p.row && passes (kinds_touch Shared) (get b (table_of p)))
    || (kinds_touch Shared k && has_row_of b p))
touches-one b p k =
    let all = probed _ _ _ _ (keys_met kinds_touch (one_key p k) b)
    (tables_met kinds_touch (one_key p k) b)
    (last_probe kinds_touch kinds_touch-symm refl (one_key p k) b) in
    let keys = ap (list_any (λ (e : Parts × Kind). passes (kinds_touch e.1) (get b e.0)))
    (entries-one_key p k) in
    let rows = ap (list_any (λ (e : Parts × Kind). table_meets kinds_touch b e.0))
    (entries-one_key p k) in
    grind (arith, all, keys, rows, rows-below b p k)

no_row_of : (p : Parts) (name : List ℕ) → p.row ≡ Some name → (es : List (Parts × Kind))
    → list_any (λ e. is_some e.0.row && same_parts (table_of e.0) p) es ≡ false
no_row_of p name is [] = refl
no_row_of p name is (e ∷ es) =
    let more = no_row_of p name is es in let same = same_parts-exact (table_of e.0) p in
    grind (arith, more, same)

-- the key of a row: it is looked up, and its table
pub touches-row : (b : Keys) (p : Parts) (k : Kind) (name : List ℕ) → p.row ≡ Some name
    → touches (one_key p k) b
    ≡ passes (kinds_touch k) (get b p) || passes (kinds_touch Shared) (get b (table_of p))
touches-row b p k name is =
    let all = touches-one b p k in let none = no_row_of p name is b.entries in
    grind (arith, all, none)

-- the key of a table: it is looked up, and rows of the table
pub touches-table : (b : Keys) (p : Parts) (k : Kind) → p.row ≡ None
    → touches (one_key p k) b
    ≡ passes (kinds_touch k) (get b p) || (kinds_touch Shared k && has_row_of b p)
touches-table b p k is = let all = touches-one b p k in grind (arith, all)

any_flat : {X Y : Type 0} (f : Y → Bool) (g : X → List Y) (xs : List X)
    → list_any f (flat_map g xs) ≡ list_any (λ x. list_any f (g x)) xs
any_flat f g [] = refl
any_flat f g (x ∷ xs) =
    list_any-append f (g x) (flat_map g xs) ∙ ap (λ b. list_any f (g x) || b) (any_flat f g xs)

-- a set touches what one of its keys touches
pub touches-any : (a b : Keys)
    → touches a b ≡ list_any (λ e. touches (one_key e.0 e.1) b) a.entries
unfolding meet pairs_of
touches-any a b =
    let one : Parts × Kind → Bool = λ p. list_any (pairs_meet kinds_touch p) (pairs_of b) in
    any_flat one pairs_of_key a.entries
    ∙ (λ i. list_any (λ (e : Parts × Kind).
    sym (ap (λ es. list_any one (flat_map pairs_of_key es)) (entries-one_key e.0 e.1)
    ∙ ap (list_any one) (append-nil (pairs_of_key e))) i) a.entries)

-- after a look-up of the key itself
pub touches-here : (b : Keys) (p : Parts) (k : Kind) → passes (kinds_touch k) (get b p) ≡ true
    → touches (one_key p k) b ≡ true
touches-here b p k here = let all = touches-one b p k in grind (arith, all)

pub touches-above : (b : Keys) (p : Parts) (k : Kind) (name : List ℕ) → p.row ≡ Some name
    → passes (kinds_touch k) (get b p) ≡ false
    → touches (one_key p k) b ≡ passes (kinds_touch Shared) (get b (table_of p))
touches-above b p k name is here = let all = touches-row b p k name is in grind (arith, all)

pub touches-below : (b : Keys) (p : Parts) (k : Kind) → p.row ≡ None
    → passes (kinds_touch k) (get b p) ≡ false
    → touches (one_key p k) b ≡ kinds_touch Shared k && has_row_of b p
touches-below b p k is here = let all = touches-table b p k is in grind (arith, all)
