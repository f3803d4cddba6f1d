-- Who is in the way of a key, from those with a key at its parts, at its table and at its rows.
use Rattle.std.proofs.Common.{◌≡◌, ℕ, ◌+◌, ◌<◌, Bool, true, false, ◌&&◌, ◌||◌, not, cond, List, [], ◌∷◌, inl, inr, Option, None, Some, refl, sym, ap, subst, ◌∙◌, arith}
use Rattle.std.specs.Prelude.{T, is_some, ◌⊎◌}
use Rattle.std.proofs.lemmas.Bool.{and_right, cases_eq}
use Rattle.std.specs.Option.{unwrap_or}
use Rattle.std.specs.List.{list_any}
use Rattle.std.specs.Map.{lookup}
use Rattle.std.specs.FinMap.Entries.{find}
use Rattle.finite_map.specs.FiniteMap.{empty, get, keys, get-empty, get-entries}
use Rattle.key_sets.specs.declared.kind.Kind.{Kind}
use Rattle.key_sets.specs.declared.kind.Kind.TheVariants.{Shared}
use Rattle.key_sets.specs.declared.parts.Parts.{Parts}
use Rattle.key_sets.specs.Kinds.{kinds_touch}
use Rattle.key_sets.specs.Parts.{parts_cmp, table_of}
use Rattle.key_sets.specs.Probes.{passes}
use Rattle.key_sets.specs.Keys.{Keys}
use Rattle.row_locks.specs.declared.holder.Holder.{Holder}
use Rattle.row_locks.specs.declared.holder_index.HolderIndex.{HolderIndex}
use Rattle.row_locks.specs.declared.lock_table.LockKey.{LockKey}
use Rattle.row_locks.specs.declared.lock_table.Lock.{Lock}
use Rattle.row_locks.specs.HolderIndex.{count, holder_in, number_of}
use Rattle.row_locks.specs.Holders.{holder_cmp, same_holder}
use Rattle.row_locks.specs.LockKeys.{holder_eq, lock_eq, key_of}
use Rattle.row_locks.specs.Locks.{Locks, blocker, first_where, is_blocked_by, keys_at}
use Rattle.row_locks.specs.LockTable.{Entries, IsIndexOf, blocker_at, has_row_in_way, has_row_of, is_in_way_at, lesser, locks_in, row_blocker, row_in_way, where_passes}
use Rattle.row_locks.proofs.HolderLemmas.{holder_eq-exact, holder_eq-itself, holder_equivalence, holder_ties}
use Rattle.row_locks.proofs.LeastLemmas.{at_most, passes_if_there, lesser-left, lesser-right, own_least, first-is, first-either}
use Rattle.row_locks.proofs.TableLemmas.{get-locks_in, is_row_at, kind_in, rows_in_table}
use Rattle.row_locks.proofs.TouchLemmas.{touches-row, touches-table}

from_T : (b : Bool) → T b → b ≡ true
from_T b t = grind arith

-- ---- who is in the way, part by part
module _ (locks : Locks) (h : Holder) (p : Parts) (k : Kind) where
  blocked : (test : Holder → Bool) → ((q : Holder) → is_blocked_by locks h p k q ≡ test q)
      → blocker locks h p k ≡ first_where test (keys locks)
  blocked test is = λ i. first_where (λ q. is q i) (keys locks)

  -- of a row: at the row and at its table
  pub blocker-row : (name : List ℕ) → p.row ≡ Some name → blocker locks h p k
      ≡ lesser (blocker_at locks h p k) (blocker_at locks h (table_of p) Shared)
  blocker-row name is =
      blocked _ (λ q. let row = touches-row (keys_at locks q) p k name is in grind (arith, row))
      ∙ first-either (is_in_way_at locks h p k) (is_in_way_at locks h (table_of p) Shared)
      locks.entries (from_T _ locks.sorted)

  -- of a table: at the table, and at its rows unless both are shared
  pub blocker-table : p.row ≡ None → kinds_touch Shared k ≡ true
      → blocker locks h p k ≡ lesser (blocker_at locks h p k) (row_blocker locks h p)
  blocker-table is other =
      blocked _ (λ q. let row = touches-table (keys_at locks q) p k is in grind (arith, row))
      ∙ first-either (is_in_way_at locks h p k) (has_row_in_way locks h p) locks.entries
      (from_T _ locks.sorted)

  pub blocker-shared : p.row ≡ None → kinds_touch Shared k ≡ false
      → blocker locks h p k ≡ blocker_at locks h p k
  blocker-shared is both =
      blocked _ (λ q. let row = touches-table (keys_at locks q) p k is in grind (arith, row))

-- ---- a holder without keys is not in the way
has_keys : (test : Keys → Bool) (o : Option Keys) → test empty ≡ false
    → test (unwrap_or o empty) ≡ true → is_some o ≡ true
has_keys test o none is = grind arith

-- who passes a test that the empty set does not pass has keys
pub stands : (locks : Locks) (g : Holder) (test : Keys → Bool) → test empty ≡ false
    → test (keys_at locks g) ≡ true → is_some (find holder_cmp g locks.entries) ≡ true
stands locks g test none is =
    ap is_some (sym (get-entries locks g)) ∙ has_keys test (get locks g) none is

-- ---- those at the parts, one after another
has_lock : (apart : Bool) (test : Kind → Bool) (o : Option Lock)
    → apart && passes test (kind_in o) ≡ true → is_some o ≡ true
has_lock apart test o is = grind arith

some_number : (o : Option ℕ) → is_some o ≡ true → (n : ℕ) × (o ≡ Some n)
some_number None e = cc
some_number (Some n) e = (n, refl)

module _ (es : Entries) (index : HolderIndex) (indexed : IsIndexOf index es) (h : Holder)
    (p : Parts) (k : Kind) where
  abbrev in_way : Holder → Bool
  in_way = is_in_way_at (locks_in es) h p k

  -- who is in the way has a number there
  numbered : (g : Holder) → in_way g ≡ true → (n : ℕ) × (holder_in index p n ≡ Some g)
  numbered g is =
      let apart = not (same_holder h g) in
      let lock = has_lock apart (kinds_touch k) (lookup (lock_eq (key_of g p)) es)
      (sym (ap (λ o. apart && passes (kinds_touch k) o) (get-locks_in es g p)) ∙ is) in
      let number = some_number (number_of index (key_of g p)) (indexed.same (key_of g p) ∙ lock) in
      let here = indexed.numbered p in (number.0, here.back number.0 g number.1)

  -- once all are gone over, the least is found
  pub least-at : (least : Option Holder) → passes_if_there in_way least
      → ((n : ℕ) (g : Holder) → n < count index p → holder_in index p n ≡ Some g
      → in_way g ≡ true → at_most least g ≡ true)
      → blocker_at (locks_in es) h p k ≡ least
  least-at least found all =
      first-is in_way least found
      (λ g is. let place = numbered g is in let here = indexed.numbered p in
      all place.0 g (here.below place.0 g place.1) place.1 is)
      (locks_in es).entries (from_T _ (locks_in es).sorted)
      (λ g is. stands (locks_in es) g
      (λ keys. not (same_holder h g) && passes (kinds_touch k) (get keys p))
      (and_right _ _ (ap (passes (kinds_touch k)) (get-empty parts_cmp p))) is)

-- one more is gone over
module _ (test : Holder → Bool) where
  pub found-more : (o p : Option Holder) → passes_if_there test o
      → passes_if_there test (lesser o (where_passes test p))
  found-more o p found a e = grind (arith, found a)

  pub least-more : (at : ℕ → Option Holder) (o : Option Holder) (i : ℕ) (l : Option Holder)
      → l ≡ lesser o (where_passes test (at i))
      → ((n : ℕ) (g : Holder) → n < i → at n ≡ Some g → test g ≡ true → at_most o g ≡ true)
      → (n : ℕ) (g : Holder) → n < i + 1 → at n ≡ Some g → test g ≡ true → at_most l g ≡ true
  least-more at o i l is least n g less there passes =
      let left = lesser-left g o (where_passes test (at i)) in
      let right = lesser-right g o (Some g) in let own = own_least g in
      grind (arith, cases_eq n i, least n g, left, right, own)

-- ---- the locks of rows of a table, one after another
-- the least holder of those, and of one that was found before
abbrev pub rows_least : Holder → Parts → Option Holder → Entries → Option Holder
rows_least h table least [] = least
rows_least h table least (e ∷ es) =
    rows_least h table (cond (row_in_way h table e.0) (lesser least (Some e.0.holder)) least) es

still_passed : (passed : Option Holder → Bool) (o l : Option Holder)
    (own here row apart more : Bool) → (passed o ≡ true → passed l ≡ true)
    → (here ≡ true → (passed l ≡ true) × (not own ≡ apart))
    → passed o || (apart && ((here && row) || more)) ≡ true
    → passed (cond (not own && row) l o) || (apart && more) ≡ true
still_passed passed o l own here row apart more kept is seen = grind arith

one_found : (o l : Option Holder) (a x : Holder) (own here row apart more : Bool)
    → (l ≡ Some a → (o ≡ Some a) ⊎ (x ≡ a)) → (x ≡ a → (here ≡ true) × (not own ≡ apart))
    → (cond (not own && row) l o ≡ Some a) ⊎ (apart && more ≡ true)
    → (o ≡ Some a) ⊎ (apart && ((here && row) || more) ≡ true)
one_found o l a x own here row apart more either is found = grind arith

lesser_either : (o : Option Holder) (x a : Holder) → lesser o (Some x) ≡ Some a
    → (o ≡ Some a) ⊎ (x ≡ a)
lesser_either o x a is = grind arith

module _ (h : Holder) (table : Parts) where
  -- whether this other holder has one of these locks
  abbrev is_seen : Holder → Entries → Bool
  is_seen g es = not (same_holder h g) && list_any (λ e. is_row_at g table e.0) es

  apart : (g : Holder) → not (holder_eq g h) ≡ not (same_holder h g)
  apart g = ap not (holder_ties g h ∙ holder_equivalence.symm g h)

  -- none that has one is before the least
  rows-passed : (g : Holder) (es : Entries) (least : Option Holder)
      → at_most least g || is_seen g es ≡ true → at_most (rows_least h table least es) g ≡ true
  rows-passed g [] least seen = grind (arith, seen)
  rows-passed g (e ∷ es) least seen =
      let x = e.0.holder in
      rows-passed g es _
      (still_passed (λ o. at_most o g) least (lesser least (Some x)) (holder_eq x h) (holder_eq x g)
      _ _ _ (lesser-left g least (Some x)) (λ is.
      subst (λ y. (at_most (lesser least (Some y)) g ≡ true)
      × (not (holder_eq y h) ≡ not (same_holder h g))) (sym (holder_eq-exact x g is))
      (lesser-right g least (Some g) (own_least g), apart g)) seen)

  -- the least is one of those, or was found before
  rows-found : (a : Holder) (es : Entries) (least : Option Holder)
      → rows_least h table least es ≡ Some a → (least ≡ Some a) ⊎ (is_seen a es ≡ true)
  rows-found a [] least is = inl is
  rows-found a (e ∷ es) least is =
      let x = e.0.holder in
      one_found least (lesser least (Some x)) a x (holder_eq x h) (holder_eq x a) _ _ _
      (lesser_either least x a)
      (λ same. subst (λ y. (holder_eq y a ≡ true) × (not (holder_eq y h) ≡ not (same_holder h a)))
      (sym same) (holder_eq-itself a, apart a))
      (rows-found a es _ is)

  -- once all are gone over, the least is found
  pub rows-least : (es : Entries) → rows_least h table None es ≡ row_blocker (locks_in es) h table
  unfolding empty
  rows-least es =
      sym (first-is (has_row_in_way (locks_in es) h table) (rows_least h table None es)
      (λ a is. elim (rows-found a es None is) [ inl none ↦ cc | inr seen ↦ sym (seen_is a) ∙ seen ])
      (λ g is. rows-passed g es None (seen_is g ∙ is))
      (locks_in es).entries (from_T _ (locks_in es).sorted)
      (λ g is. stands (locks_in es) g (λ keys. not (same_holder h g) && has_row_of keys table)
      (and_right _ _ refl) is))
    where
      seen_is : (g : Holder) → is_seen g es ≡ has_row_in_way (locks_in es) h table g
      seen_is g = ap (λ b. not (same_holder h g) && b) (rows_in_table es g table)

-- one more lock is gone over
pub rows-step : (h : Holder) (table : Parts) (least l : Option Holder) (key : LockKey) (lock : Lock)
    (es rest : Entries) → rest ≡ (key, lock) ∷ es
    → l ≡ cond (row_in_way h table key) (lesser least (Some key.holder)) least
    → rows_least h table l es ≡ rows_least h table least rest
rows-step h table least l key lock es rest is next = cc
