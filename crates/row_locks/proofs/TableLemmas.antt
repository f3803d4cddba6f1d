-- The hashed table of locks and the keys of each holder that it is seen as.
use Rattle.std.proofs.Common.{◌≡◌, Bool, true, ◌&&◌, ◌||◌, cond, List, [], ◌∷◌, Option, None, Some, refl, sym, ap, ◌∙◌, arith}
use Rattle.std.specs.Prelude.{is_some}
use Rattle.std.specs.Option.{option_map}
use Rattle.std.specs.List.{list_any}
use Rattle.std.specs.Map.{lookup}
use Rattle.std.specs.FinMap.Entries.{put}
use Rattle.finite_map.specs.FiniteMap.{empty, get, insert, remove, get-empty, entries-insert}
use Rattle.key_sets.specs.declared.kind.Kind.{Kind}
use Rattle.key_sets.specs.declared.parts.Parts.{Parts}
use Rattle.key_sets.specs.Kinds.{raised}
use Rattle.key_sets.specs.Parts.{parts_cmp, parts_eq, same_parts, table_of}
use Rattle.key_sets.specs.Keys.{Keys, with_key}
use Rattle.key_sets.proofs.ListLemmas.{same_answer}
use Rattle.key_sets.proofs.MeetLemmas.{both_are}
use Rattle.key_sets.proofs.PartsLemmas.{parts_total, parts_exact, parts_eq-same, same_parts-exact, same_parts-itself}
use Rattle.row_locks.specs.declared.holder.Holder.{Holder}
use Rattle.row_locks.specs.declared.lock_table.LockKey.{LockKey}
use Rattle.row_locks.specs.declared.lock_table.Lock.{Lock}
use Rattle.row_locks.specs.Holders.{same_holder}
use Rattle.row_locks.specs.Locks.{keys_at, with_lock}
use Rattle.row_locks.specs.LockKeys.{holder_eq, lock_eq, key_of}
use Rattle.row_locks.specs.LockTable.{lock_after, Entries, locks_in, has_row_of}
use Rattle.row_locks.proofs.HolderLemmas.{cond-ap, holder_eq-exact, holder_eq-itself, holder_equivalence, holder_ties, same_holder-exact}
use Rattle.row_locks.proofs.LockLemmas.{HaveKeys, HaveKeys-empty, HaveKeys-with_entry, HaveKeys-remove, keys_at-empty, keys_at-insert, keys_at-remove, kind-with_entry, same_locks}

-- ---- `==` of parts and of keys
pub parts_eq-exact : (p r : Parts) → parts_eq p r ≡ true → p ≡ r
parts_eq-exact p r e = same_parts-exact p r (sym (parts_eq-same p r) ∙ e)

pub parts_eq-itself : (p : Parts) → parts_eq p p ≡ true
parts_eq-itself p = parts_eq-same p p ∙ same_parts-itself p

pub lock_eq-exact : (a b : LockKey) → lock_eq a b ≡ true → a ≡ b
lock_eq-exact a b e =
    let both = both_are (holder_eq a.holder b.holder) (parts_eq a.parts b.parts) e in
    let holders = holder_eq-exact a.holder b.holder both.0 in
    let parts = parts_eq-exact a.parts b.parts both.1 in λ i. key_of (holders i) (parts i)

pub lock_eq-itself : (a : LockKey) → lock_eq a a ≡ true
lock_eq-itself a = λ i. holder_eq-itself a.holder i && parts_eq-itself a.parts i

lock_eq-turned : (a b : LockKey) → lock_eq a b ≡ lock_eq b a
lock_eq-turned a b = same_answer _ _ (turn a b) (turn b a)
  where
    turn : (x y : LockKey) → lock_eq x y ≡ true → lock_eq y x ≡ true
    turn x y e = ap (lock_eq y) (lock_eq-exact x y e) ∙ lock_eq-itself y

-- ---- the keys of each holder
abbrev pub kind_in : Option Lock → Option Kind
kind_in o = option_map (λ lock. lock.kind) o

-- the keys of a holder answer as the table does
pub get-locks_in : (es : Entries) (q : Holder) (r : Parts)
    → get (keys_at (locks_in es) q) r ≡ kind_in (lookup (lock_eq (key_of q r)) es)
get-locks_in [] q r = ap (λ (keys : Keys). get keys r) (keys_at-empty q) ∙ get-empty parts_cmp r
get-locks_in (e ∷ es) q r =
    kind-with_entry (locks_in es) e.0.holder e.0.parts e.1.kind q r
    ∙ ap (cond (lock_eq (key_of q r) e.0) (Some e.1.kind)) (get-locks_in es q r)
    ∙ sym (cond-ap kind_in (lock_eq (key_of q r) e.0) (Some e.1) _)

pub HaveKeys-locks_in : (es : Entries) → HaveKeys (locks_in es)
HaveKeys-locks_in [] = HaveKeys-empty
HaveKeys-locks_in (e ∷ es) = HaveKeys-with_entry (locks_in es) _ _ _ (HaveKeys-locks_in es)

raised-after : (o : Option Lock) (newest : Option Parts) (k : Kind)
    → (lock_after o newest k).kind ≡ raised (kind_in o) k
raised-after o newest k = grind arith

module _ (es fs : Entries) where
  -- the same look-ups, whatever the order of the entries
  pub locks-same : ((q : LockKey) → lookup (lock_eq q) fs ≡ lookup (lock_eq q) es)
      → locks_in fs ≡ locks_in es
  locks-same is =
      same_locks _ _ (HaveKeys-locks_in fs) (HaveKeys-locks_in es)
      (λ q r. cc (get-locks_in fs q r, is (key_of q r), get-locks_in es q r))

  -- a holder's key is granted
  pub locks-granted : (h : Holder) (p : Parts) (k : Kind) (newest : Option Parts) (lock : Lock)
      → lock ≡ lock_after (lookup (lock_eq (key_of h p)) es) newest k
      → ((q : LockKey)
      → lookup (lock_eq q) fs ≡ cond (lock_eq (key_of h p) q) (Some lock) (lookup (lock_eq q) es))
      → locks_in fs ≡ with_lock (locks_in es) h p k
  unfolding with_key
  locks-granted h p k newest lock leads is =
      same_locks _ _ (HaveKeys-locks_in fs)
      (HaveKeys-with_entry (locks_in es) h p _ (HaveKeys-locks_in es)) (λ q r.
      let kind = raised (get (keys_at (locks_in es) h) p) k in
      let put = kind-with_entry (locks_in es) h p kind q r in
      let kept = cond-ap kind_in (lock_eq (key_of h p) (key_of q r)) (Some lock)
      (lookup (lock_eq (key_of q r)) es) in
      let turned = lock_eq-turned (key_of h p) (key_of q r) in
      let after = raised-after (lookup (lock_eq (key_of h p)) es) newest k in
      cc (get-locks_in fs q r, is (key_of q r), get-locks_in es q r, get-locks_in es h p))

  -- a holder has no keys any more
  pub locks-removed : (h : Holder)
      → ((q : LockKey)
      → lookup (lock_eq q) fs ≡ cond (same_holder h q.holder) None (lookup (lock_eq q) es))
      → locks_in fs ≡ remove (locks_in es) h
  locks-removed h is =
      same_locks _ _ (HaveKeys-locks_in fs)
      (HaveKeys-remove (locks_in es) h (HaveKeys-locks_in es)) (λ q r.
      let left = keys_at-remove (locks_in es) h q in
      let kept = cond-ap kind_in (same_holder h q) None (lookup (lock_eq (key_of q r)) es) in
      let turned = holder_equivalence.symm h q in
      let none = get-empty {X = Kind} parts_cmp r in
      let own = keys_at (locks_in es) q in
      let at = cond-ap (λ (keys : Keys). get keys r) (same_holder q h) empty own in
      cc (get-locks_in fs q r, is (key_of q r), get-locks_in es q r))

-- ---- rows of a table
-- whether the key is a holder's, and that of a row of the table
abbrev pub is_row_at : Holder → Parts → LockKey → Bool
is_row_at h table key =
    holder_eq key.holder h && (is_some key.parts.row && same_parts (table_of key.parts) table)

any-put : (test : Parts → Bool) (p : Parts) (k : Kind) (es : List (Parts × Kind))
    → list_any (λ e. test e.0) (put parts_cmp p k es) ≡ test p || list_any (λ e. test e.0) es
any-put test p k [] = refl
any-put test p k (e ∷ es) =
    let more = any-put test p k es in let same = parts_exact p e.0 in grind (arith, more, same)

rows-insert : (keys : Keys) (p : Parts) (k : Kind) (table : Parts)
    → has_row_of (insert keys p k) table
    ≡ (is_some p.row && same_parts (table_of p) table) || has_row_of keys table
rows-insert keys p k table =
    ap (list_any (λ e. is_some e.0.row && same_parts (table_of e.0) table))
    (entries-insert parts_total keys p k)
    ∙ any-put (λ q. is_some q.row && same_parts (table_of q) table) p k keys.entries

-- to look through all entries is to look through the holder's keys
pub rows_in_table : (es : Entries) (h : Holder) (table : Parts)
    → list_any (λ e. is_row_at h table e.0) es ≡ has_row_of (keys_at (locks_in es) h) table
unfolding empty
rows_in_table [] h table = sym (ap (λ keys. has_row_of keys table) (keys_at-empty h))
rows_in_table (e ∷ es) h table =
    let g = e.0.holder in let keys = insert (keys_at (locks_in es) g) e.0.parts e.1.kind in
    let all = keys_at-insert (locks_in es) g keys h in
    let row = rows-insert (keys_at (locks_in es) g) e.0.parts e.1.kind table in
    let more = rows_in_table es h table in
    let ties = holder_ties g h ∙ holder_equivalence.symm g h in
    let same = same_holder-exact h g in grind (arith, all, row, more, ties, same)
