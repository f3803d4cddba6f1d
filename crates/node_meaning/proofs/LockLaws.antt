-- The locks of a node's live transactions and units, by look-ups and after each edit.
use Rattle.std.proofs.Common.{◌≡◌, ℕ, Bool, true, false, ◌&&◌, cond, List, [], ◌∷◌, ◌++◌, Option, None, Some, refl, sym, ap, ◌∙◌}
use Rattle.std.specs.Prelude.{◌==◌, not, T, if◌then◌else◌}
use Rattle.std.specs.Option.{unwrap_or}
use Rattle.std.specs.List.{filter_map, cons_option}
use Rattle.std.specs.Ordering.{nat_cmp, is_lt, is_eq, eq_by_cmp}
use Rattle.std.specs.declared.cmp.Ordering.{Ordering}
use Rattle.std.specs.declared.cmp.Ordering.TheVariants.{Less, Equal, Greater}
use Rattle.std.specs.Cmp.{nat_cmp_total}
use Rattle.std.specs.FinMap.Entries.{find, is_sorted, below_all}
use Rattle.std.proofs.lemmas.Bool.{eqb-true}
use Rattle.std.proofs.lemmas.List.{nil_from_length}
use Rattle.finite_map.proofs.Edits.{numbers, tied}
use Rattle.finite_map.specs.FiniteMap.{FiniteMap, empty, get, insert, remove, keys, len, get-entries, len-entries, get-empty, get-insert, get-remove, get-from_entries, same_map, same_entries_map}
use Rattle.key_sets.specs.declared.kind.Kind.{Kind}
use Rattle.key_sets.specs.declared.parts.Parts.{Parts}
use Rattle.key_sets.specs.Parts.{parts_cmp}
use Rattle.key_sets.specs.Keys.{Keys, with_key}
use Rattle.key_sets.specs.Kinds.{raised}
use Rattle.key_sets.proofs.KeyLaws.{get-with_key, same_parts-itself}
use Rattle.row_locks.specs.declared.holder.Holder.{Holder}
use Rattle.row_locks.specs.declared.holder.Holder.TheVariants.{Session, Unit as UnitHolder}
use Rattle.row_locks.specs.Holders.{holder_cmp, same_holder}
use Rattle.row_locks.specs.Locks.{Locks, keys_at, with_lock}
use Rattle.client_trx.specs.Live.{Live, has_locks}
use Rattle.node_meaning.specs.Node.{ApplyUnit, some_keys, live_lock, unit_lock, locks_of}
use Rattle.row_locks.proofs.HolderLemmas.{holder_total, holder_exact, same_holder-exact}

-- ---- what stands in the locks for one transaction or unit

-- keys, while there are any
abbrev pub lock_keys : Bool → Keys → Option Keys
lock_keys true keys = if len keys == 0 then None else Some keys
lock_keys false keys = None

-- the lock of a session's transaction: none without a transaction, without locks or without keys
abbrev pub lock_of_live : Option Live → Option Keys
lock_of_live None = None
lock_of_live (Some t) = lock_keys (has_locks t.status) t.keys

-- the lock of a unit
abbrev pub lock_of_unit : Option ApplyUnit → Option Keys
lock_of_unit None = None
lock_of_unit (Some u) = lock_keys true u.keys

-- the keys of a session's transaction while it has locks
abbrev pub keys_of_live : Option Live → Keys
keys_of_live None = empty
keys_of_live (Some t) = cond (has_locks t.status) t.keys empty

abbrev pub keys_of_unit : Option ApplyUnit → Keys
keys_of_unit None = empty
keys_of_unit (Some u) = u.keys

-- the locks with this at a holder, or nothing there
abbrev pub set_lock : Locks → Holder → Option Keys → Locks
set_lock locks h None = remove locks h
set_lock locks h (Some keys) = insert locks h keys

-- ---- a look-up in the list of locks

abbrev put_first : {A : Type 0} → Holder → Option A → List (Holder × A) → List (Holder × A)
put_first h None es = es
put_first h (Some a) es = (h, a) ∷ es

abbrev or_else : {A : Type 0} → Option A → Option A → Option A
or_else None o = o
or_else (Some a) o = Some a

abbrev in_option : {A B : Type 0} → (A → Option B) → Option A → Option B
in_option f None = None
in_option f (Some a) = f a

or_else-cond : {A : Type 0} (b : Bool) (a : A) (o p : Option A) → cond b (Some a) (or_else o p) ≡ or_else (cond b (Some a) o) p
or_else-cond true a o p = refl
or_else-cond false a o p = refl

find-both : {A : Type 0} (q : Holder) (es fs : List (Holder × A)) → find holder_cmp q (es ++ fs) ≡ or_else (find holder_cmp q es) (find holder_cmp q fs)
find-both q [] fs = refl
find-both q (e ∷ es) fs =
    ap (cond (same_holder q e.0) (Some e.1)) (find-both q es fs) ∙ or_else-cond (same_holder q e.0) e.1 (find holder_cmp q es) (find holder_cmp q fs)

or_else-none : {A : Type 0} (o : Option A) → or_else o None ≡ o
or_else-none None = refl
or_else-none (Some a) = refl

pub first_true : (a b : Bool) → T (a && b) → T a
first_true true b p = tt
first_true false b p = p

pub second_true : (a b : Bool) → T (a && b) → T b
second_true true b p = p
second_true false b p = absurd p

pub not_tied : (r : Ordering) → T (is_lt r) → is_eq r ≡ false
not_tied Less p = refl
not_tied Equal p = absurd p
not_tied Greater p = absurd p

module _ {X A : Type 0} (wrap : ℕ → Holder) (lock : X → Option A) where
  -- the locks of all entries
  abbrev listed : List (ℕ × X) → List (Holder × A)
  listed [] = []
  listed (e ∷ es) = put_first (wrap e.0) (lock e.1) (listed es)

  -- a holder of another kind is not there
  module _ (q : Holder) (other : (n : ℕ) → same_holder q (wrap n) ≡ false) where
    other_put : (n : ℕ) (o : Option A) (es : List (Holder × A)) → find holder_cmp q (put_first (wrap n) o es) ≡ find holder_cmp q es
    other_put n None es = refl
    other_put n (Some a) es = ap (λ b. cond b (Some a) (find holder_cmp q es)) (other n)

    find-other : (es : List (ℕ × X)) → find holder_cmp q (listed es) ≡ None
    find-other [] = refl
    find-other (e ∷ es) = other_put e.0 (lock e.1) (listed es) ∙ find-other es

  module _ (same : (a b : ℕ) → same_holder (wrap a) (wrap b) ≡ eq_by_cmp nat_cmp a b) where
    not_put : (n m : ℕ) (o : Option A) (es : List (Holder × A)) → eq_by_cmp nat_cmp n m ≡ false
        → find holder_cmp (wrap n) (put_first (wrap m) o es) ≡ find holder_cmp (wrap n) es
    not_put n m None es apart = refl
    not_put n m (Some a) es apart = ap (λ b. cond b (Some a) (find holder_cmp (wrap n) es)) (same n m ∙ apart)

    -- nothing stands there below the first number
    find-below : (n : ℕ) (es : List (ℕ × X)) → T (below_all nat_cmp n es) → find holder_cmp (wrap n) (listed es) ≡ None
    find-below n [] below = refl
    find-below n (e ∷ es) below =
        not_put n e.0 (lock e.1) (listed es) (not_tied (nat_cmp n e.0) (first_true _ _ below))
        ∙ find-below n es (second_true _ _ below)

    put_here : (n m : ℕ) (o : Option A) (es : List (Holder × A)) → eq_by_cmp nat_cmp n m ≡ true → find holder_cmp (wrap n) es ≡ None
        → find holder_cmp (wrap n) (put_first (wrap m) o es) ≡ o
    put_here n m None es here none = none
    put_here n m (Some a) es here none = ap (λ b. cond b (Some a) (find holder_cmp (wrap n) es)) (same n m ∙ here)

    find_step : (n : ℕ) (e : ℕ × X) (es : List (ℕ × X)) (b : Bool) → eq_by_cmp nat_cmp n e.0 ≡ b → T (below_all nat_cmp e.0 es)
        → find holder_cmp (wrap n) (listed es) ≡ in_option lock (find nat_cmp n es)
        → find holder_cmp (wrap n) (listed (e ∷ es)) ≡ in_option lock (cond b (Some e.1) (find nat_cmp n es))
    find_step n e es true here below rest =
        put_here n e.0 (lock e.1) (listed es) here
        (ap (λ m. find holder_cmp (wrap m) (listed es)) (tied numbers n e.0 here) ∙ find-below e.0 es below)
    find_step n e es false here below rest = not_put n e.0 (lock e.1) (listed es) here ∙ rest

    find-listed : (n : ℕ) (es : List (ℕ × X)) → T (is_sorted nat_cmp es)
        → find holder_cmp (wrap n) (listed es) ≡ in_option lock (find nat_cmp n es)
    find-listed n [] sorted = refl
    find-listed n (e ∷ es) sorted =
        find_step n e es (eq_by_cmp nat_cmp n e.0) refl (first_true _ _ sorted) (find-listed n es (second_true _ _ sorted))

abbrev live_keys : Live → Option Keys
live_keys t = lock_keys (has_locks t.status) t.keys

abbrev unit_keys : ApplyUnit → Option Keys
unit_keys u = lock_keys true u.keys

cons_few : (few : Bool) (h : Holder) (keys : Keys) (es fs : List (Holder × Keys)) → es ≡ fs
    → cons_option (cond few None (Some (h, keys))) es ≡ put_first h (cond few None (Some keys)) fs
cons_few true h keys es fs same = same
cons_few false h keys es fs same = ap (λ rest. (h, keys) ∷ rest) same

cons_keys : (b : Bool) (h : Holder) (keys : Keys) (es fs : List (Holder × Keys)) → es ≡ fs
    → cons_option (some_keys b h keys) es ≡ put_first h (lock_keys b keys) fs
cons_keys true h keys es fs same = cons_few (len keys == 0) h keys es fs same
cons_keys false h keys es fs same = same

live_list : (es : List (ℕ × Live)) → filter_map live_lock es ≡ listed Session live_keys es
live_list [] = refl
live_list (e ∷ es) = cons_keys (has_locks e.1.status) (Session e.0) e.1.keys _ _ (live_list es)

unit_list : (es : List (ℕ × ApplyUnit)) → filter_map unit_lock es ≡ listed UnitHolder unit_keys es
unit_list [] = refl
unit_list (e ∷ es) = cons_keys true (UnitHolder e.0) e.1.keys _ _ (unit_list es)

by_live : (o : Option Live) → in_option live_keys o ≡ lock_of_live o
by_live None = refl
by_live (Some t) = refl

by_unit : (o : Option ApplyUnit) → in_option unit_keys o ≡ lock_of_unit o
by_unit None = refl
by_unit (Some u) = refl

module _ (live : FiniteMap nat_cmp Live) (units : FiniteMap nat_cmp ApplyUnit) where
  get-locks : (q : Holder) → get (locks_of live units) q
      ≡ or_else (find holder_cmp q (listed Session live_keys live.entries)) (find holder_cmp q (listed UnitHolder unit_keys units.entries))
  get-locks q =
      get-from_entries holder_total (filter_map live_lock live.entries ++ filter_map unit_lock units.entries) q
      ∙ find-both q (filter_map live_lock live.entries) (filter_map unit_lock units.entries)
      ∙ (λ i. or_else (find holder_cmp q (live_list live.entries i)) (find holder_cmp q (unit_list units.entries i)))

  -- the lock of a session
  pub get-locks_of-session : (s : ℕ) → get (locks_of live units) (Session s) ≡ lock_of_live (get live s)
  get-locks_of-session s =
      get-locks (Session s)
      ∙ (λ i. or_else (find-listed Session live_keys (λ a b. refl) s live.entries live.sorted i)
      (find-other UnitHolder unit_keys (Session s) (λ n. refl) units.entries i))
      ∙ or_else-none (in_option live_keys (find nat_cmp s live.entries))
      ∙ ap (in_option live_keys) (sym (get-entries live s))
      ∙ by_live (get live s)

  -- the lock of a unit
  pub get-locks_of-unit : (k : ℕ) → get (locks_of live units) (UnitHolder k) ≡ lock_of_unit (get units k)
  get-locks_of-unit k =
      get-locks (UnitHolder k)
      ∙ (λ i. or_else (find-other Session live_keys (UnitHolder k) (λ n. refl) live.entries i)
      (find-listed UnitHolder unit_keys (λ a b. refl) k units.entries units.sorted i))
      ∙ ap (in_option unit_keys) (sym (get-entries units k))
      ∙ by_unit (get units k)

-- a set of no keys is the empty one
pub no_keys : (keys : Keys) → len keys ≡ 0 → keys ≡ empty
unfolding empty
no_keys keys none = same_entries_map keys empty (nil_from_length keys.entries (sym (len-entries keys) ∙ none))

few_or_none : (keys : Keys) (few : Bool) → (len keys == 0) ≡ few → unwrap_or (cond few None (Some keys)) empty ≡ keys
few_or_none keys true few = sym (no_keys keys (eqb-true (len keys) 0 few))
few_or_none keys false few = refl

locked_keys : (b : Bool) (keys : Keys) → unwrap_or (lock_keys b keys) empty ≡ cond b keys empty
locked_keys true keys = few_or_none keys (len keys == 0) refl
locked_keys false keys = refl

live_locked : (o : Option Live) → unwrap_or (lock_of_live o) empty ≡ keys_of_live o
live_locked None = refl
live_locked (Some t) = locked_keys (has_locks t.status) t.keys

pub unit_locked : (o : Option ApplyUnit) → unwrap_or (lock_of_unit o) empty ≡ keys_of_unit o
unit_locked None = refl
unit_locked (Some u) = locked_keys true u.keys

-- the keys of a session in the locks are its transaction's, while that has locks
pub keys_at-session : (live : FiniteMap nat_cmp Live) (units : FiniteMap nat_cmp ApplyUnit) (s : ℕ)
    → keys_at (locks_of live units) (Session s) ≡ keys_of_live (get live s)
keys_at-session live units s =
    ap (λ (o : Option Keys). unwrap_or o empty) (get-locks_of-session live units s) ∙ live_locked (get live s)

-- and those of a unit are its own
pub keys_at-unit : (live : FiniteMap nat_cmp Live) (units : FiniteMap nat_cmp ApplyUnit) (k : ℕ)
    → keys_at (locks_of live units) (UnitHolder k) ≡ keys_of_unit (get units k)
keys_at-unit live units k =
    ap (λ (o : Option Keys). unwrap_or o empty) (get-locks_of-unit live units k) ∙ unit_locked (get units k)

-- ---- after an edit

lock-cond : (b : Bool) (t : Live) (o : Option Live) → lock_of_live (cond b (Some t) o) ≡ cond b (lock_of_live (Some t)) (lock_of_live o)
lock-cond true t o = refl
lock-cond false t o = refl

lock-gone : (b : Bool) (o : Option Live) → lock_of_live (cond b None o) ≡ cond b None (lock_of_live o)
lock-gone true o = refl
lock-gone false o = refl

unit-cond : (b : Bool) (u : ApplyUnit) (o : Option ApplyUnit) → lock_of_unit (cond b (Some u) o) ≡ cond b (lock_of_unit (Some u)) (lock_of_unit o)
unit-cond true u o = refl
unit-cond false u o = refl

unit-gone : (b : Bool) (o : Option ApplyUnit) → lock_of_unit (cond b None o) ≡ cond b None (lock_of_unit o)
unit-gone true o = refl
unit-gone false o = refl

pub get-set_lock : (locks : Locks) (h : Holder) (o : Option Keys) (q : Holder)
    → get (set_lock locks h o) q ≡ cond (same_holder q h) o (get locks q)
get-set_lock locks h None q = get-remove holder_total locks h q
get-set_lock locks h (Some keys) q = get-insert holder_total locks h keys q

-- locks that answer alike are the same
pub same_locks : (m n : Locks) → ((s : ℕ) → get m (Session s) ≡ get n (Session s))
    → ((k : ℕ) → get m (UnitHolder k) ≡ get n (UnitHolder k)) → m ≡ n
same_locks m n sessions units = same_map holder_total holder_exact m n at
  where
    at : (q : Holder) → get m q ≡ get n q
    at (Session s) = sessions s
    at (UnitHolder k) = units k

module _ (live : FiniteMap nat_cmp Live) (units : FiniteMap nat_cmp ApplyUnit) where
  -- a transaction is put at a session
  pub locks_of-insert : (s : ℕ) (t : Live)
      → locks_of (insert live s t) units ≡ set_lock (locks_of live units) (Session s) (lock_of_live (Some t))
  locks_of-insert s t =
      same_locks _ _
      (λ r. get-locks_of-session (insert live s t) units r
      ∙ ap lock_of_live (get-insert nat_cmp_total live s t r)
      ∙ lock-cond (eq_by_cmp nat_cmp r s) t (get live r)
      ∙ ap (cond (eq_by_cmp nat_cmp r s) (lock_of_live (Some t))) (sym (get-locks_of-session live units r))
      ∙ sym (get-set_lock (locks_of live units) (Session s) (lock_of_live (Some t)) (Session r)))
      (λ k. get-locks_of-unit (insert live s t) units k
      ∙ sym (get-locks_of-unit live units k)
      ∙ sym (get-set_lock (locks_of live units) (Session s) (lock_of_live (Some t)) (UnitHolder k)))

  -- a transaction ends
  pub locks_of-remove : (s : ℕ) → locks_of (remove live s) units ≡ remove (locks_of live units) (Session s)
  locks_of-remove s =
      same_locks _ _
      (λ r. get-locks_of-session (remove live s) units r
      ∙ ap lock_of_live (get-remove nat_cmp_total live s r)
      ∙ lock-gone (eq_by_cmp nat_cmp r s) (get live r)
      ∙ ap (cond (eq_by_cmp nat_cmp r s) None) (sym (get-locks_of-session live units r))
      ∙ sym (get-remove holder_total (locks_of live units) (Session s) (Session r)))
      (λ k. get-locks_of-unit (remove live s) units k
      ∙ sym (get-locks_of-unit live units k)
      ∙ sym (get-remove holder_total (locks_of live units) (Session s) (UnitHolder k)))

  -- a unit starts, or goes on
  pub locks_of-insert_unit : (k : ℕ) (u : ApplyUnit)
      → locks_of live (insert units k u) ≡ set_lock (locks_of live units) (UnitHolder k) (lock_of_unit (Some u))
  locks_of-insert_unit k u =
      same_locks _ _
      (λ s. get-locks_of-session live (insert units k u) s
      ∙ sym (get-locks_of-session live units s)
      ∙ sym (get-set_lock (locks_of live units) (UnitHolder k) (lock_of_unit (Some u)) (Session s)))
      (λ j. get-locks_of-unit live (insert units k u) j
      ∙ ap lock_of_unit (get-insert nat_cmp_total units k u j)
      ∙ unit-cond (eq_by_cmp nat_cmp j k) u (get units j)
      ∙ ap (cond (eq_by_cmp nat_cmp j k) (lock_of_unit (Some u))) (sym (get-locks_of-unit live units j))
      ∙ sym (get-set_lock (locks_of live units) (UnitHolder k) (lock_of_unit (Some u)) (UnitHolder j)))

  -- a unit is done
  pub locks_of-remove_unit : (k : ℕ) → locks_of live (remove units k) ≡ remove (locks_of live units) (UnitHolder k)
  locks_of-remove_unit k =
      same_locks _ _
      (λ s. get-locks_of-session live (remove units k) s
      ∙ sym (get-locks_of-session live units s)
      ∙ sym (get-remove holder_total (locks_of live units) (UnitHolder k) (Session s)))
      (λ j. get-locks_of-unit live (remove units k) j
      ∙ ap lock_of_unit (get-remove nat_cmp_total units k j)
      ∙ unit-gone (eq_by_cmp nat_cmp j k) (get units j)
      ∙ ap (cond (eq_by_cmp nat_cmp j k) None) (sym (get-locks_of-unit live units j))
      ∙ sym (get-remove holder_total (locks_of live units) (UnitHolder k) (UnitHolder j)))

put_same : (locks : Locks) (h : Holder) (o : Option Keys) → get locks h ≡ o → set_lock locks h o ≡ locks
put_same locks h o is = same_map holder_total holder_exact _ _ (λ q. get-set_lock locks h o q ∙ at q (same_holder q h) refl)
  where
    at : (q : Holder) (b : Bool) → same_holder q h ≡ b → cond b o (get locks q) ≡ get locks q
    at q true same = sym is ∙ ap (get locks) (sym (same_holder-exact q h same))
    at q false same = refl

module _ (live : FiniteMap nat_cmp Live) (units : FiniteMap nat_cmp ApplyUnit) where
  -- a transaction with the same lock takes the place of one
  pub locks_of-replace : (s : ℕ) (t : Live) → lock_of_live (get live s) ≡ lock_of_live (Some t)
      → locks_of (insert live s t) units ≡ locks_of live units
  locks_of-replace s t same =
      locks_of-insert live units s t
      ∙ put_same (locks_of live units) (Session s) (lock_of_live (Some t)) (get-locks_of-session live units s ∙ same)

  pub locks_of-same : (s : ℕ) (t u : Live) → get live s ≡ Some t → has_locks u.status ≡ has_locks t.status → u.keys ≡ t.keys
      → locks_of (insert live s u) units ≡ locks_of live units
  locks_of-same s t u is status keys =
      locks_of-replace s u (ap lock_of_live is ∙ (λ i. lock_keys (sym status i) (sym keys i)))

  -- a unit with the same keys takes the place of one
  pub locks_of-same_unit : (k : ℕ) (u w : ApplyUnit) → get units k ≡ Some u → w.keys ≡ u.keys
      → locks_of live (insert units k w) ≡ locks_of live units
  locks_of-same_unit k u w is keys =
      locks_of-insert_unit live units k w
      ∙ put_same (locks_of live units) (UnitHolder k) (lock_of_unit (Some w))
      (get-locks_of-unit live units k ∙ ap lock_of_unit is ∙ ap (lock_keys true) (sym keys))

  -- a transaction with locks and a key has its keys there
  pub locks_of-locked : (s : ℕ) (t : Live) → has_locks t.status ≡ true → (len t.keys == 0) ≡ false
      → locks_of (insert live s t) units ≡ insert (locks_of live units) (Session s) t.keys
  locks_of-locked s t locked some =
      locks_of-insert live units s t
      ∙ ap (set_lock (locks_of live units) (Session s))
      (ap (λ b. lock_keys b t.keys) locked ∙ ap (λ b. cond b None (Some t.keys)) some)

  -- a transaction without locks, or without a key, has none
  pub locks_of-unlocked : (s : ℕ) (t : Live) → lock_of_live (Some t) ≡ None
      → locks_of (insert live s t) units ≡ remove (locks_of live units) (Session s)
  locks_of-unlocked s t none = locks_of-insert live units s t ∙ ap (set_lock (locks_of live units) (Session s)) none

-- ---- a statement's key

not_empty : (keys : Keys) (p : Parts) (k : Kind) → len (with_key keys p k) ≡ 0 → ⊥
not_empty keys p k none =
    let here : get (with_key keys p k) p ≡ Some (raised (get keys p) k) =
    get-with_key keys p k p ∙ ap (λ b. cond b (Some (raised (get keys p) k)) (get keys p)) (same_parts-itself p) in
    let nowhere : get (with_key keys p k) p ≡ None =
    ap (λ (m : Keys). get m p) (no_keys (with_key keys p k) none) ∙ get-empty parts_cmp p in
    cc

lock-with_key : (keys : Keys) (p : Parts) (k : Kind) → lock_keys true (with_key keys p k) ≡ Some (with_key keys p k)
lock-with_key keys p k = by (len (with_key keys p k) == 0) refl
  where
    by : (few : Bool) → (len (with_key keys p k) == 0) ≡ few
        → cond few None (Some (with_key keys p k)) ≡ Some (with_key keys p k)
    by true few = absurd (not_empty keys p k (eqb-true (len (with_key keys p k)) 0 few))
    by false few = refl

-- the locks once the transaction that stands at a session has one more key
pub locks_of-with_lock : (live : FiniteMap nat_cmp Live) (units : FiniteMap nat_cmp ApplyUnit) (s : ℕ) (t u : Live) (p : Parts) (k : Kind)
    → get live s ≡ Some t → has_locks t.status ≡ true → has_locks u.status ≡ true → u.keys ≡ with_key t.keys p k
    → locks_of (insert live s u) units ≡ with_lock (locks_of live units) (Session s) p k
locks_of-with_lock live units s t u p k is old new keys =
    let before : keys_at (locks_of live units) (Session s) ≡ t.keys =
    keys_at-session live units s ∙ ap keys_of_live is ∙ ap (λ b. cond b t.keys empty) old in
    locks_of-insert live units s u
    ∙ ap (set_lock (locks_of live units) (Session s))
    ((λ i. lock_keys (new i) (keys i)) ∙ lock-with_key t.keys p k)
    ∙ ap (λ m. insert (locks_of live units) (Session s) (with_key m p k)) (sym before)
