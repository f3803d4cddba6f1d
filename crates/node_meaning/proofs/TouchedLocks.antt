-- Which sessions the locks touch, and locks that do not touch each other.
use Rattle.std.proofs.Common.{◌≡◌, ℕ, Bool, true, false, ◌&&◌, ◌||◌, cond, inl, inr, List, [], ◌∷◌, ◌++◌, Option, None, Some, refl, sym, ap, subst, ◌∙◌, true≢false}
use Rattle.std.specs.Prelude.{not, T, is_some, map, flat_map, if◌then◌else◌}
use Rattle.std.specs.Option.{unwrap_or}
use Rattle.std.specs.List.{filter_map, cons_option, list_any}
use Rattle.std.specs.Ordering.{nat_cmp, eq_by_cmp}
use Rattle.std.specs.declared.cmp.Ordering.{Ordering}
use Rattle.std.specs.Cmp.{IsTotalOrder, Equal-is, eq_by_cmp_equiv}
use Rattle.std.specs.FinMap.{IsAntisymmetric}
use Rattle.std.specs.FinMap.Entries.{is_sorted, below_all, is_some-find}
use Rattle.finite_map.specs.FiniteMap.{FiniteMap, empty, get, insert, remove, keys, get-entries}
use Rattle.key_sets.specs.declared.kind.Kind.{Kind}
use Rattle.key_sets.specs.declared.parts.Parts.{Parts}
use Rattle.key_sets.specs.Keys.{Keys, touches, with_key, one_key}
use Rattle.key_sets.specs.Kinds.{kinds_touch}
use Rattle.key_sets.proofs.ListLemmas.{In, some_in, any_of, in_flat, from_flat}
use Rattle.key_sets.proofs.KeyLaws.{touches-symm, touches-empty, kinds_touch-rising, meet-with_key}
use Rattle.row_locks.specs.declared.holder.Holder.{Holder}
use Rattle.row_locks.specs.declared.holder.Holder.TheVariants.{Session, Unit as UnitHolder}
use Rattle.row_locks.specs.Holders.{holder_cmp, same_holder}
use Rattle.row_locks.specs.Locks.{Locks, keys_at, with_lock, first_where, is_blocked_by, blocker, touching_session, touching_sessions}
use Rattle.client_trx.specs.Live.{Live, has_locks}
use Rattle.node_meaning.specs.Node.{ApplyUnit, locks_of}
use Rattle.node_meaning.specs.Facts.{AreApart}
use Rattle.row_locks.proofs.HolderLemmas.{holder_total, holder_equivalence, holder_exact, same_holder-exact, same_holder-itself}
use Rattle.row_locks.proofs.LockLemmas.{keys_at-insert, keys_at-remove}
use Rattle.node_meaning.proofs.LockLaws.{keys_at-session, keys_of_live, lock_of_live, lock_of_unit, locks_of-insert_unit, locks_of-remove, locks_of-remove_unit, locks_of-same, locks_of-same_unit, locks_of-unlocked, locks_of-with_lock, set_lock, unit_locked, first_true, second_true, not_tied}

-- ---- which sessions are touched

some_at : {X : Type 0} (o : Option X) → is_some o ≡ true → (x : X) × (o ≡ Some x)
some_at None none = absurd (true≢false (sym none))
some_at (Some x) there = (x, refl)

module _ {K X : Type 0} {R : K → K → Ordering} where
  -- a key that answers is listed
  pub in_keys : IsTotalOrder R → IsAntisymmetric R → (m : FiniteMap R X) (q : K) (x : X) → get m q ≡ Some x → In q (keys m)
  in_keys o exact m q x is =
      let there : list_any (eq_by_cmp R q) (keys m) ≡ true =
      sym (is_some-find R q m.entries) ∙ ap is_some (sym (get-entries m q) ∙ is) in
      let found = some_in (eq_by_cmp R q) (keys m) there in
      subst (λ k. In k (keys m)) (sym (exact q found.0 ((Equal-is (R q found.0)).0 found.2))) found.1

  -- and a key that is listed answers
  pub from_keys : IsTotalOrder R → (m : FiniteMap R X) (q : K) → In q (keys m) → (x : X) × (get m q ≡ Some x)
  from_keys o m q i =
      some_at (get m q)
      (ap is_some (get-entries m q) ∙ is_some-find R q m.entries
      ∙ any_of (eq_by_cmp R q) q (keys m) i ((eq_by_cmp_equiv o).refl q))

-- the session that the holder is, where its keys touch the set, as a list
abbrev listed_session : Locks → Keys → Holder → List ℕ
listed_session locks all (Session n) = if touches all (keys_at locks (Session n)) then n ∷ [] else []
listed_session locks all (UnitHolder n) = []

one_session : (b : Bool) (n : ℕ) (f : Holder → Option ℕ) (hs : List Holder) (ns : List ℕ) → filter_map f hs ≡ ns
    → cons_option (cond b (Some n) None) (filter_map f hs) ≡ cond b (n ∷ []) [] ++ ns
one_session true n f hs ns same = ap (λ ms. n ∷ ms) same
one_session false n f hs ns same = same

listed_all : (locks : Locks) (all : Keys) (hs : List Holder)
    → filter_map (touching_session locks all) hs ≡ flat_map (listed_session locks all) hs
listed_all locks all [] = refl
listed_all locks all (Session n ∷ hs) =
    one_session (touches all (keys_at locks (Session n))) n (touching_session locks all) hs
    (flat_map (listed_session locks all) hs) (listed_all locks all hs)
listed_all locks all (UnitHolder n ∷ hs) = listed_all locks all hs

sessions_listed : (locks : Locks) (all : Keys) → touching_sessions locks all ≡ flat_map (listed_session locks all) (keys locks)
sessions_listed locks all = listed_all locks all (keys locks)

-- a transaction with locks that touch the keys
pub record Touched (live : FiniteMap nat_cmp Live) (all : Keys) (s : ℕ) : Type 0 where
  pub trx : Live
  pub is : get live s ≡ Some trx
  pub locked : has_locks trx.status ≡ true
  pub touches : touches all trx.keys ≡ true

touches-nothing : (all : Keys) → touches all empty ≡ false
touches-nothing all = touches-symm all empty ∙ touches-empty all

in_one : (s n : ℕ) (b : Bool) → In s (cond b (n ∷ []) []) → (b ≡ true) × (s ≡ n)
in_one s n true (inl same) = (refl, same)
in_one s n true (inr none) = absurd none
in_one s n false i = absurd i

touched_by : (live : FiniteMap nat_cmp Live) (all : Keys) (s : ℕ) (o : Option Live) → get live s ≡ o
    → touches all (keys_of_live o) ≡ true → Touched live all s
touched_by live all s None is h = absurd (true≢false (sym h ∙ touches-nothing all))
touched_by live all s (Some t) is h = by (has_locks t.status) refl h
  where
    by : (b : Bool) → has_locks t.status ≡ b → touches all (cond b t.keys empty) ≡ true → Touched live all s
    by true locked h = record { trx = t; is = is; locked = locked; touches = h }
    by false locked h = absurd (true≢false (sym h ∙ touches-nothing all))

module _ (live : FiniteMap nat_cmp Live) (units : FiniteMap nat_cmp ApplyUnit) (all : Keys) where
  touched_holder : (s : ℕ) (h : Holder) → In s (listed_session (locks_of live units) all h) → Touched live all s
  touched_holder s (UnitHolder k) i = absurd i
  touched_holder s (Session n) i =
      let one = in_one s n (touches all (keys_at (locks_of live units) (Session n))) i in
      touched_by live all s (get live s) refl
      (ap (touches all) (sym (keys_at-session live units s))
      ∙ ap (λ r. touches all (keys_at (locks_of live units) (Session r))) one.1 ∙ one.0)

  -- each session that is listed has a transaction with locks that touch the keys
  pub touched_from : (s : ℕ) → In s (touching_sessions (locks_of live units) all) → Touched live all s
  touched_from s i =
      let found = from_flat (listed_session (locks_of live units) all) (keys (locks_of live units)) s
      (subst (In s) (sessions_listed (locks_of live units) all) i) in
      touched_holder s found.0 found.2

  holds_some : (o : Option Keys) → touches all (unwrap_or o empty) ≡ true → (x : Keys) × (o ≡ Some x)
  holds_some None h = absurd (true≢false (sym h ∙ touches-nothing all))
  holds_some (Some x) h = (x, refl)

  -- and each such session is listed
  pub touched_in : (s : ℕ) → Touched live all s → In s (touching_sessions (locks_of live units) all)
  touched_in s t =
      let touched : touches all (keys_at (locks_of live units) (Session s)) ≡ true =
      ap (touches all) (keys_at-session live units s ∙ ap keys_of_live t.is ∙ ap (λ b. cond b t.trx.keys empty) t.locked) ∙ t.touches in
      let some = holds_some (get (locks_of live units) (Session s)) touched in
      subst (In s) (sym (sessions_listed (locks_of live units) all))
      (in_flat (listed_session (locks_of live units) all) (Session s) (keys (locks_of live units)) s
      (in_keys holder_total holder_exact (locks_of live units) (Session s) some.0 some.1)
      (subst (λ b. In s (cond b (s ∷ []) [])) (sym touched) (inl refl)))

-- no number stands twice
abbrev pub NoTwice : List ℕ → Type 0
NoTwice [] = Unit {0}
NoTwice (n ∷ ns) = (In n ns → ⊥) × NoTwice ns

module _ (locks : Locks) (all : Keys) where
  session_is : (s : ℕ) (h : Holder) → In s (listed_session locks all h) → Session s ≡ h
  session_is s (UnitHolder k) i = absurd i
  session_is s (Session n) i = ap Session (in_one s n (touches all (keys_at locks (Session n))) i).1

  not_below : (h : Holder) (es : List (Holder × Keys)) → T (below_all holder_cmp h es) → In h (map (λ e. e.0) es) → ⊥
  not_below h [] below i = i
  not_below h (e ∷ es) below (inl same) =
      true≢false (sym (same_holder-itself h) ∙ ap (same_holder h) same ∙ not_tied (holder_cmp h e.0) (first_true _ _ below))
  not_below h (e ∷ es) below (inr later) = not_below h es (second_true _ _ below) later

  not_later : (s : ℕ) (es : List (Holder × Keys)) → T (below_all holder_cmp (Session s) es)
      → In s (flat_map (listed_session locks all) (map (λ e. e.0) es)) → ⊥
  not_later s es below i =
      let found = from_flat (listed_session locks all) (map (λ e. e.0) es) s i in
      not_below (Session s) es below (subst (λ h. In h (map (λ e. e.0) es)) (sym (session_is s found.0 found.2)) found.1)

  one_first : (h : Holder) (es : List (Holder × Keys)) → T (below_all holder_cmp h es)
      → NoTwice (flat_map (listed_session locks all) (map (λ e. e.0) es))
      → NoTwice (listed_session locks all h ++ flat_map (listed_session locks all) (map (λ e. e.0) es))
  one_first (UnitHolder k) es below rest = rest
  one_first (Session n) es below rest = by (touches all (keys_at locks (Session n)))
    where
      by : (b : Bool) → NoTwice (cond b (n ∷ []) [] ++ flat_map (listed_session locks all) (map (λ e. e.0) es))
      by true = (not_later n es below, rest)
      by false = rest

  none_twice : (es : List (Holder × Keys)) → T (is_sorted holder_cmp es) → NoTwice (flat_map (listed_session locks all) (map (λ e. e.0) es))
  none_twice [] sorted = tt
  none_twice (e ∷ es) sorted = one_first e.0 es (first_true _ _ sorted) (none_twice es (second_true _ _ sorted))

  -- no session is listed twice
  pub touching-no_twice : NoTwice (touching_sessions locks all)
  touching-no_twice = subst NoTwice (sym (sessions_listed locks all)) (none_twice locks.entries locks.sorted)

-- ---- locks that do not touch each other

module _ (locks : Locks) where
  -- a holder is taken out
  pub apart-remove : (h : Holder) → AreApart locks → AreApart (remove locks h)
  apart-remove h apart f g other =
      (λ i. touches (keys_at-remove locks h f i) (keys_at-remove locks h g i)) ∙ by (same_holder f h) (same_holder g h)
    where
      by : (b c : Bool) → touches (cond b empty (keys_at locks f)) (cond c empty (keys_at locks g)) ≡ false
      by true c = touches-empty (cond c empty (keys_at locks g))
      by false true = touches-nothing (keys_at locks f)
      by false false = apart f g other

  not_both : (h f g : Holder) → same_holder f h ≡ true → same_holder g h ≡ true → same_holder f g ≡ false → ⊥
  not_both h f g one two other =
      true≢false (sym (same_holder-itself f)
      ∙ ap (same_holder f) (same_holder-exact f h one ∙ sym (same_holder-exact g h two)) ∙ other)

  -- a holder whose keys touch no other one's
  pub apart-insert : (h : Holder) (all : Keys)
      → ((g : Holder) → same_holder h g ≡ false → touches all (keys_at locks g) ≡ false)
      → AreApart locks → AreApart (insert locks h all)
  apart-insert h all free apart f g other =
      (λ i. touches (keys_at-insert locks h all f i) (keys_at-insert locks h all g i)) ∙ by (same_holder f h) (same_holder g h) refl refl
    where
      by : (b c : Bool) → same_holder f h ≡ b → same_holder g h ≡ c
          → touches (cond b all (keys_at locks f)) (cond c all (keys_at locks g)) ≡ false
      by true true one two = absurd (not_both h f g one two other)
      by true false one two = free g (holder_equivalence.symm h g ∙ two)
      by false true one two = touches-symm (keys_at locks f) all ∙ free f (holder_equivalence.symm h f ∙ one)
      by false false one two = apart f g other

  first_passes : {A : Type 0} (test : A → Bool) (x y : A) (ys : List A) (b : Bool) → test y ≡ b
      → cond b (Some y) (first_where test ys) ≡ None → In x (y ∷ ys)
      → (first_where test ys ≡ None → In x ys → test x ≡ false) → test x ≡ false
  first_passes test x y ys true is none i rest = cc
  first_passes test x y ys false is none (inl same) rest = ap test same ∙ is
  first_passes test x y ys false is none (inr later) rest = rest none later

  none_passes : {A : Type 0} (test : A → Bool) (xs : List A) → first_where test xs ≡ None → (x : A) → In x xs → test x ≡ false
  none_passes test [] none x i = absurd i
  none_passes test (y ∷ ys) none x i =
      first_passes test x y ys (test y) refl none i (λ left later. none_passes test ys left x later)

  -- where no other holder is in the way, no other holder's keys touch the new one
  pub free-blocker : (h : Holder) (p : Parts) (k : Kind) → blocker locks h p k ≡ None
      → (g : Holder) → same_holder h g ≡ false → touches (one_key p k) (keys_at locks g) ≡ false
  free-blocker h p k none g other = by (get locks g) refl
    where
      by : (o : Option Keys) → get locks g ≡ o → touches (one_key p k) (keys_at locks g) ≡ false
      by None is = ap (λ o. touches (one_key p k) (unwrap_or o empty)) is ∙ touches-nothing (one_key p k)
      by (Some all) is =
          ap (λ b. not b && touches (one_key p k) (keys_at locks g)) (sym other)
          ∙ none_passes (is_blocked_by locks h p k) (keys locks) none g
          (in_keys holder_total holder_exact locks g all is)

  -- a key that no other holder's keys touch
  pub apart-with_lock : (h : Holder) (p : Parts) (k : Kind) → blocker locks h p k ≡ None
      → AreApart locks → AreApart (with_lock locks h p k)
  apart-with_lock h p k none apart =
      apart-insert h (with_key (keys_at locks h) p k)
      (λ g other. meet-with_key kinds_touch kinds_touch-rising (keys_at locks h) p k (keys_at locks g)
      ∙ (λ i. apart h g other i || free-blocker h p k none g other i))
      apart

  -- whatever is put there, or nothing
  pub apart-set_lock : (h : Holder) (o : Option Keys)
      → ((g : Holder) → same_holder h g ≡ false → touches (unwrap_or o empty) (keys_at locks g) ≡ false)
      → AreApart locks → AreApart (set_lock locks h o)
  apart-set_lock h None free apart = apart-remove h apart
  apart-set_lock h (Some all) free apart = apart-insert h all free apart

-- ---- the live transactions and units of a node stay apart

module _ (live : FiniteMap nat_cmp Live) (units : FiniteMap nat_cmp ApplyUnit) (apart : AreApart (locks_of live units)) where
  -- a transaction ends
  pub apart-ended : (s : ℕ) → AreApart (locks_of (remove live s) units)
  apart-ended s = subst AreApart (sym (locks_of-remove live units s)) (apart-remove (locks_of live units) (Session s) apart)

  -- a transaction takes the place of one with the same lock
  pub apart-replaced : (s : ℕ) (t u : Live) → get live s ≡ Some t → has_locks u.status ≡ has_locks t.status → u.keys ≡ t.keys
      → AreApart (locks_of (insert live s u) units)
  apart-replaced s t u is status all = subst AreApart (sym (locks_of-same live units s t u is status all)) apart

  -- a transaction without locks or keys
  pub apart-unlocked : (s : ℕ) (t : Live) → lock_of_live (Some t) ≡ None → AreApart (locks_of (insert live s t) units)
  apart-unlocked s t none =
      subst AreApart (sym (locks_of-unlocked live units s t none)) (apart-remove (locks_of live units) (Session s) apart)

  -- a statement's key that no other holder's keys touch
  pub apart-extended : (s : ℕ) (t u : Live) (p : Parts) (k : Kind) → get live s ≡ Some t → has_locks t.status ≡ true
      → has_locks u.status ≡ true → u.keys ≡ with_key t.keys p k → blocker (locks_of live units) (Session s) p k ≡ None
      → AreApart (locks_of (insert live s u) units)
  apart-extended s t u p k is old new all none =
      subst AreApart (sym (locks_of-with_lock live units s t u p k is old new all))
      (apart-with_lock (locks_of live units) (Session s) p k none apart)

  -- a unit starts, whose keys touch no other holder's
  pub apart-started : (k : ℕ) (u : ApplyUnit)
      → ((g : Holder) → same_holder (UnitHolder k) g ≡ false → touches u.keys (keys_at (locks_of live units) g) ≡ false)
      → AreApart (locks_of live (insert units k u))
  apart-started k u free =
      subst AreApart (sym (locks_of-insert_unit live units k u))
      (apart-set_lock (locks_of live units) (UnitHolder k) (lock_of_unit (Some u))
      (λ g other. ap (λ all. touches all (keys_at (locks_of live units) g)) (unit_locked (Some u)) ∙ free g other) apart)

  -- a unit with the same keys takes the place of one
  pub apart-finished : (k : ℕ) (u w : ApplyUnit) → get units k ≡ Some u → w.keys ≡ u.keys
      → AreApart (locks_of live (insert units k w))
  apart-finished k u w is all = subst AreApart (sym (locks_of-same_unit live units k u w is all)) apart

  -- a unit is done
  pub apart-unit_done : (k : ℕ) → AreApart (locks_of live (remove units k))
  apart-unit_done k =
      subst AreApart (sym (locks_of-remove_unit live units k)) (apart-remove (locks_of live units) (UnitHolder k) apart)
