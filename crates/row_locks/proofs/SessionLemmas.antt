-- The sessions that a key set touches, by a look at each session up to the last one with keys.
use Rattle.std.proofs.Common.{◌≡◌, ℕ, zero, suc, ◌+◌, ◌<◌, ◌≤◌, true, false, ◌&&◌, cond, List, [], ◌∷◌, ◌++◌, map, Option, None, Some, refl, sym, ap, subst, ◌∙◌, true≢false, arith}
use Rattle.std.specs.Prelude.{T, is_some}
use Rattle.std.specs.Option.{option_to_list, unwrap_or}
use Rattle.std.specs.List.{filter_map, cons_option, range_with_len}
use Rattle.std.specs.Map.{lookup}
use Rattle.std.specs.FinMap.Entries.{find, is_sorted, below_all}
use Rattle.std.proofs.lemmas.Bool.{false_from_ne_true}
use Rattle.std.proofs.lemmas.Bool.Decides.{nat_tests}
use Rattle.std.proofs.lemmas.List.Elements.{filter_map-append}
use Rattle.std.proofs.lemmas.List.FromFn.{map-range_with_len_more}
use Rattle.finite_map.specs.FiniteMap.{empty, get-entries}
use Rattle.finite_map.specs.Links.{Linked, none_newest}
use Rattle.key_sets.specs.declared.kind.Kind.{Kind}
use Rattle.key_sets.specs.declared.parts.Parts.{Parts}
use Rattle.key_sets.specs.Keys.{Keys, touches, one_key}
use Rattle.key_sets.proofs.Apart.{get_from_in}
use Rattle.key_sets.proofs.KeyLaws.{touches-symm}
use Rattle.key_sets.proofs.ListLemmas.{some_in}
use Rattle.row_locks.specs.declared.holder.Holder.{Holder}
use Rattle.row_locks.specs.declared.holder.Holder.TheVariants.{Session, Unit}
use Rattle.row_locks.specs.declared.lock_table.Lock.{Lock}
use Rattle.row_locks.specs.Holders.{holder_cmp}
use Rattle.row_locks.specs.LockKeys.{lock_eq, key_of}
use Rattle.row_locks.specs.Locks.{Locks, keys_at, touching_session, touching_sessions}
use Rattle.row_locks.specs.LockTable.{Entries, links, locks_in, touched_session, touches_some}
use Rattle.row_locks.proofs.AlikeLaws.{has_keys, session_touched, some_alike}
use Rattle.row_locks.proofs.LinkLemmas.{no_link}
use Rattle.row_locks.proofs.TableLemmas.{get-locks_in, kind_in}
use Rattle.row_locks.proofs.TouchLemmas.{touches-any}

some_lock : (o : Option Lock) (k : Kind) → kind_in o ≡ Some k → is_some o ≡ true
some_lock o k is = grind arith

-- a holder with a key that is touched has a lock
pub touch-lock : (es : Entries) (g : Holder) (all : Keys)
    → touches all (keys_at (locks_in es) g) ≡ true
    → (p : Parts) × (is_some (lookup (lock_eq (key_of g p)) es) ≡ true)
touch-lock es g all is =
    let own = keys_at (locks_in es) g in
    let e = some_in (λ (f : Parts × Kind). touches (one_key f.0 f.1) all) own.entries
    (sym (touches-any own all) ∙ touches-symm own all ∙ is) in
    (e.0.0, some_lock _ e.0.1 (sym (get-locks_in es g e.0.0) ∙ get_from_in own e.0.0 e.0.1 e.1))

-- without a newest key no key of the session is touched
pub none-touched : (es : Entries) (n : ℕ) (newest : Option Parts)
    → Linked (links es (Session n)) newest → is_some newest ≡ false
    → (list : List (Parts × Kind)) → touches_some (locks_in es) list (Session n) ≡ false
none-touched es n (Some p) linked none list = cc
none-touched es n None linked none list =
    false_from_ne_true _ (λ is.
    let key = some_in (λ (e : Parts × Kind).
    touches (one_key e.0 e.1) (keys_at (locks_in es) (Session n))) list is in
    let lock = touch-lock es (Session n) (one_key key.0.0 key.0.1) key.2 in
    let gone = no_link _ (none_newest (links es (Session n)) linked lock.0) in
    true≢false (sym lock.1 ∙ ap is_some gone))

-- one more session
pub touched-more : (locks : Locks) (list : List (Parts × Kind)) (i : ℕ) (before after : List ℕ)
    → before ≡ filter_map (touched_session locks list) (map Session (range_with_len 0 i))
    → after ≡ before ++ option_to_list (touched_session locks list (Session i))
    → after ≡ filter_map (touched_session locks list) (map Session (range_with_len 0 (i + 1)))
touched-more locks list i before after was is =
    let touched = touched_session locks list in
    is ∙ (λ j. was j ++ one (touched (Session i)) j)
    ∙ sym (filter_map-append touched (map Session (range_with_len 0 i)) (Session i ∷ []))
    ∙ ap (filter_map touched) (sym (map-range_with_len_more Session 0 i i (omega arith)))
  where
    one : (o : Option ℕ) → option_to_list o ≡ cons_option o []
    one o = grind arith

-- ---- all sessions up to the last
module _ (locks : Locks) where
  -- each with its keys
  abbrev sessions : ℕ → ℕ → List (Holder × Keys)
  sessions a n = map (λ m. (Session m, keys_at locks (Session m))) (range_with_len a n)

  first-names : (a n : ℕ)
      → map (λ (e : Holder × Keys). e.0) (sessions a n) ≡ map Session (range_with_len a n)
  first-names a zero = refl
  first-names a (suc n) = ap (λ hs. Session a ∷ hs) (first-names (a + 1) n)

  below-sessions : (a b n : ℕ) → a < b → below_all holder_cmp (Session a) (sessions b n) ≡ true
  below-sessions a b zero less = refl
  below-sessions a b (suc n) less = grind (arith, nat_tests, below-sessions a (b + 1) n)

  sorted-sessions : (a n : ℕ) → is_sorted holder_cmp (sessions a n) ≡ true
  sorted-sessions a zero = refl
  sorted-sessions a (suc n) =
      λ i. below-sessions a (a + 1) n (omega arith) i && sorted-sessions (a + 1) n i

  find-session : (m a n : ℕ) → a ≤ m → m < a + n
      → find holder_cmp (Session m) (sessions a n) ≡ Some (keys_at locks (Session m))
  find-session m a zero from below = let no : ⊥ = omega (arith, from, below) in absurd no
  find-session m a (suc n) from below = grind (arith, nat_tests, find-session m (a + 1) n)

module _ (es : Entries) (last : ℕ) (all : Keys)
    (within : (n : ℕ) (p : Parts) → is_some (lookup (lock_eq (key_of (Session n) p)) es) ≡ true
    → n ≤ last) where
  abbrev locks : Locks
  locks = locks_in es

  -- all sessions up to the last, with their keys
  abbrev listed : Locks
  listed = record {
    entries = sessions locks 0 (last + 1);
    sorted = subst T (sym (sorted-sessions locks 0 (last + 1))) tt;
  }

  alike : (h : Holder) → is_some (touching_session locks all h) ≡ true
      → keys_at locks h ≡ keys_at listed h
  alike (Session n) is =
      let lock = touch-lock es (Session n) all (session_touched locks all (Session n) is) in
      let small = within n lock.0 lock.1 in
      sym (ap (λ o. unwrap_or o empty) (get-entries listed (Session n)
      ∙ find-session locks n 0 (last + 1) (omega arith) (omega (arith, small))))
  alike (Unit n) is = cc

  told : (h : Holder) → touched_session locks all.entries h ≡ touching_session locks all h
  told (Session n) =
      ap (λ b. cond b (Some n) None) (sym (touches-any all (keys_at locks (Session n))))
  told (Unit n) = refl

  -- all that are touched are found
  pub touched-all : filter_map (touched_session locks all.entries)
      (map Session (range_with_len 0 (last + 1))) ≡ touching_sessions locks all
  touched-all =
      (λ i. filter_map (λ h. told h i) (map Session (range_with_len 0 (last + 1))))
      ∙ ap (filter_map (touching_session locks all)) (sym (first-names locks 0 (last + 1)))
      ∙ sym (some_alike locks listed (λ h. is_some (touching_session locks all h)) alike
      (has_keys locks all) (touching_session locks all) (λ h. refl))
