-- Tables in which each holder has the same keys: edits keep it, and what they answer is the same.
use Rattle.std.proofs.Common.{◌≡◌, ◌+◌, ◌<◌, Bool, true, cond, List, [], ◌∷◌, map, length, take, get_or, Option, refl, sym, ap, ◌∙◌, arith}
use Rattle.std.specs.Prelude.{ℕ, ◌&&◌, not, is_some}
use Rattle.std.specs.Option.{unwrap_or}
use Rattle.std.specs.List.{filter_map}
use Rattle.std.specs.FinMap.Entries.{where_key}
use Rattle.std.proofs.lemmas.List.Sums.{fold_more}
use Rattle.finite_map.specs.FiniteMap.{empty, get, insert, remove, keys, retain_keys, get-retain_keys, same_map}
use Rattle.key_sets.specs.declared.kind.Kind.{Kind}
use Rattle.key_sets.specs.declared.parts.Parts.{Parts}
use Rattle.key_sets.specs.Keys.{Keys, touches, with_key, with_keys, one_key}
use Rattle.key_sets.proofs.KeyLaws.{touches-symm, touches-empty}
use Rattle.row_locks.specs.declared.holder.Holder.{Holder}
use Rattle.row_locks.specs.Holders.{holder_cmp, same_holder}
use Rattle.row_locks.specs.Locks.{Locks, keys_at, first_where, is_blocked_by, blocker, touching_session, touching_sessions, with_lock}
use Rattle.row_locks.specs.Alike.{HoldAlike, with_held}
use Rattle.row_locks.proofs.HolderLemmas.{holder_total, holder_exact, same_holder-exact, same_holder-itself}
use Rattle.row_locks.proofs.LockLemmas.{keys_at-insert, keys_at-remove}

-- ---- after edits
pub alike_between : (a b c d : Locks) → a ≡ b → HoldAlike b c → c ≡ d → HoldAlike a d
alike_between a b c d before alike after h =
    ap (λ (m : Locks). keys_at m h) before ∙ alike h ∙ ap (λ (m : Locks). keys_at m h) after

pub alike-insert : (a b : Locks) (h : Holder) (x y : Keys) → x ≡ y → HoldAlike a b
    → HoldAlike (insert a h x) (insert b h y)
alike-insert a b h x y same alike q =
    keys_at-insert a h x q ∙ (λ i. cond (same_holder q h) (same i) (alike q i))
    ∙ sym (keys_at-insert b h y q)

pub alike-remove : (a b : Locks) (h : Holder) → HoldAlike a b → HoldAlike (remove a h) (remove b h)
alike-remove a b h alike q =
    keys_at-remove a h q ∙ ap (cond (same_holder q h) empty) (alike q) ∙ sym (keys_at-remove b h q)

pub alike-with_lock : (a b : Locks) (h : Holder) (p : Parts) (k : Kind) → HoldAlike a b
    → HoldAlike (with_lock a h p k) (with_lock b h p k)
alike-with_lock a b h p k alike =
    alike-insert a b h _ _ (ap (λ m. with_key m p k) (alike h)) alike

-- ---- all keys of a list, one after another
pub held_none : (locks : Locks) (h : Holder) → HoldAlike locks (with_held locks h [])
unfolding with_keys
held_none locks h q =
    let same = same_holder-exact q h in
    grind (arith, keys_at-insert locks h (keys_at locks h) q, same)

pub held_more : (old now : Locks) (h : Holder) (es : List (Parts × Kind)) (i : ℕ) (d : Parts × Kind)
    → i < length es → HoldAlike now (with_held old h (take i es))
    → HoldAlike (with_lock now h (get_or es i d).0 (get_or es i d).1)
    (with_held old h (take (i + 1) es))
unfolding with_keys
held_more old now h es i d below alike q =
    let e = get_or es i d in
    let so_far = with_keys (keys_at old h) (take i es) in
    let step = λ (set : Keys) (f : Parts × Kind). with_key set f.0 f.1 in
    let more = fold_more step (keys_at old h) es i d below in
    let at = keys_at-insert old h so_far q in
    let own = keys_at-insert old h so_far h in
    let new = keys_at-insert now h (with_key (keys_at now h) e.0 e.1) q in
    let all = keys_at-insert old h (with_keys (keys_at old h) (take (i + 1) es)) q in
    grind (arith, at, own, new, all, more, alike q, alike h, same_holder-itself h)

-- ---- who passes a test that no holder without keys passes
module _ {X : Type 0} (test : Holder → Bool) where
  first-kept : (es : List (Holder × X))
      → first_where test (map (λ e. e.0) (where_key holder_cmp test es))
      ≡ first_where test (map (λ e. e.0) es)
  first-kept [] = refl
  first-kept (e ∷ es) = grind (arith, first-kept es)

  some-kept : (f : Holder → Option ℕ) → ((h : Holder) → test h ≡ is_some (f h))
      → (es : List (Holder × X))
      → filter_map f (map (λ e. e.0) (where_key holder_cmp test es))
      ≡ filter_map f (map (λ e. e.0) es)
  some-kept f is [] = refl
  some-kept f is (e ∷ es) = grind (arith, some-kept f is es, is e.0)

same_keys : (o p : Option Keys) → unwrap_or o empty ≡ unwrap_or p empty
    → (unwrap_or o empty ≡ empty → ⊥) → o ≡ p
same_keys o p same some = grind arith

-- where each holder that passes has keys, and the same in both
module _ (a b : Locks) (test : Holder → Bool)
    (alike : (h : Holder) → test h ≡ true → keys_at a h ≡ keys_at b h)
    (some : (h : Holder) → test h ≡ true → keys_at a h ≡ empty → ⊥) where
  same_kept : retain_keys a test ≡ retain_keys b test
  same_kept =
      same_map holder_total holder_exact _ _ (λ q.
      let same = λ (is : test q ≡ true). same_keys (get a q) (get b q) (alike q is) (some q is) in
      let left = get-retain_keys a test q (λ x tie. ap test (sym (holder_exact q x tie))) in
      let right = get-retain_keys b test q (λ x tie. ap test (sym (holder_exact q x tie))) in
      grind (arith, same, left, right))

  pub first_alike : first_where test (keys a) ≡ first_where test (keys b)
  unfolding retain_keys
  first_alike =
      sym (first-kept test a.entries) ∙ ap (λ (m : Locks). first_where test (keys m)) same_kept
      ∙ first-kept test b.entries

  pub some_alike : (f : Holder → Option ℕ) → ((h : Holder) → test h ≡ is_some (f h))
      → filter_map f (keys a) ≡ filter_map f (keys b)
  unfolding retain_keys
  some_alike f is =
      sym (some-kept test f is a.entries) ∙ ap (λ (m : Locks). filter_map f (keys m)) same_kept
      ∙ some-kept test f is b.entries

not_empty : (apart : Bool) (all keys : Keys) → apart && touches all keys ≡ true → keys ≡ empty → ⊥
not_empty apart all keys is none =
    grind (arith, touches-symm all empty, touches-empty all)

-- a session whose keys touch has keys
pub session_touched : (locks : Locks) (all : Keys) (h : Holder)
    → is_some (touching_session locks all h) ≡ true → touches all (keys_at locks h) ≡ true
session_touched locks all h is = grind arith

pub has_keys : (locks : Locks) (all : Keys) (h : Holder)
    → is_some (touching_session locks all h) ≡ true → keys_at locks h ≡ empty → ⊥
has_keys locks all h is = not_empty true all (keys_at locks h) (session_touched locks all h is)

module _ (a b : Locks) (alike : HoldAlike a b) where
  -- the same holder stands in the way
  pub block_alike : (h : Holder) (p : Parts) (k : Kind) → blocker a h p k ≡ blocker b h p k
  block_alike h p k =
      first_alike a b (is_blocked_by a h p k) (λ g _. alike g)
      (λ g is. not_empty (not (same_holder h g)) (one_key p k) (keys_at a g) is)
      ∙ (λ i.
      first_where (λ g. not (same_holder h g) && touches (one_key p k) (alike g i)) (keys b))

  session_alike : (all : Keys) (h : Holder) → touching_session a all h ≡ touching_session b all h
  session_alike all h = grind (arith, alike h)

  -- the same sessions are touched
  pub touch_alike : (all : Keys) → touching_sessions a all ≡ touching_sessions b all
  touch_alike all =
      some_alike a b (λ g. is_some (touching_session a all g)) (λ g _. alike g) (has_keys a all)
      (touching_session a all) (λ h. refl)
      ∙ (λ i. filter_map (λ h. session_alike all h i) (keys b))
