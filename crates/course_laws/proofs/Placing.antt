-- A write set that goes on where its transaction stands passes, or another came first; and what a
-- live transaction sends next goes on there.
use Rattle.std.proofs.Common.{◌≡◌, ℕ, ◌≤◌, ◌<◌, Bool, true, false, cond, List, [], ◌∷◌, ◌++◌, length, Option, Some, None, refl, ap, sym, subst, ◌∙◌, arith, eq-eqb, inl, inr}
use Rattle.std.specs.Prelude.{◌==◌, ◌||◌, not, nat_le, nat_lt, is_some}
use Rattle.std.specs.Option.{option_map_or}
use Rattle.std.proofs.lemmas.Bool.{cases_eq, cond_both, or_from, not_from_true, le-ltb, lt-leb}
use Rattle.finite_map.specs.FiniteMap.{get, len}
use Rattle.wsrep_base.specs.declared.verdict.Verdict.{Verdict}
use Rattle.wsrep_base.specs.declared.verdict.Verdict.TheVariants as verdict
use Rattle.key_sets.specs.Keys.{Keys, LIMIT}
use Rattle.write_set.specs.declared.write_set.WriteSet.{WriteSet}
use Rattle.cert_meaning.specs.declared.members.Standing.{Standing}
use Rattle.cert_meaning.specs.State.{FoldState, is_member, fragments_of, last_seen_of, whole_keys}
use Rattle.cert_meaning.specs.Verdict as rules
use Rattle.cert_meaning.specs.Verdict.{trx_of, is_rollback, is_broken, is_start, is_out_of_place, conflict_or_held, conflict_of, held_by}
use Rattle.client_trx.specs.Live.{Live, gathered, commit_flags, fragment_flags}
use Rattle.node_meaning.specs.Facts.{sets_of, Gathered, IsUndecided}
use Rattle.node_laws.proofs.SetLists.{all_push, of-first, unequal}
use Rattle.course_laws.specs.Laws.{IsByConflict}
use Rattle.course_laws.specs.Ordered.{Rises, IsPlaced, OnlyEnds, AllEnd, HasSent}

-- ---- its verdict
-- a write set of a member that goes on from what the member sent
pub record IsNext (s : FoldState) (m : ℕ) (w : WriteSet) (st : Standing) : Type 0 where
  pub is_member : get s.members m ≡ Some st
  pub own : w.member ≡ m
  pub serial : st.serial < w.serial
  pub past : w.last_seen ≤ s.number
  pub fresh : s.floor ≤ w.last_seen
  pub placed : IsPlaced s w

tested : (conflict held : Option ℕ) → IsByConflict (conflict_or_held conflict held)
tested (Some commit) held = tt
tested None (Some fragment) = tt
tested None None = tt

pub next_decided : (s : FoldState) (m : ℕ) (w : WriteSet) (st : Standing) → IsNext s m w st
    → IsByConflict (rules.verdict s m w)
unfolding rules.verdict
next_decided s m w st h =
    let named = or_from (not (is_member s m)) (not (w.member == m))
    (not_from_true _ (ap is_some h.is_member)) (not_from_true _ (eq-eqb w.member m h.own)) in
    let above = ap (λ o. nat_le w.serial (option_map_or (λ (x : Standing). x.serial) o 0))
    h.is_member ∙ lt-leb w.serial st.serial h.serial in
    rw (named, above, le-ltb s.number w.last_seen h.past, le-ltb w.last_seen s.floor h.fresh)
    (cond_both (is_rollback w) _ _ IsByConflict (λ _. tt) (λ stays. rw (h.placed stays)
    (tested (conflict_of s w.last_seen w.keys) (held_by s (trx_of w) w.keys))))

-- such a verdict is none of the others
pub conflict_not : (v : Verdict) → IsByConflict v → IsUndecided v → ⊥
conflict_not verdict.Pass d u = u
conflict_not (verdict.Conflict v) d u = u
conflict_not (verdict.Held v) d u = u
conflict_not _ d u = d

-- ---- what is sent next
in_place : (first : Bool) → cond first (not first) (not (not first) || false) ≡ false
in_place true = refl
in_place false = refl

module _ (s : FoldState) (t : Live) (serial p : ℕ) (h : HasSent s p t)
    (g : Gathered s t t.new_keys t.new_ops t.sent) (few : len t.keys ≤ LIMIT) where
  -- a write set of what was gathered is not broken
  placed_with : (flags : ℕ) → is_start (gathered t serial p flags) ≡ (t.sent == 0)
      → is_broken s (gathered t serial p flags) ≡ false
  unfolding is_broken
  placed_with flags start =
      let w = gathered t serial p flags in
      let keys = whole_keys (fragments_of s t.trx) t.new_keys in
      or_from _ (nat_lt LIMIT (len keys))
      (or_from (is_out_of_place s w) (nat_lt p (last_seen_of (fragments_of s t.trx)))
      (rw (start, h.opened, eq-eqb t.sent (length (fragments_of s t.trx)) (sym h.count))
      (in_place (t.sent == 0)))
      (le-ltb p (last_seen_of (fragments_of s t.trx)) h.seen))
      (le-ltb LIMIT (len keys) (subst (λ (ks : Keys). len ks ≤ LIMIT) ((g.whole h.count).0) few))

  flagged : (b : Bool) (x y : ℕ) → (x == 1 || x == 3) ≡ true → (y == 1 || y == 3) ≡ false
      → (cond b x y == 1 || cond b x y == 3) ≡ b
  flagged true x y starts goes_on = starts
  flagged false x y starts goes_on = goes_on

  pub fragment_placed : is_broken s (gathered t serial p (fragment_flags t.sent)) ≡ false
  fragment_placed = placed_with (fragment_flags t.sent) (flagged (t.sent == 0) 1 0 refl refl)

  pub commit_placed : is_broken s (gathered t serial p (commit_flags t.sent)) ≡ false
  commit_placed = placed_with (commit_flags t.sent) (flagged (t.sent == 0) 3 2 refl refl)

-- ---- one more write set at the end
all_pushed : (v w : WriteSet) (sets : List WriteSet) → OnlyEnds v sets
    → (w.begin ≡ v.begin → is_rollback w ≡ true) → OnlyEnds v (sets ++ w ∷ [])
all_pushed v w sets = all_push (λ (u : WriteSet). u.begin ≡ v.begin → is_rollback u ≡ true) sets w

-- where none of its transaction is there, it may follow
pub ends_push : (sets : List WriteSet) (w : WriteSet) → sets_of w.begin sets ≡ [] → AllEnd sets
    → AllEnd (sets ++ w ∷ [])
ends_push [] w none ends = (tt, tt)
ends_push (v ∷ sets) w none ends =
    elim (cases_eq v.begin w.begin) [
      | inl same ↦
          let found = of-first w.begin v sets true (eq-eqb v.begin w.begin same) in
          absurd cc
      | inr other ↦ (
        all_pushed v w sets ends.0 (λ same. absurd (other (sym same))),
        ends_push sets w
            (sym (of-first w.begin v sets false (unequal v.begin w.begin other)) ∙ none) ends.1,
      )
    ]

-- a rollback may follow always
pub ends_rollback : (sets : List WriteSet) (w : WriteSet) → is_rollback w ≡ true → AllEnd sets
    → AllEnd (sets ++ w ∷ [])
ends_rollback [] w back ends = (tt, tt)
ends_rollback (v ∷ sets) w back ends =
    (all_pushed v w sets ends.0 (λ same. back), ends_rollback sets w back ends.1)

-- ---- numbers that rise
-- what is seen now is not below what was
pub rises_push : (low : ℕ) (ks : List ℕ) (high k : ℕ) → high ≤ k → Rises low ks high
    → Rises low (ks ++ k ∷ []) k
rises_push low [] high k above rises = (omega (arith, rises, above), omega arith)
rises_push low (j ∷ ks) high k above rises = (rises.0, rises_push j ks high k above rises.1)

pub rises_lower : (low k : ℕ) (ks : List ℕ) (high : ℕ) → low ≤ k → Rises k ks high
    → Rises low ks high
rises_lower low k [] high below rises = omega (arith, below, rises)
rises_lower low k (j ∷ ks) high below rises = (omega (arith, below, rises.0), rises.1)

pub rises_higher : (low : ℕ) (ks : List ℕ) (high top : ℕ) → high ≤ top → Rises low ks high
    → Rises low ks top
rises_higher low [] high top above rises = omega (arith, rises, above)
rises_higher low (k ∷ ks) high top above rises = (rises.0, rises_higher k ks high top above rises.1)
