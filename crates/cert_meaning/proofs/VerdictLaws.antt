-- Which verdicts a write set can have.
use Rattle.std.proofs.Common.{◌≡◌, ℕ, ◌≤◌, Bool, true, false, Option, None, Some, refl, ap, sym, subst, ◌∙◌}
use Rattle.std.specs.Prelude.{◌==◌, not, ◌||◌, nat_le, nat_lt, cond}
use Rattle.wsrep_base.specs.declared.verdict.Verdict.{Verdict}
use Rattle.wsrep_base.specs.declared.verdict.Verdict.TheVariants.{Pass, Malformed, Stranger, Repeat, Future, Stale, Broken, Conflict, Held}
use Rattle.std.proofs.lemmas.Bool.{ltb-false}
use Rattle.finite_map.specs.FiniteMap.{len}
use Rattle.key_sets.specs.Keys.{LIMIT}
use Rattle.wsrep_base.specs.declared.verdict.Judged.{Judged}
use Rattle.wsrep_base.specs.declared.verdict.Judged.TheVariants as became
use Rattle.cert_meaning.specs.Fold.{Effect, Same, Closes, Adds, Commits, judged_as, effect_of}
use Rattle.write_set.specs.declared.write_set.WriteSet.{WriteSet}
use Rattle.cert_meaning.specs.State.{FoldState, is_member, serial_of, fragments_of, last_seen_of, whole_keys}
use Rattle.cert_meaning.specs.Verdict.{verdict, is_rollback, is_out_of_place, is_broken, conflict_of, held_by, conflict_or_held, trx_of}

-- a verdict that a write set made by the rules can have: it passes, or another came first
abbrev pub IsDecided : Verdict → Type 0
IsDecided Pass = Unit {0}
IsDecided Malformed = ⊥
IsDecided Stranger = ⊥
IsDecided Repeat = ⊥
IsDecided Future = ⊥
IsDecided Stale = ⊥
IsDecided Broken = ⊥
IsDecided (Conflict commit) = Unit {0}
IsDecided (Held fragment) = Unit {0}

pub decided : (conflict held : Option ℕ) → IsDecided (conflict_or_held conflict held)
decided (Some commit) held = tt
decided None (Some fragment) = tt
decided None None = tt

-- a write set that is made by the rules: none of the first verdicts is its own
pub record IsSound (s : FoldState) (member : ℕ) (w : WriteSet) : Type 0 where
  pub member_is : is_member s member ≡ true
  pub own : w.member == member ≡ true
  pub serial : nat_le w.serial (serial_of s member) ≡ false
  pub past : nat_lt s.number w.last_seen ≡ false
  pub fresh : nat_lt w.last_seen s.floor ≡ false
  pub placed : is_broken s w ≡ false

first_line : {A : Type 0} (b : Bool) (x y : A) → b ≡ false → cond b x y ≡ y
first_line b x y e = ap (λ c. cond c x y) e

stranger_not : (m o : Bool) → m ≡ true → o ≡ true → (not m || not o) ≡ false
stranger_not m o is own = ap (λ b. not b || not o) is ∙ ap not own

-- such a write set passes as a rollback, or is tested against commits and fragments
pub verdict_of_sound : (s : FoldState) (member : ℕ) (w : WriteSet) → IsSound s member w
    → verdict s member w
    ≡ cond (is_rollback w) Pass (conflict_or_held (conflict_of s w.last_seen w.keys) (held_by s (trx_of w) w.keys))
unfolding verdict
verdict_of_sound s member w sound =
    first_line (not (is_member s member) || not (w.member == member)) _ _ (stranger_not _ _ sound.member_is sound.own)
    ∙ first_line (nat_le w.serial (serial_of s member)) _ _ sound.serial
    ∙ first_line (nat_lt s.number w.last_seen) _ _ sound.past
    ∙ first_line (nat_lt w.last_seen s.floor) _ _ sound.fresh
    ∙ ap (cond (is_rollback w) Pass) (first_line (is_broken s w) _ _ sound.placed)

decided_either : (b : Bool) (verdict : Verdict) → IsDecided verdict → IsDecided (cond b Pass verdict)
decided_either true verdict h = tt
decided_either false verdict h = h

-- such a write set passes, or another came first
pub sound-decided : (s : FoldState) (member : ℕ) (w : WriteSet) → IsSound s member w → IsDecided (verdict s member w)
sound-decided s member w sound =
    subst IsDecided (sym (verdict_of_sound s member w sound))
    (decided_either (is_rollback w) _ (decided (conflict_of s w.last_seen w.keys) (held_by s (trx_of w) w.keys)))

-- ---- what a write set that passes has
later : (b : Bool) (first rest : Verdict) → (first ≡ Pass → ⊥) → cond b first rest ≡ Pass → (b ≡ false) × (rest ≡ Pass)
later true first rest fails is = absurd (fails is)
later false first rest fails is = (refl, is)

last_false : (a b c : Bool) → a || b || c ≡ false → c ≡ false
last_false true b c is = cc
last_false false true c is = cc
last_false false false c is = is

none_came : (conflict held : Option ℕ) → conflict_or_held conflict held ≡ Pass → (conflict ≡ None) × (held ≡ None)
none_came (Some commit) held is = cc
none_came None (Some fragment) is = cc
none_came None None is = (refl, refl)

-- a write set that passes, and is no rollback
pub record HasPassed (s : FoldState) (w : WriteSet) : Type 0 where
  pub seen : w.last_seen ≤ s.number
  pub fits : len (whole_keys (fragments_of s (trx_of w)) w.keys) ≤ LIMIT
  pub clear : conflict_of s w.last_seen w.keys ≡ None
  pub apart : held_by s (trx_of w) w.keys ≡ None

has_passed : (s : FoldState) (member : ℕ) (w : WriteSet) → verdict s member w ≡ Pass → is_rollback w ≡ false → HasPassed s w
unfolding verdict is_broken
has_passed s member w passes stays =
    let one = later (not (is_member s member) || not (w.member == member)) Stranger _ (λ is. cc) passes in
    let two = later (nat_le w.serial (serial_of s member)) Repeat _ (λ is. cc) one.1 in
    let three = later (nat_lt s.number w.last_seen) Future _ (λ is. cc) two.1 in
    let four = later (nat_lt w.last_seen s.floor) Stale _ (λ is. cc) three.1 in
    let five : cond (is_broken s w) Broken (conflict_or_held (conflict_of s w.last_seen w.keys) (held_by s (trx_of w) w.keys)) ≡ Pass =
    sym (first_line (is_rollback w) Pass _ stays) ∙ four.1 in
    let six = later (is_broken s w) Broken _ (λ is. cc) five in
    let none = none_came _ _ six.1 in
    record {
      seen = ltb-false s.number w.last_seen three.0;
      fits = ltb-false LIMIT (len (whole_keys (fragments_of s (trx_of w)) w.keys))
          (last_false (is_out_of_place s w) (nat_lt w.last_seen (last_seen_of (fragments_of s (trx_of w)))) _ six.0);
      clear = none.0;
      apart = none.1;
    }

-- it adds a fragment to its transaction, or commits it
abbrev pub IsTaken : Effect → Type 0
IsTaken Same = ⊥
IsTaken Closes = ⊥
IsTaken Adds = Unit {0}
IsTaken Commits = Unit {0}

no_rollback : (b : Bool) (rest : Judged) → IsTaken (effect_of (cond b became.Rollback rest)) → b ≡ false
no_rollback true rest taken = absurd taken
no_rollback false rest taken = refl

taken_passes : (w : WriteSet) (verdict : Verdict) → IsTaken (effect_of (judged_as w verdict)) → (verdict ≡ Pass) × (is_rollback w ≡ false)
taken_passes w Pass taken = (refl, no_rollback (is_rollback w) _ taken)
taken_passes w Malformed taken = absurd taken
taken_passes w Stranger taken = absurd taken
taken_passes w Repeat taken = absurd taken
taken_passes w Future taken = absurd taken
taken_passes w Stale taken = absurd taken
taken_passes w Broken taken = absurd taken
taken_passes w (Conflict commit) taken = absurd taken
taken_passes w (Held fragment) taken = absurd taken

-- a write set that adds a fragment or commits has passed
pub taken-passed : (s : FoldState) (member : ℕ) (w : WriteSet) → IsTaken (effect_of (judged_as w (verdict s member w))) → HasPassed s w
taken-passed s member w taken =
    let passes = taken_passes w (verdict s member w) taken in has_passed s member w passes.0 passes.1

-- a commit that passes has no more keys than a set can have
pub commit_fits : (s : FoldState) (member : ℕ) (w : WriteSet) → judged_as w (verdict s member w) ≡ became.Commit
    → len (whole_keys (fragments_of s (trx_of w)) w.keys) ≤ LIMIT
commit_fits s member w commits =
    (taken-passed s member w (subst (λ (j : Judged). IsTaken (effect_of j)) (sym commits) tt)).fits

-- nor has a fragment that passes, with those before it
pub fragment_fits : (s : FoldState) (member : ℕ) (w : WriteSet) → judged_as w (verdict s member w) ≡ became.Fragment
    → len (whole_keys (fragments_of s (trx_of w)) w.keys) ≤ LIMIT
fragment_fits s member w adds =
    (taken-passed s member w (subst (λ (j : Judged). IsTaken (effect_of j)) (sym adds) tt)).fits
