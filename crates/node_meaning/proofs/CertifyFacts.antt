-- Certifying the next event keeps the facts of a node.
use Rattle.std.proofs.Common.{◌≡◌, ℕ, zero, suc, ◌+◌, ◌<◌, Bool, true, false, cond, List, [], ◌∷◌, ◌++◌, take, drop, Option, None, Some, refl, ap, sym, ◌∙◌, arith, add-one}
use Rattle.std.specs.Prelude.{◌==◌, ◌||◌, not, nat_le, nat_lt, is_some, slice_get, unwrap_or}
use Rattle.std.specs.List.{filter_map, cons_option}
use Rattle.std.proofs.lemmas.Option.{same_Some}
use Rattle.finite_map.specs.FiniteMap.{len}
use Rattle.wsrep_base.specs.declared.verdict.Verdict.{Verdict}
use Rattle.wsrep_base.specs.declared.verdict.Verdict.TheVariants as verdict
use Rattle.wsrep_base.specs.declared.verdict.Judged.TheVariants as became
use Rattle.key_sets.specs.Keys.{LIMIT}
use Rattle.order_event.specs.declared.event.Event.{Event}
use Rattle.order_event.specs.declared.event.Message.{Message}
use Rattle.write_set.specs.declared.write_set.WriteSet.{WriteSet}
use Rattle.cert_meaning.specs.State.{FoldState, is_member, serial_of, fragments_of, last_seen_of, whole_keys}
use Rattle.cert_meaning.specs.Verdict as rules
use Rattle.cert_meaning.specs.Verdict.{trx_of, is_start, is_end, is_rollback, is_broken, is_out_of_place, conflict_or_held, conflict_of, held_by}
use Rattle.cert_meaning.specs.Fold.{judged_as}
use Rattle.node_meaning.specs.Node.{ApplyUnit}
use Rattle.node_meaning.specs.Steps.{verdict_of}
use Rattle.node_meaning.specs.Facts.{HasUnit, own_body, sent_body, pending_in}

-- ---- a write set that passes
-- the verdict Pass of a write set that is no rollback: it is not out of place
not_broken : (a b c d r k : Bool) (v : Verdict)
    → cond a verdict.Stranger (cond b verdict.Repeat (cond c verdict.Future (cond d verdict.Stale (cond r verdict.Pass (cond k verdict.Broken v))))) ≡ verdict.Pass
    → r ≡ false → k ≡ false
not_broken true b c d r k v is none = cc
not_broken false true c d r k v is none = cc
not_broken false false true d r k v is none = cc
not_broken false false false true r k v is none = cc
not_broken false false false false true k v is none = cc
not_broken false false false false false true v is none = cc
not_broken false false false false false false v is none = refl

pub broken_not : (s : FoldState) (member : ℕ) (w : WriteSet) → rules.verdict s member w ≡ verdict.Pass → is_rollback w ≡ false → is_broken s w ≡ false
unfolding rules.verdict
broken_not s member w is none =
    not_broken (not (is_member s member) || not (w.member == member)) (nat_le w.serial (serial_of s member)) (nat_lt s.number w.last_seen)
    (nat_lt w.last_seen s.floor) (is_rollback w) (is_broken s w) (conflict_or_held (conflict_of s w.last_seen w.keys) (held_by s (trx_of w) w.keys)) is none

first_false : (a b : Bool) → a || b ≡ false → a ≡ false
first_false true b h = h
first_false false b h = refl

pub out_not : (s : FoldState) (w : WriteSet) → is_broken s w ≡ false → is_out_of_place s w ≡ false
unfolding is_broken
out_not s w h =
    first_false (is_out_of_place s w) (nat_lt w.last_seen (last_seen_of (fragments_of s (trx_of w))))
    (first_false (is_out_of_place s w || nat_lt w.last_seen (last_seen_of (fragments_of s (trx_of w))))
    (nat_lt LIMIT (len (whole_keys (fragments_of s (trx_of w)) w.keys))) h)

pub none_there : {A : Type 0} (o : Option (List A)) → is_some o ≡ false → unwrap_or o [] ≡ []
none_there None h = refl
none_there (Some x) h = cc

-- what became of a write set, as a verdict
pub verdict_again : (w : WriteSet) (v : Verdict) → verdict_of (judged_as w v) ≡ v
verdict_again w verdict.Pass = by (is_rollback w) (is_end w)
  where
    by : (b c : Bool) → verdict_of (cond b became.Rollback (cond c became.Commit became.Fragment)) ≡ verdict.Pass
    by true c = refl
    by false true = refl
    by false false = refl
verdict_again w verdict.Malformed = refl
verdict_again w verdict.Stranger = refl
verdict_again w verdict.Repeat = refl
verdict_again w verdict.Future = refl
verdict_again w verdict.Stale = refl
verdict_again w verdict.Broken = refl
verdict_again w (verdict.Conflict commit) = refl
verdict_again w (verdict.Held fragment) = refl

-- ---- one more is certified
pub later_unit : (order : List Event) (p c k : ℕ) (u : ApplyUnit) → HasUnit order p c k u → HasUnit order p (c + 1) k u
later_unit order p c k u h = record {
  above = h.above;
  within = omega (arith, h.within);
  item = h.item;
  is_commit = h.is_commit;
  keys = h.keys;
  clear = h.clear;
}

slice_take : {A : Type 0} (xs : List A) (n k : ℕ) → k < n → slice_get (take n xs) k ≡ slice_get xs k
slice_take xs zero k below = absurd (omega (arith, below))
slice_take [] (suc n) k below = refl
slice_take (x ∷ xs) (suc n) zero below = refl
slice_take (x ∷ xs) (suc n) (suc k) below = slice_take xs n k (omega (arith, below))

pub drop_one : {A : Type 0} (xs : List A) (k : ℕ) (x : A) → slice_get xs k ≡ Some x → drop k xs ≡ x ∷ drop (suc k) xs
drop_one [] k x there = cc
drop_one (y ∷ ys) zero x there = ap (λ z. z ∷ ys) (same_Some y x there)
drop_one (y ∷ ys) (suc k) x there = drop_one ys k x there

cons_front : {A : Type 0} (o : Option A) (xs ys : List A) → cons_option o xs ++ ys ≡ cons_option o (xs ++ ys)
cons_front None xs ys = refl
cons_front (Some x) xs ys = refl

-- the body of the event that is certified is the first that is pending
pub pending_first : (order : List Event) (member certified taken : ℕ) (queue : List Message) (e : Event) → certified < taken
    → slice_get order certified ≡ Some e
    → pending_in order member certified taken queue ≡ cons_option (own_body member e) (pending_in order member (certified + 1) taken queue)
pending_first order member certified taken queue e more there =
    ap (λ es. filter_map (own_body member) es ++ filter_map sent_body queue)
    (drop_one (take taken order) certified e (slice_take order taken certified more ∙ there)
    ∙ ap (λ k. e ∷ drop k (take taken order)) (sym (add-one certified)))
    ∙ cons_front (own_body member e) (filter_map (own_body member) (drop (certified + 1) (take taken order))) (filter_map sent_body queue)
