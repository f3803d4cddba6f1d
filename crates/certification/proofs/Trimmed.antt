-- Over a trimmed state each write set has the same verdict, and the next state trimmed is the same.
use Rattle.std.proofs.Common.{◌≡◌, ℕ, zero, suc, ◌+◌, ◌-◌, ◌≤◌, Bool, true, false, List, [], ◌∷◌, ◌++◌, length, take, drop, Some, refl, ap, sym, subst, ◌∙◌, arith}
use Rattle.std.specs.Prelude.{nat_le, slice_get}
use Rattle.std.proofs.lemmas.Bool.{leb-true, leb-false}
use Rattle.std.proofs.lemmas.List.{length-take-le, take-append-drop}
use Rattle.std.proofs.lemmas.Option.{slice_get_past}
use Rattle.order_event.specs.declared.event.Event.{Event}
use Rattle.cert_meaning.specs.State.{FoldState}
use Rattle.cert_meaning.specs.Parts.{trim}
use Rattle.cert_meaning.specs.Fold.{after, after_next, state_at}
use Rattle.cert_meaning.proofs.FoldLaws.{state_at-append, state_at-next}
use Rattle.cert_meaning.proofs.FloorLaws.{floor_rises}
use Rattle.certification.specs.Laws.{SameVerdictTrimmed, TrimmedGoesOn}
use Rattle.certification.proofs.Needed.{verdict_same, after_same, trim-purged}

pub same_verdict : SameVerdictTrimmed
same_verdict s member w = verdict_same s.floor s (omega arith) member w

-- ---- the floor never falls at one more event
-- past its end an order's state stays
stays : (order : List Event) (more : ℕ) → state_at order (length order + more) ≡ state_at order (length order)
unfolding state_at
stays order zero = ap (state_at order) (let same : length order + 0 ≡ length order = omega arith in same)
stays order (suc more) =
    ap (state_at order) (let same : length order + suc more ≡ suc (length order + more) = omega arith in same)
    ∙ ap (after_next (state_at order (length order + more))) (slice_get_past order (length order + more) (omega arith))
    ∙ stays order more

last_there : (front : List Event) (e : Event) → slice_get (front ++ e ∷ []) (length front) ≡ Some e
last_there [] e = refl
last_there (first ∷ front) e = last_there front e

within_rises : (order : List Event) (n : ℕ) (e : Event) → n ≤ length order
    → (state_at order n).floor ≤ (after (state_at order n) e).floor
within_rises order n e fits =
    let front = take n order in
    let longer = front ++ e ∷ [] in
    let long : length front ≡ n = length-take-le n order fits in
    let inside : n ≤ length front = omega (arith, long) in
    let same : state_at longer n ≡ state_at order n =
    state_at-append front (e ∷ []) n inside ∙ sym (state_at-append front (drop n order) n inside)
    ∙ ap (λ all. state_at all n) (take-append-drop n order) in
    let next : state_at longer (n + 1) ≡ after (state_at longer n) e =
    state_at-next longer n e (ap (slice_get longer) (sym long) ∙ last_there front e) in
    subst (λ (s : FoldState). s.floor ≤ (after s e).floor) same
    (subst (λ (s : FoldState). (state_at longer n).floor ≤ s.floor) next (floor_rises longer n (n + 1) (omega arith)))

pub floor-next : (order : List Event) (n : ℕ) (e : Event) → (state_at order n).floor ≤ (after (state_at order n) e).floor
floor-next order n e = either (nat_le n (length order)) refl
  where
    either : (b : Bool) → nat_le n (length order) ≡ b → (state_at order n).floor ≤ (after (state_at order n) e).floor
    either true is = within_rises order n e (leb-true n (length order) is)
    either false is =
        let past = leb-false n (length order) is in
        let at : length order + (n - length order) ≡ n = omega (arith, past) in
        subst (λ (s : FoldState). s.floor ≤ (after s e).floor) (sym (stays order (n - length order)) ∙ ap (state_at order) at)
        (within_rises order (length order) e (omega arith))

-- ---- trimmed, the next states are the same
pub goes_on : TrimmedGoesOn
goes_on order n e =
    let s = state_at order n in
    trim-purged s.floor (after (trim s) e) (after s e) (after_same s.floor s (omega arith) e) (floor-next order n e)
