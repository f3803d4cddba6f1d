-- What was the latest at the place is marked no longer, unless it is the number itself.
use Rattle.std.proofs.Common.{◌≡◌, ◌∙◌, false, Some, None, sym, ap}
use Rattle.std.specs.Prelude.{cond}
use Rattle.std.specs.Ordering.{is_eq}
use Rattle.sr_fragments.specs.declared.spot.Mark.{Mark}
use Rattle.sr_fragments.specs.HeldIndex.{found_in, has_in}
use Rattle.sr_fragments.specs.Spots.{mark_of, mark_cmp}
use Rattle.sr_fragments.proofs.MarkLemmas.{differs, marks-taken, place_same, raised-old, raised-same, raised-new}
use Rattle.sr_fragments.proofs.marks.raise_place.Goals as goal

pub returns-then-old-number-clause-marked : goal.returns-then-old-number-clause-marked
returns-then-old-number-clause-marked c = λ p n.
    let place = c.args.place.now in
    let old = c.in-Ok-Some.old in
    let latest = c.args.latest.now.entries in
    let there : found_in latest place ≡ Some old =
    let was = c.in-Ok-Some.ensures.old in let is = c.in-Ok-Some.field-0-is in cc in
    raised-old place p old c.args.number n (found_in latest p) _ _
    (λ same. ap (found_in latest) (sym (place_same place p same)) ∙ there)
    (differs c.args.number old (λ e. c.if-old-number.true (sym e)))
    (marks-taken place old p n (has_in c.args.order.now.keys (mark_of p n)) _
    (c.remove.ensures.updates.0 (mark_of p n)
    ∙ ap (λ (m : Mark). cond (is_eq (mark_cmp m (mark_of p n))) false
    (has_in c.args.order.now.keys (mark_of p n)))
    c.mark.ensures))

pub returns-else-old-number-clause-marked : goal.returns-else-old-number-clause-marked
returns-else-old-number-clause-marked c = λ p n.
    let place = c.args.place.now in
    let latest = c.args.latest.now.entries in
    let there : found_in latest place ≡ Some c.args.number =
    let was = c.in-Ok-Some.ensures.old in let is = c.in-Ok-Some.field-0-is in
    let same = c.if-old-number.false in cc in
    raised-same place p c.args.number n (found_in latest p) _
    (λ same. ap (found_in latest) (sym (place_same place p same)) ∙ there)

pub returns-in-Ok-None-clause-marked : goal.returns-in-Ok-None-clause-marked
returns-in-Ok-None-clause-marked c = λ p n.
    let place = c.args.place.now in
    let latest = c.args.latest.now.entries in
    let none : found_in latest place ≡ None =
    let was = c.in-Ok-None.ensures.old in let is = c.in-Ok-None.field-0-is in cc in
    raised-new place p c.args.number n (found_in latest p) _
    (λ same. ap (found_in latest) (sym (place_same place p same)) ∙ none)
