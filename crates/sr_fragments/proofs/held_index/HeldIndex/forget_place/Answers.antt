-- The number goes from the table and from the marks.
use Rattle.std.proofs.Common.{◌≡◌, Some, false, sym, ap, ◌∙◌}
use Rattle.std.specs.Prelude.{cond}
use Rattle.std.specs.Ordering.{is_eq}
use Rattle.sr_fragments.specs.declared.spot.Mark.{Mark}
use Rattle.sr_fragments.specs.Spots.{mark_cmp, mark_of}
use Rattle.sr_fragments.specs.HeldIndex.{found, has_in}
use Rattle.sr_fragments.proofs.MarkLemmas.{forgotten, marks-taken, place_same}
use Rattle.sr_fragments.proofs.held_index.HeldIndex.forget_place.Goals as goal

pub returns-in-Some-clause-index : goal.returns-in-Some-clause-index
returns-in-Some-clause-index c = λ p n.
    let place = c.args.place in
    let number = c.in-Some.number in
    let marks = c.args.self.now.order.keys in
    let there : found c.args.self.now place ≡ Some number =
    let was = c.remove.ensures.value in let is = c.in-Some.is in cc in
    forgotten place p number n (found c.args.self.now p) _ (has_in marks (mark_of p n)) _
    (λ same. ap (found c.args.self.now) (sym (place_same place p same)) ∙ there)
    (c.requires.index p n)
    (c.remove.ensures.updates.0 p)
    (marks-taken place number p n (has_in marks (mark_of p n)) _
    (c.remove-in-Some.ensures.updates.0 (mark_of p n)
    ∙ ap (λ (m : Mark). cond (is_eq (mark_cmp m (mark_of p n))) false (has_in marks (mark_of p n)))
    c.mark.ensures))
