-- Each turn takes the mark at one place more.
use Rattle.std.proofs.Common.{get_or, false, ap, ◌∙◌}
use Rattle.std.specs.Prelude.{cond}
use Rattle.std.specs.Ordering.{is_eq}
use Rattle.sr_fragments.specs.declared.spot.Mark.{Mark}
use Rattle.sr_fragments.specs.Spots.{mark_cmp, mark_of}
use Rattle.sr_fragments.specs.HeldIndex.{has_in}
use Rattle.sr_fragments.proofs.MarkLemmas.{blank, marks-taken, unmarked-more}
use Rattle.sr_fragments.proofs.marks.unmark_all.Goals as goal

pub loop-place-preserved : goal.loop-place-preserved
loop-place-preserved c = λ p n.
    let places = c.args.places.now in
    let i = c.loop-place.place-index in
    let marks = c.loop-place.order.keys in
    unmarked-more places i c.args.number blank p n (has_in c.args.order.now.keys (mark_of p n))
    (has_in marks (mark_of p n)) _
    c.loop-place-test.true (c.loop-place.invariant p n)
    (marks-taken (get_or places i blank) c.args.number p n (has_in marks (mark_of p n)) _
    (c.remove.ensures.updates.0 (mark_of p n)
    ∙ ap (λ (m : Mark). cond (is_eq (mark_cmp m (mark_of p n))) false (has_in marks (mark_of p n)))
    c.mark.ensures))
