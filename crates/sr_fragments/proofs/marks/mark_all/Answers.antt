-- Each turn puts the mark at one place more; all are taken away again where there is no memory.
use Rattle.std.proofs.Common.{get_or, true, ap, sym, ◌∙◌}
use Rattle.std.specs.Prelude.{cond}
use Rattle.std.specs.Ordering.{is_eq}
use Rattle.sr_fragments.specs.declared.spot.Mark.{Mark}
use Rattle.sr_fragments.specs.Spots.{mark_cmp, mark_of}
use Rattle.sr_fragments.specs.HeldIndex.{has_in}
use Rattle.sr_fragments.proofs.MarkLemmas.{blank, is_in-part, marks-put, marks-undone, marked-more, number_same}
use Rattle.sr_fragments.proofs.marks.mark_all.Goals as goal

pub loop-place-preserved : goal.loop-place-preserved
loop-place-preserved c = λ p n.
    let places = c.args.places.now in
    let i = c.loop-place.place-index in
    let marks = c.loop-place.order.keys in
    marked-more places i c.args.number blank p n (has_in c.args.order.now.keys (mark_of p n))
    (has_in marks (mark_of p n)) _
    c.loop-place-test.true (c.loop-place.invariant p n)
    (marks-put (get_or places i blank) c.args.number p n (has_in marks (mark_of p n)) _
    (c.in-Ok.ensures.updates.0 (mark_of p n)
    ∙ ap (λ (m : Mark). cond (is_eq (mark_cmp m (mark_of p n))) true (has_in marks (mark_of p n)))
    c.mark.ensures))

pub returns-in-Err-clause-err : goal.returns-in-Err-clause-err
returns-in-Err-clause-err c = λ p n.
    let places = c.args.places.now in
    let i = c.loop-place.place-index in
    let had = has_in c.args.order.now.keys (mark_of p n) in
    marks-undone places i c.args.number p n had _ _
    (is_in-part places i p)
    (λ same inside. ap (λ m. has_in c.args.order.now.keys (mark_of p m))
    (sym (number_same c.args.number n same))
    ∙ c.requires.fresh p inside)
    (ap (λ ms. has_in ms (mark_of p n)) c.in-Err.ensures.err ∙ c.loop-place.invariant p n)
    (c.unmark_all.ensures p n)
