-- Each turn raises one place more.
use Rattle.std.proofs.Common.{arith}
use Rattle.sr_fragments.specs.Spots.{mark_of}
use Rattle.sr_fragments.specs.HeldIndex.{found_in, has_in}
use Rattle.sr_fragments.proofs.MarkLemmas.{blank, found-more, raised-more}
use Rattle.sr_fragments.proofs.marks.raise_all.Goals as goal

pub loop-place-preserved : goal.loop-place-preserved
loop-place-preserved c =
    let places = c.args.places.now in
    let i = c.loop-place.place-index in
    let number = c.args.number in
    record {
      found = λ p. found-more places i number blank p (found_in c.args.latest.now.entries p)
          (found_in c.loop-place.latest.entries p) _ c.loop-place-test.true
          (c.loop-place.invariant.found p)
          (c.raise_place.ensures.found p);
      marked = λ p n. raised-more places i number blank p n (found_in c.args.latest.now.entries p)
          (found_in c.loop-place.latest.entries p) (has_in c.loop-place.order.keys (mark_of p n)) _
          c.loop-place-test.true (c.loop-place.invariant.found p)
          (c.loop-place.invariant.marked p n)
          (c.raise_place.ensures.marked p n);
      room = omega (arith, c.raise_place.ensures.spare, c.loop-place.invariant.room);
    }
