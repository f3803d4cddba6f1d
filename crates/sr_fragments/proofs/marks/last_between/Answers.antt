-- The last of the range is the greatest there.
use Rattle.std.proofs.Common.{◌≡◌, List, Option, Some, None, sym, subst, Bor}
use Rattle.std.specs.Option.{option_copied}
use Rattle.std.specs.Map.Iter.{TakesLast, deref}
use Rattle.std.specs.declared.ops.Bound.TheVariants.{Included, Excluded}
use Rattle.std.specs.BTreeSet.{BTreeSet, IsKeyRangeOf}
use Rattle.sr_fragments.specs.declared.spot.Mark.{Mark}
use Rattle.sr_fragments.specs.Spots.{mark_cmp}
use Rattle.sr_fragments.specs.HeldIndex.{IsGreatestMark}
use Rattle.sr_fragments.proofs.marks.last_between.Goals as goal

by_last : (order : BTreeSet Mark) (from end : Mark) (all left : List Mark)
    (last : Option (Bor Mark)) (out : Option Mark)
    → IsKeyRangeOf mark_cmp (Included from) (Excluded end) order all
    → TakesLast deref all last left → out ≡ option_copied last
    → IsGreatestMark order.keys from end out
by_last order from end all left None out range steps is =
    subst (IsGreatestMark order.keys from end) (sym is)
    (λ q low high. range.5 steps.0 q (low, high))
by_last order from end all left (Some x) out range steps is =
    let here = range.3 x.now left steps in
    subst (IsGreatestMark order.keys from end) (sym is)
    (here.0.0, here.0.1, here.1, λ q low high there. range.4 x.now left steps q (low, high) there)

pub returns : goal.returns
returns c =
    by_last c.args.order.now c.args.from c.args.end c.range.result c.next_back.new.self
    c.next_back.result c.copied.result
    (c.range.ensures.in_range tt) c.next_back.ensures.steps c.copied.ensures
