use Rattle.std.proofs.Common.{◌≡◌, ◌<◌, length, get_or, ◌∙◌, subst}
use Rattle.apply_unit.specs.Results.{Image}
use Rattle.apply_unit.proofs.TaskLemmas.{one_more_place}
use Rattle.apply_unit.proofs.task.places_of.Goals as goal

pub loop-image-preserved : goal.loop-image-preserved
loop-image-preserved c =
    let same = c.as_slice-image-items.ensures in
    let i = c.loop-image.image-index in
    let image : Image = c.image-item.result in
    c.in_ok-insert.ensures.keys
    ∙ one_more_place c.args.images.now i image c.loop-image.places.keys
    (subst (λ l. i < length l) same c.loop-image-test.true)
    (subst (λ l. image ≡ get_or l i image) same c.image-item.is) c.requires c.loop-image.invariant
