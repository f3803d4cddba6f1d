-- Each turn puts in the last member that is left.
use Rattle.std.proofs.Common.{◌≡◌, [], ◌∷◌, ◌++◌, sym, ap, ◌∙◌}
use Rattle.std.specs.Cmp.{nat_cmp_total}
use Rattle.std.specs.FinMap.{nat_cmp-IsAntisymmetric}
use Rattle.finite_map.specs.FiniteMap.{from_entries}
use Rattle.cert_meaning.specs.Parts.{member_entry}
use Rattle.cert_meaning.proofs.TreeLemmas.{insert-tree}
use Rattle.cert_meaning.proofs.PutLemmas.{put_all, put_all-empty, put_all-last}
use Rattle.view_change.proofs.standings.Standings.of.Goals as goal

pub loop-item-init : goal.loop-item-init
loop-item-init c =
    ap (λ items. put_all member_entry items (from_entries c.made.inside.by_member.entries))
    (ap (λ it. it.iter.rest.now) c.into_iter-item-iterator.ensures.into_iter_gives ∙ ap (λ it. it.rest.now) c.rev-item-items.ensures.source ∙ c.iter.ensures.rest)
    ∙ ap (put_all member_entry c.args.items.now) (c.made.view_is ∙ c.new-made.ensures)
    ∙ put_all-empty member_entry c.args.items.now

pub loop-item-preserved : goal.loop-item-preserved
loop-item-preserved c =
    let front = c.next.new.self.iter.rest.now in
    let so_far = c.loop-item.made-inside.by_member.entries in
    let item = c.in-Some.item.now in
    let left : c.loop-item.item-iterator.iter.rest.now ≡ front ++ item ∷ [] = c.in-Some.ensures.steps in
    ap (put_all member_entry front)
    (insert-tree nat_cmp_total nat_cmp-IsAntisymmetric so_far _ item.member (member_entry item).1 c.in_ok-insert.ensures.updates.0)
    ∙ sym (put_all-last member_entry front item (from_entries so_far))
    ∙ ap (λ items. put_all member_entry items (from_entries so_far)) (sym left)
    ∙ c.loop-item.invariant
