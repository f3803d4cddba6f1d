-- Each turn puts in the last member that is left.
use Rattle.std.proofs.Common.{◌≡◌, [], ◌∷◌, ◌++◌, sym, ap, ◌∙◌}
use Rattle.std.specs.Prelude.{unwrap_or}
use Rattle.std.specs.Cmp.{nat_cmp_total}
use Rattle.std.specs.FinMap.{nat_cmp-IsAntisymmetric}
use Rattle.finite_map.specs.FiniteMap.{from_entries, insert}
use Rattle.cert_meaning.specs.Fold.{standing_in}
use Rattle.cert_meaning.proofs.TreeLemmas.{insert-tree}
use Rattle.cert_meaning.proofs.MemberLemmas.{with_members, with_members-all, with_members-last}
use Rattle.view_change.proofs.standings.Standings.listed.Goals as goal

pub loop-member-init : goal.loop-member-init
loop-member-init c =
    ap (λ ms. with_members c.args.self.now c.args.number ms (from_entries c.listed.inside.by_member.entries))
    (ap (λ it. it.iter.rest.now) c.into_iter-member-iterator.ensures.into_iter_gives ∙ ap (λ it. it.rest.now) c.rev-member-items.ensures.source ∙ c.iter.ensures.rest)
    ∙ ap (with_members c.args.self.now c.args.number c.args.members.now) (c.listed.view_is ∙ c.new-listed.ensures)
    ∙ with_members-all c.args.self.now c.args.number c.args.members.now

pub loop-member-preserved : goal.loop-member-preserved
loop-member-preserved c =
    let front = c.next.new.self.iter.rest.now in
    let so_far = c.loop-member.listed-inside.by_member.entries in
    let left : c.loop-member.member-iterator.iter.rest.now ≡ front ++ c.in-Some.member.now ∷ [] = c.in-Some.ensures.steps in
    let stands : c.unwrap_or-standing.result ≡ standing_in c.args.self.now c.args.number c.in-Some.member.now =
    c.unwrap_or-standing.ensures ∙ ap (λ o. unwrap_or o (record { report = c.args.number; serial = 0 })) c.get.ensures in
    ap (with_members c.args.self.now c.args.number front)
    (insert-tree nat_cmp_total nat_cmp-IsAntisymmetric so_far _ c.in-Some.member.now c.unwrap_or-standing.result c.in_ok-insert.ensures.updates.0
    ∙ ap (insert (from_entries so_far) c.in-Some.member.now) stands)
    ∙ sym (with_members-last c.args.self.now c.args.number front c.in-Some.member.now (from_entries so_far))
    ∙ ap (λ ms. with_members c.args.self.now c.args.number ms (from_entries so_far)) (sym left)
    ∙ c.loop-member.invariant
