-- A known member's entry is replaced.
use Rattle.std.proofs.Common.{sym, ap, subst, ◌∙◌}
use Rattle.std.specs.Prelude.{IsSome}
use Rattle.std.specs.FinMap.{nat_cmp-IsAntisymmetric}
use Rattle.std.specs.Ordering.{nat_cmp}
use Rattle.std.specs.Cmp.{nat_cmp_total}
use Rattle.finite_map.specs.FiniteMap.{FiniteMap, get, insert}
use Rattle.cert_meaning.specs.declared.members.Standing.{Standing}
use Rattle.cert_meaning.proofs.TreeLemmas.{get-tree, insert-tree}
use Rattle.view_change.proofs.standings.Standings.set.Goals as goal

pub returns : goal.returns
returns c =
    insert-tree nat_cmp_total nat_cmp-IsAntisymmetric c.self.inside.by_member.entries _ c.args.member c.args.standing c.in-Ok.ensures.updates.0
    ∙ ap (λ (members : FiniteMap nat_cmp Standing). insert members c.args.member c.args.standing) c.self.view_is

pub unreachable-requires : goal.unreachable-requires
unreachable-requires c =
    let none = sym (ap (λ (members : FiniteMap nat_cmp Standing). get members c.args.member) c.self.view_is)
    ∙ get-tree nat_cmp_total c.self.inside.by_member.entries c.args.member ∙ c.in-Err.ensures.absent in
    let gone = subst IsSome none c.requires in cc
