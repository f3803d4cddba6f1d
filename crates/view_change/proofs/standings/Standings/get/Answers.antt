-- The map answers as the tree does.
use Rattle.std.proofs.Common.{sym, ap, ◌∙◌}
use Rattle.std.specs.Ordering.{nat_cmp}
use Rattle.std.specs.Cmp.{nat_cmp_total}
use Rattle.finite_map.specs.FiniteMap.{FiniteMap, get}
use Rattle.cert_meaning.specs.declared.members.Standing.{Standing}
use Rattle.cert_meaning.proofs.TreeLemmas.{get-tree}
use Rattle.view_change.proofs.standings.Standings.get.Goals as goal

pub returns : goal.returns
returns c =
    c.copied.ensures ∙ c.get.ensures.value ∙ sym (get-tree nat_cmp_total c.self.inside.by_member.entries c.args.member)
    ∙ ap (λ (members : FiniteMap nat_cmp Standing). get members c.args.member) c.self.view_is
