-- The reports that are left at first are those of all members.
use Rattle.std.proofs.Common.{List, map, sym, ap, ◌∙◌}
use Rattle.std.specs.Cmp.{nat_cmp_total}
use Rattle.std.specs.Ordering.{nat_cmp}
use Rattle.finite_map.specs.FiniteMap.{FiniteMap, values}
use Rattle.wsrep_base.specs.Trx.{least}
use Rattle.cert_meaning.specs.declared.members.Standing.{Standing}
use Rattle.cert_meaning.proofs.TreeLemmas.{entries-tree}
use Rattle.view_change.proofs.standings.Standings.least_report.Goals as goal

pub loop-standing-init : goal.loop-standing-init
loop-standing-init c =
    let entries = c.self.inside.by_member.entries in
    ap (λ (left : List Standing). least (map (λ (standing : Standing). standing.report) left))
    (c.into_iter-standing-iterator.ensures.into_iter_gives ∙ c.values-standing-items.ensures.rest
    ∙ sym (ap (map (λ e. e.1)) (entries-tree nat_cmp_total entries c.values-standing-items.ensures.ordered))
    ∙ ap (λ (members : FiniteMap nat_cmp Standing). values members) c.self.view_is)
