use Rattle.std.proofs.Common.{◌∙◌, sym, ap, Some}
use Rattle.finite_map.specs.FiniteMap.{get}
use Rattle.std.proofs.Common.{ℕ}
use Rattle.node_parts.specs.Passed.{PassedCommit, PassedCommits}
use Rattle.node_parts.proofs.RisingLaws.{get_at, get_nowhere}
use Rattle.node_parts.proofs.passed.Passed.get.Goals as goal

pub returns-in-Some : goal.returns-in-Some
returns-in-Some c =
    ap (λ (e : ℕ × PassedCommit). Some e.1) c.index.ensures
    ∙ sym (get_at c.self.inside.commits.items c.in-Some.at c.args.number c.index.result.now c.self.invariant c.in-Some.ensures)
    ∙ ap (λ (p : PassedCommits). get p.commits c.args.number) c.self.view_is

pub returns-in-None : goal.returns-in-None
returns-in-None c =
    sym (get_nowhere c.self.inside.commits.items c.args.number c.in-None.ensures)
    ∙ ap (λ (p : PassedCommits). get p.commits c.args.number) c.self.view_is
