use Rattle.std.proofs.Common.{◌≡◌, ◌∙◌, sym, ap, arith}
use Rattle.std.proofs.lemmas.Grind.{common_steps}
use Rattle.std.specs.List.{remove}
use Rattle.finite_map.specs.FiniteMap.{get}
use Rattle.node_parts.specs.Passed.{PassedCommits}
use Rattle.node_parts.proofs.MapLaws.{removed_absent}
use Rattle.node_parts.proofs.RisingLaws.{removed, get_nowhere}
use Rattle.node_parts.proofs.passed.Passed.remove.Goals as goal
use Rattle.node_parts.proofs.passed.Passed.remove.Goals.{Joined-remove, in-Some-1, in-None-1}

less : (c : Joined-remove) → c.remove.new.self.items ≡ remove c.self.inside.commits.items c.in-Some.at
less c = let within = c.in-Some.ensures.0 in grind (arith, common_steps, within)

pub returns-in-Some-clause-commits : goal.returns-in-Some-clause-commits
returns-in-Some-clause-commits c =
    let now = removed c.self.inside.commits.items c.remove.new.self.items c.args.self.now.commits c.in-Some.at c.args.number
    c.self.invariant (ap (λ (p : PassedCommits). p.commits) c.self.view_is) c.in-Some.ensures (less c) in
    elim c.match-remove.branch [
      | in-Some-1 w ↦ ap (λ (p : PassedCommits). p.commits) w.self-is ∙ now
      | in-None-1 w ↦ ap (λ (p : PassedCommits). p.commits) w.self-is ∙ now
    ]

pub returns-in_default-clause-commits : goal.returns-in_default-clause-commits
returns-in_default-clause-commits c =
    sym (removed_absent c.args.self.now.commits c.args.number
    (sym (ap (λ (p : PassedCommits). get p.commits c.args.number) c.self.view_is)
    ∙ get_nowhere c.self.inside.commits.items c.args.number c.in_default.ensures))
