use Rattle.std.proofs.Common.{◌≡◌, ◌<◌, ◌-◌, ◌++◌, ◌∷◌, [], ap, subst, sym, arith}
use Rattle.std.proofs.lemmas.Grind.{common_steps}
use Rattle.node_parts.specs.Passed.{PassedCommits}
use Rattle.node_parts.proofs.RisingLaws.{pushed, pushed_rising}
use Rattle.node_parts.proofs.passed.Passed.push.Goals as goal
use Rattle.node_parts.proofs.passed.Passed.push.Goals.{In-Ok}

more : (c : In-Ok) → c.push_back.new.self.items ≡ c.self.inside.commits.items ++ (c.args.number, c.args.commit) ∷ []
more c =
    let room : 0 < c.self.inside.commits.cap - c.self.inside.commits.len =
    subst (λ n. 0 < n) (sym (ap (λ (p : PassedCommits). p.spare) c.self.view_is)) c.requires.spare in
    grind (arith, common_steps, room)

pub invariant_of-self : goal.invariant_of-self
invariant_of-self c =
    pushed_rising c.self.inside.commits.items c.push_back.new.self.items c.args.self.now.commits c.args.number c.args.commit
    c.self.invariant (ap (λ (p : PassedCommits). p.commits) c.self.view_is) c.requires.newest (more c)

pub returns-clause-commits : goal.returns-clause-commits
returns-clause-commits c =
    pushed c.self.inside.commits.items c.push_back.new.self.items c.args.self.now.commits c.args.number c.args.commit
    c.self.invariant (ap (λ (p : PassedCommits). p.commits) c.self.view_is) c.requires.newest (more c)
