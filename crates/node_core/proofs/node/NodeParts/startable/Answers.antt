-- What was read of the commit is what the model reads.
use Rattle.std.proofs.Common.{sym, ap, ◌∙◌}
use Rattle.std.specs.Option.{option_copied}
use Rattle.node_core.proofs.StartCalls.{start_committed, start_again, start_nothing, start_local, start_later, startable}
use Rattle.node_core.proofs.node.NodeParts.startable.Goals as goal
use Rattle.node_core.proofs.node.NodeParts.startable.Goals.{then-number-self-via-then-number-self, then-number-self-via-else-number-self+then-contains}

pub returns-then-number-self-clause-err : goal.returns-then-number-self-clause-err
returns-then-number-self-clause-err c order stands = elim c.then-number-self.branch [
  | then-number-self-via-then-number-self w ↦ start_committed order c.args.self.now c.args.number stands w.if-number-self.true
  | then-number-self-via-else-number-self+then-contains w ↦
      start_again order c.args.self.now c.args.number stands (sym w.contains.ensures.units ∙ w.if-contains.true)
]

pub returns-in_default-clause-err : goal.returns-in_default-clause-err
returns-in_default-clause-err c order stands =
    start_nothing order c.args.self.now c.args.number stands c.if-number-self.false
    (sym c.commit_at.ensures ∙ ap (λ o. option_copied o) c.in_default.is)

pub returns-then-is_local-clause-err : goal.returns-then-is_local-clause-err
returns-then-is_local-clause-err c order stands =
    start_local order c.args.self.now c.args.number stands c.if-number-self.false c.in-Some.commit.now
    (sym c.commit_at.ensures ∙ ap (λ o. option_copied o) c.in-Some.is) (sym c.contains.ensures.units ∙ c.if-contains.false)
    (sym c.is_local.ensures ∙ c.if-is_local.true)

pub returns-in-Some-in_the_way-clause-err : goal.returns-in-Some-in_the_way-clause-err
returns-in-Some-in_the_way-clause-err c order stands =
    start_later order c.args.self.now c.args.number stands c.if-number-self.false c.in-Some.commit.now
    (sym c.commit_at.ensures ∙ ap (λ o. option_copied o) c.in-Some.is) (sym c.contains.ensures.units ∙ c.if-contains.false)
    (sym c.is_local.ensures ∙ c.if-is_local.false) c.in_the_way.result
    c.in_the_way.ensures
    c.in-Some-in_the_way.earlier c.in-Some-in_the_way.is

pub returns-clause-ok : goal.returns-clause-ok
returns-clause-ok c order stands =
    startable order c.args.self.now c.args.number stands c.if-number-self.false c.in-Some.commit.now
    (sym c.commit_at.ensures ∙ ap (λ o. option_copied o) c.in-Some.is) (sym c.contains.ensures.units ∙ c.if-contains.false)
    (sym c.is_local.ensures ∙ c.if-is_local.false) c.in_the_way.result
    c.in_the_way.ensures
    c.in_default-in_the_way.is
