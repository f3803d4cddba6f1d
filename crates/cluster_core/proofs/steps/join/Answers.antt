-- The group orders the view that the model orders, and the node joins as the model's does.
use Rattle.std.proofs.Common.{arith, ap, sym, ◌∙◌}
use Rattle.node_meaning.specs.Node.{is_left}
use Rattle.cluster_core.specs.Seated.{seen}
use Rattle.cluster_core.proofs.JoinLaws.{still_joined, not_drained, joined_now}
use Rattle.cluster_core.proofs.steps.join.Goals as goal

pub returns-then-not-has_left-clause-ok : goal.returns-then-not-has_left-clause-ok
returns-then-not-has_left-clause-ok g c =
    still_joined c.args.fresh (g.G.Group.order c.args.group.now) (seen c.args.seat.now) c.requires.kept
    (ap is_left (sym c.place-place.ensures.phase) ∙ sym c.has_left.ensures ∙ c.if-not-has_left.true)

pub returns-then-taken-committed-clause-ok : goal.returns-then-taken-committed-clause-ok
returns-then-taken-committed-clause-ok g c =
    not_drained c.args.fresh (g.G.Group.order c.args.group.now) (seen c.args.seat.now) c.requires.kept c.taken-taken.result c.committed-committed.result
    (ap is_left (sym c.place-place.ensures.phase) ∙ sym c.has_left.ensures ∙ c.if-not-has_left.false) c.taken-taken.ensures c.committed-committed.ensures
    c.if-taken-committed.true

pub returns-clause-ok : goal.returns-clause-ok
returns-clause-ok g c =
    let left = ap is_left (sym c.place-place.ensures.phase) ∙ sym c.has_left.ensures ∙ c.if-not-has_left.false in
    joined_now c.args.fresh (g.G.Group.order c.args.group.now) (seen c.args.seat.now) c.requires.kept (g.G.Group.order c.join.new.self) c.join-2.new.self.parts
    c.in_ok-view.view c.in_ok-view.member left (sym c.taken-taken.ensures ∙ c.if-taken-committed.false ∙ c.committed-committed.ensures)
    (let few = c.requires.events in omega (arith, few)) c.in_ok-view.ensures.ok c.in_ok-view.ensures.number c.in_ok-view.ensures.member
    (c.join-2.ensures.does (g.G.Group.order c.args.group.now) c.requires.kept.seated.stands)
