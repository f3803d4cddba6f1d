-- The group orders the view that the model orders, and the node leaves as the model's does.
use Rattle.std.proofs.Common.{arith, ◌≡◌, ap, sym, subst, ◌∙◌}
use Rattle.node_meaning.specs.Node.{is_left}
use Rattle.order_event.specs.declared.step.Act.TheVariants as act
use Rattle.cluster_core.specs.Seated.{seen}
use Rattle.cluster_core.specs.Faults.{step_fault}
use Rattle.cluster_core.specs.Acts.{Failed}
use Rattle.cluster_core.proofs.ActLaws.{err_by}
use Rattle.cluster_core.proofs.LeaveLaws.{left_already, left_now, leave_failed}
use Rattle.cluster_core.proofs.steps.leave.Goals as goal

pub returns-then-has_left-clause-ok : goal.returns-then-has_left-clause-ok
returns-then-has_left-clause-ok g c =
    left_already (g.G.Group.order c.args.group.now) (seen c.args.seat.now)
    (ap is_left (sym c.place-place.ensures.phase) ∙ sym c.has_left.ensures ∙ c.if-has_left.true) c.requires.kept

pub returns-in_err-number-clause-err : goal.returns-in_err-number-clause-err
returns-in_err-number-clause-err g c =
    err_by _ _ c.from_residual.result c.from_residual.ensures.1 (λ e from.
    let same : e ≡ step_fault c.in_err-number.field-0.0 = cc in
    subst (Failed act.Leave (g.G.Group.order c.args.group.now) (g.G.Group.order c.leave.new.self) (seen c.args.seat.now) (seen c.args.seat.now)) (sym same)
    (leave_failed (g.G.Group.order c.args.group.now) (g.G.Group.order c.leave.new.self) (seen c.args.seat.now) (step_fault c.in_err-number.field-0.0)
    c.in_err-number.ensures.err c.requires.kept
    (ap is_left (sym c.place-place.ensures.phase) ∙ sym c.has_left.ensures ∙ c.if-has_left.false)))

pub returns-clause-ok : goal.returns-clause-ok
returns-clause-ok g c =
    left_now (g.G.Group.order c.args.group.now) (g.G.Group.order c.leave.new.self) (seen c.args.seat.now) c.leave-watcher.new.self.parts
    c.in_ok-number.number
    (ap is_left (sym c.place-place.ensures.phase) ∙ sym c.has_left.ensures ∙ c.if-has_left.false)
    (let few = c.requires.events in omega (arith, few))
    (let e = c.in_ok-number.ensures.ok in let f = c.place-place.ensures.member in cc)
    c.in_ok-number.ensures.number
    (c.leave-watcher.ensures.does (g.G.Group.order c.args.group.now) c.requires.kept.seated.stands) c.requires.kept
