-- The event that the group gives is the next one of its order.
use Rattle.std.proofs.Common.{sym, subst, ◌∙◌, ap, ◌+◌, ◌≡◌}
use Rattle.std.specs.Prelude.{Some, is_some, IsSome}
use Rattle.order_event.specs.declared.step.Act.TheVariants as act
use Rattle.group_order.specs.Causes as cause
use Rattle.group_order.specs.Order.{event_at}
use Rattle.node_core.specs.Stands.{plain_of}
use Rattle.cluster_core.specs.Seated.{seen}
use Rattle.cluster_core.specs.declared.fault.StepFault.TheVariants as fault
use Rattle.cluster_core.specs.Faults.{step_fault}
use Rattle.cluster_core.specs.Steps.{MayFail}
use Rattle.cluster_core.specs.Acts.{Failed}
use Rattle.cluster_core.proofs.ActLaws.{take_acted, take_nothing, take_not_connected, take_failed, take_wants, event_failed, next_event, err_by}
use Rattle.cluster_core.specs.Orders.{EventFits}
use Rattle.cluster_core.proofs.OrderLaws.{all_at, few_of}
use Rattle.cluster_core.proofs.steps.take_next.Goals as goal

pub returns-then-not-is_connected-clause-ok : goal.returns-then-not-is_connected-clause-ok
returns-then-not-is_connected-clause-ok g c =
    take_not_connected (g.G.Group.order c.args.group.now) (seen c.args.seat.now) (sym c.is_connected.ensures ∙ c.if-not-is_connected.true) c.requires.kept

pub returns-in_err-event-clause-err : goal.returns-in_err-event-clause-err
returns-in_err-event-clause-err g c =
    err_by _ _ c.from_residual.result c.from_residual.ensures.1 (λ e from.
    let same : e ≡ step_fault c.in_err-event.field-0.0 = cc in
    subst (Failed act.Take (g.G.Group.order c.args.group.now) (g.G.Group.order c.event.new.self) (seen c.args.seat.now) (seen c.args.seat.now)) (sym same)
    (event_failed (g.G.Group.order c.args.group.now) (g.G.Group.order c.event.new.self) (seen c.args.seat.now) c.in_err-event.field-0.0 c.event.ensures.order
    c.requires.kept (sym c.is_connected.ensures ∙ c.if-not-is_connected.false)
    (subst (λ k. cause.AtNoMemory (IsSome (event_at (g.G.Group.order c.args.group.now) (k + 1))) c.in_err-event.field-0.0) c.taken.ensures
    c.in_err-event.ensures.memory)))

pub take-requires-clause-members : goal.take-requires-clause-members
take-requires-clause-members g c =
    few_of c.in-Some.event
    (all_at EventFits (g.G.Group.order c.args.group.now) c.args.seat.now.node.parts.at.taken c.in-Some.event c.requires.kept.order_kept.fits
    (sym (sym c.in-Some.is ∙ c.in_ok-event.ensures.ok ∙ ap (λ k. event_at (g.G.Group.order c.args.group.now) (k + 1)) c.taken.ensures
    ∙ next_event (g.G.Group.order c.args.group.now) c.args.seat.now.node.parts.at.taken)))

pub returns-in_err-take-in-Some-clause-err : goal.returns-in_err-take-in-Some-clause-err
returns-in_err-take-in-Some-clause-err g c =
    let there : Some c.in-Some.event ≡ event_at (g.G.Group.order c.args.group.now) (c.args.seat.now.node.parts.at.taken + 1) =
    sym c.in-Some.is ∙ c.in_ok-event.ensures.ok ∙ ap (λ k. event_at (g.G.Group.order c.args.group.now) (k + 1)) c.taken.ensures in
    err_by _ _ c.from_residual-in_err-take-in-Some.result c.from_residual-in_err-take-in-Some.ensures.1 (λ e from.
    let none : e ≡ fault.NoMemory = cc in
    take_failed (g.G.Group.order c.args.group.now) (g.G.Group.order c.event.new.self) (seen c.args.seat.now) (seen c.take.new.self) e c.event.ensures.order
    c.in_err-take-in-Some.ensures.err c.requires.kept
    (subst (MayFail (g.G.Group.order c.args.group.now) (plain_of c.args.seat.now.node.parts) act.Take) (sym none)
    (take_wants (g.G.Group.order c.args.group.now) (plain_of c.args.seat.now.node.parts) c.in_err-take-in-Some.ensures.memory (sym (ap is_some there)))))

pub returns-in_ok-take-in-Some-clause-ok : goal.returns-in_ok-take-in-Some-clause-ok
returns-in_ok-take-in-Some-clause-ok g c =
    take_acted (g.G.Group.order c.args.group.now) (g.G.Group.order c.event.new.self) (seen c.args.seat.now) (seen c.take.new.self) c.in_ok-take-in-Some.field-0
    c.in-Some.event c.event.ensures.order
    (sym c.in-Some.is ∙ c.in_ok-event.ensures.ok ∙ ap (λ k. event_at (g.G.Group.order c.args.group.now) (k + 1)) c.taken.ensures)
    c.in_ok-take-in-Some.ensures.ok c.requires.kept

pub returns-in-None-clause-ok : goal.returns-in-None-clause-ok
returns-in-None-clause-ok g c =
    take_nothing (g.G.Group.order c.args.group.now) (g.G.Group.order c.event.new.self) (seen c.args.seat.now) c.event.ensures.order
    (sym c.in-None.is ∙ c.in_ok-event.ensures.ok ∙ ap (λ k. event_at (g.G.Group.order c.args.group.now) (k + 1)) c.taken.ensures)
    c.requires.kept
