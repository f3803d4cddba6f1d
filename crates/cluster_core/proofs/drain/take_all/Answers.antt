-- One more event is taken.
use Rattle.std.proofs.Common.{◌≡◌, refl, sym, subst, ◌∙◌, arith}
use Rattle.order_event.specs.declared.step.Act.TheVariants as act
use Rattle.cluster_core.specs.Seated.{seen}
use Rattle.cluster_core.specs.Acts.{Acted, Failed}
use Rattle.cluster_core.specs.Drain.{TakesFew, take_next}
use Rattle.cluster_core.proofs.ActLaws.{err_by}
use Rattle.cluster_core.proofs.DrainLaws.{part_none, one_more, one_fails, take_one, take_fails}
use Rattle.cluster_core.proofs.drain.take_all.Goals as goal

pub loop-init : goal.loop-init
loop-init g c = (refl, refl, part_none (g.G.Group.order c.args.group.now) (seen c.args.seat.now) c.requires.kept.seated)

pub loop-preserved : goal.loop-preserved
loop-preserved g c =
    let order = g.G.Group.order c.args.group.now in
    let one = take_one order (g.G.Group.order c.take_next.new.group) (seen c.loop.seat) (seen c.take_next.new.seat) c.in_ok-take_next.field-0
    (subst (λ o. Acted act.Take o (g.G.Group.order c.take_next.new.group) (seen c.loop.seat) (seen c.take_next.new.seat) c.in_ok-take_next.field-0)
    c.loop.invariant.0 c.in_ok-take_next.ensures.ok) in (
      one.0,
      c.in_ok-take_next.ensures.cause ∙ c.loop.invariant.1,
      one_more act.Take (take_next order) order (seen c.args.seat.now) (seen c.loop.seat) (seen c.take_next.new.seat) c.loop.counter c.loop.invariant.2 one.1,
    )

pub returns-in_err-take_next-clause-err : goal.returns-in_err-take_next-clause-err
returns-in_err-take_next-clause-err g c =
    err_by _ _ c.from_residual.result c.from_residual.ensures.1 (λ e from.
    let order = g.G.Group.order c.args.group.now in
    let same : e ≡ c.in_err-take_next.field-0.0 = cc in
    subst (TakesFew c.args.count order (seen c.args.seat.now) (seen c.take_next.new.seat)) (sym same)
    (one_fails act.Take (take_next order) order (seen c.args.seat.now) (seen c.loop.seat) (seen c.take_next.new.seat) c.loop.counter c.loop.invariant.2 c.args.count
    c.in_err-take_next.field-0.0 (omega arith)
    (take_fails order (g.G.Group.order c.take_next.new.group) (seen c.loop.seat) (seen c.take_next.new.seat) c.in_err-take_next.field-0.0
    (subst (λ o. Failed act.Take o (g.G.Group.order c.take_next.new.group) (seen c.loop.seat) (seen c.take_next.new.seat) c.in_err-take_next.field-0.0)
    c.loop.invariant.0 c.in_err-take_next.ensures.err)).1))
