-- One more message is ordered.
use Rattle.std.proofs.Common.{◌≡◌, refl, sym, subst, ◌∙◌, arith}
use Rattle.cluster_core.specs.Seated.{seen}
use Rattle.cluster_core.specs.Drain.{SentFew}
use Rattle.cluster_core.proofs.ActLaws.{err_by}
use Rattle.cluster_core.proofs.DrainLaws.{sent_none, sent_more, sent_fails, sent_short}
use Rattle.cluster_core.proofs.drain.order_all.Goals as goal

pub loop-init : goal.loop-init
loop-init g c = (refl, sent_none (g.G.Group.order c.args.group.now) (seen c.args.seat.now) c.requires.kept)

pub order_first-requires-clause-events : goal.order_first-requires-clause-events
order_first-requires-clause-events g c =
    sent_short c.loop.counter (g.G.Group.order c.args.group.now) (g.G.Group.order c.loop.group) (seen c.args.seat.now) (seen c.loop.seat) c.loop.invariant.1 c.requires.events

pub loop-preserved : goal.loop-preserved
loop-preserved g c = (
  c.in_ok-order_first.ensures.cause ∙ c.loop.invariant.0,
  sent_more c.loop.counter (g.G.Group.order c.args.group.now) (g.G.Group.order c.loop.group) (g.G.Group.order c.order_first.new.group)
      (seen c.args.seat.now) (seen c.loop.seat) (seen c.order_first.new.seat) c.in_ok-order_first.field-0 c.loop.invariant.1 c.in_ok-order_first.ensures.ok,
)

pub returns-in_err-order_first-clause-err : goal.returns-in_err-order_first-clause-err
returns-in_err-order_first-clause-err g c =
    err_by _ _ c.from_residual.result c.from_residual.ensures.1 (λ e from.
    let same : e ≡ c.in_err-order_first.field-0.0 = cc in
    subst (SentFew c.args.count (g.G.Group.order c.args.group.now) (g.G.Group.order c.order_first.new.group) (seen c.args.seat.now) (seen c.order_first.new.seat)) (sym same)
    (sent_fails c.loop.counter c.args.count (g.G.Group.order c.args.group.now) (g.G.Group.order c.loop.group) (g.G.Group.order c.order_first.new.group)
    (seen c.args.seat.now) (seen c.loop.seat) (seen c.order_first.new.seat) c.in_err-order_first.field-0.0 (omega arith) c.loop.invariant.1 c.in_err-order_first.ensures.err))
