-- One more event is certified.
use Rattle.std.proofs.Common.{[], arith}
use Rattle.order_event.specs.declared.step.Act.TheVariants as act
use Rattle.cluster_core.specs.Seated.{seen}
use Rattle.cluster_core.specs.declared.fault.StepFault.TheVariants as fault
use Rattle.cluster_core.proofs.SeatLaws.{on_err}
use Rattle.cluster_core.specs.Drain.{certify_next}
use Rattle.cluster_core.proofs.DrainLaws.{part_none, one_more, one_fails, not_done, certify_one}
use Rattle.cluster_core.proofs.drain.certify_all.Goals as goal

pub loop-init : goal.loop-init
loop-init g c order s = part_none order (seen c.args.seat.now) s

pub loop-preserved : goal.loop-preserved
loop-preserved g c order s =
    let so_far = c.loop.invariant order s in
    one_more act.Certify (certify_next order) order (seen c.args.seat.now) (seen c.loop.seat) (seen c.certify.new.self) c.loop.counter so_far
    (certify_one order (seen c.loop.seat) (seen c.certify.new.self) _ (c.in_ok-certify.ensures.ok order so_far.seated))

pub returns-in_err-certify-clause-err : goal.returns-in_err-certify-clause-err
returns-in_err-certify-clause-err g c =
    on_err c.from_residual.result (λ order s.
    let so_far = c.loop.invariant order s in
    one_fails act.Certify (certify_next order) order (seen c.args.seat.now) (seen c.loop.seat) (seen c.certify.new.self) c.loop.counter so_far c.args.count fault.NoMemory
    (omega arith) (not_done act.Certify [] order (seen c.loop.seat) (seen c.certify.new.self) c.in_err-certify.ensures.err c.in_err-certify.ensures.memory so_far.seated))
