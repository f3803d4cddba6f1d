-- One more number is committed.
use Rattle.std.proofs.Common.{arith}
use Rattle.cluster_core.specs.Seated.{seen}
use Rattle.cluster_core.specs.declared.fault.StepFault.TheVariants as fault
use Rattle.cluster_core.proofs.SeatLaws.{on_err}
use Rattle.cluster_core.proofs.DrainSerials.{committed_serials}
use Rattle.cluster_core.proofs.DrainLaws.{part_none, commit_more, commit_fails}
use Rattle.cluster_core.proofs.drain.commit_all.Goals as goal

pub loop-init : goal.loop-init
loop-init g c order s = part_none order (seen c.args.seat.now) s

pub commit_one-requires-clause-serials : goal.commit_one-requires-clause-serials
commit_one-requires-clause-serials g c =
    committed_serials (seen c.args.seat.now) (seen c.loop.seat) c.loop.counter c.requires.seated.0 c.requires.seated.1 c.loop.invariant c.requires.serials

pub loop-preserved : goal.loop-preserved
loop-preserved g c order s =
    let so_far = c.loop.invariant order s in
    commit_more order (seen c.args.seat.now) (seen c.loop.seat) (seen c.commit_one.new.seat) c.loop.counter so_far
    (c.in_ok-commit_one.ensures.ok order so_far.seated)

pub returns-in_err-commit_one-clause-err : goal.returns-in_err-commit_one-clause-err
returns-in_err-commit_one-clause-err g c =
    on_err c.from_residual.result (λ order s.
    commit_fails order (seen c.args.seat.now) (seen c.loop.seat) (seen c.commit_one.new.seat) c.loop.counter (c.loop.invariant order s) c.args.count fault.NoMemory
    (omega arith) (c.in_err-commit_one.ensures.err order (c.loop.invariant order s).seated))
