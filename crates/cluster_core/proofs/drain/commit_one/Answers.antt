-- The model starts, finishes and commits the same number.
use Rattle.std.proofs.Common.{◌+◌, ap}
use Rattle.cluster_core.specs.Seated.{seen}
use Rattle.cluster_core.proofs.SeatLaws.{on_err}
use Rattle.cluster_core.proofs.DrainLaws.{commit_done, start_fails}
use Rattle.cluster_core.proofs.drain.commit_one.Goals as goal

pub returns-clause-ok : goal.returns-clause-ok
returns-clause-ok g c order s =
    let start = c.in_ok-start.ensures.ok order s in
    let finish = c.finish.ensures order start.seated in
    commit_done order (seen c.args.seat.now) (seen c.start.new.self) (seen c.finish.new.self) (seen c.advance.new.self) (c.committed-number.result + 1) _ _ _ (ap (λ k. k + 1) c.committed-number.ensures)
    start finish (c.advance.ensures order finish.seated)

pub returns-in_err-start-clause-err : goal.returns-in_err-start-clause-err
returns-in_err-start-clause-err g c =
    on_err c.from_residual.result (λ order s.
    start_fails order (seen c.args.seat.now) (seen c.start.new.self) (c.committed-number.result + 1) (ap (λ k. k + 1) c.committed-number.ensures)
    c.in_err-start.ensures.err (c.in_err-start.ensures.memory order s) s)
