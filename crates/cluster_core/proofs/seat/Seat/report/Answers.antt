-- The node's call is the seat's.
use Rattle.std.proofs.Common.{refl}
use Rattle.cluster_core.specs.Seated.{seen}
use Rattle.cluster_core.proofs.SeatLaws.{unchanged, report_does, on_err}
use Rattle.cluster_core.proofs.seat.Seat.report.Goals as goal

pub returns-in_err-reported-clause-err : goal.returns-in_err-reported-clause-err
returns-in_err-reported-clause-err g c =
    on_err c.from_residual.result
    (unchanged (seen c.args.self.now) (record (seen c.args.self.now) { node = c.report.new.self.parts }) c.in_err-reported.ensures.err (λ k. refl))

pub returns-clause-ok : goal.returns-clause-ok
returns-clause-ok g c order s =
    rw c.reported_answer.ensures
    (report_does order (seen c.args.self.now) c.report.new.self.parts _ (c.in_ok-reported.ensures.ok order s.stands) s)
