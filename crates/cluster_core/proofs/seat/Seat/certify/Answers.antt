-- The node's call is the seat's.
use Rattle.std.proofs.Common.{refl}
use Rattle.cluster_core.specs.Seated.{seen}
use Rattle.cluster_core.proofs.SeatLaws.{unchanged, certify_does, on_err}
use Rattle.cluster_core.proofs.seat.Seat.certify.Goals as goal

pub returns-in_err-certified-clause-err : goal.returns-in_err-certified-clause-err
returns-in_err-certified-clause-err g c =
    on_err c.from_residual.result
    (unchanged (seen c.args.self.now) (record (seen c.args.self.now) { node = c.certify.new.self.parts }) c.in_err-certified.ensures.err (λ k. refl))

pub returns-clause-ok : goal.returns-clause-ok
returns-clause-ok g c order s =
    rw c.certified_answer.ensures
    (certify_does order (seen c.args.self.now) c.certify.new.self.parts _ (c.in_ok-certified.ensures.ok order s.stands) s)
