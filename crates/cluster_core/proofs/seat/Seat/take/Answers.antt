-- The node's call is the seat's.
use Rattle.std.proofs.Common.{refl}
use Rattle.cluster_core.specs.Seated.{seen}
use Rattle.cluster_core.proofs.SeatLaws.{unchanged, take_does, on_err}
use Rattle.cluster_core.proofs.seat.Seat.take.Goals as goal

pub returns-in_err-taken-clause-err : goal.returns-in_err-taken-clause-err
returns-in_err-taken-clause-err g c =
    on_err c.from_residual.result
    (unchanged (seen c.args.self.now) (record (seen c.args.self.now) { node = c.take.new.self.parts }) c.in_err-taken.ensures.err (λ k. refl))

pub returns-clause-ok : goal.returns-clause-ok
returns-clause-ok g c order there s =
    rw c.taken_answer.ensures
    (take_does order (seen c.args.self.now) c.take.new.self.parts _ (c.in_ok-taken.ensures.ok order there s.stands) s)
