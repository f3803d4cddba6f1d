-- The node's status is the seat's.
use Rattle.cluster_core.specs.Seated.{seen}
use Rattle.cluster_core.proofs.SeatLaws.{status_does}
use Rattle.cluster_core.proofs.seat.Seat.status.Goals as goal

pub returns : goal.returns
returns g c order s =
    rw c.status_answer.ensures
    (status_does order (seen c.args.self.now) _ (c.status.ensures order s.stands) s)
