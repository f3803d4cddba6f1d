-- The node's call is the seat's.
use Rattle.cluster_core.specs.Seated.{seen}
use Rattle.cluster_core.proofs.SeatLaws.{advance_does}
use Rattle.cluster_core.proofs.seat.Seat.advance.Goals as goal

pub returns : goal.returns
returns g c order s =
    rw c.advanced_answer.ensures
    (advance_does order (seen c.args.self.now) c.advance.new.self.parts _ (c.advance.ensures.does order s.stands) s)
