-- Room is made where the node says that the unit can start, as the model does.
use Rattle.std.proofs.Common.{refl, sym, ◌∙◌}
use Rattle.cluster_core.specs.Seated.{seen}
use Rattle.cluster_core.proofs.SeatLaws.{roomy, on_err}
use Rattle.cluster_core.proofs.seat.Seat.make_room.Goals as goal

pub returns-in_err-reserve-clause-same : goal.returns-in_err-reserve-clause-same
returns-in_err-reserve-clause-same g c = roomy (seen c.args.self.now) (record (seen c.args.self.now) { done = c.reserve.new.self.entries }) refl c.reserve.ensures.entries.2

pub returns-in_err-reserve-clause-memory : goal.returns-in_err-reserve-clause-memory
returns-in_err-reserve-clause-memory g c =
    on_err c.from_residual.result (λ order s. sym (c.can_start.ensures order s.stands) ∙ c.if-can_start.true)

pub returns-in_ok-reserve-clause-same : goal.returns-in_ok-reserve-clause-same
returns-in_ok-reserve-clause-same g c = roomy (seen c.args.self.now) (record (seen c.args.self.now) { done = c.reserve.new.self.entries }) refl c.reserve.ensures.entries.2
