-- A node at its start has no unit, and no work is kept.
use Rattle.cluster_core.proofs.SeatLaws.{new_seated}
use Rattle.cluster_core.proofs.seat.Seat.new.Goals as goal

pub returns-clause-seated : goal.returns-clause-seated
returns-clause-seated g c order =
    new_seated order c.args.gcache c.args.id c.args.member (record { node = c.in_ok-new.field-0.parts; done = c.new-2.result.entries })
    c.in_ok-new.ensures.start c.new-2.ensures.empty (c.in_ok-new.ensures.stands order)
