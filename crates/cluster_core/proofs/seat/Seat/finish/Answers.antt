-- What is kept for the number is the work of a started unit, and where nothing is kept no unit is started.
use Rattle.std.proofs.Common.{refl, sym, ◌∙◌}
use Rattle.cluster_core.specs.Seated.{seen}
use Rattle.cluster_core.proofs.SeatLaws.{kept_started, finish_work, finish_does, finish_none}
use Rattle.cluster_core.proofs.seat.Seat.finish.Goals as goal

pub returns-in_default : goal.returns-in_default
returns-in_default g c order s =
    finish_none order (seen c.args.self.now) (record { node = c.args.self.now.node.parts; done = c.remove.new.self.entries }) c.args.number
    (sym c.remove.ensures.value ∙ c.in_default.is) refl c.in_default.ensures.unchanged s

pub finish-requires : goal.finish-requires
finish-requires g c = record {
  work = finish_work (seen c.args.self.now) c.args.number c.in-Some.done (sym c.remove.ensures.value ∙ c.in-Some.is) c.requires.seated;
}

pub unreachable-requires : goal.unreachable-requires
unreachable-requires g c =
    let e = kept_started (seen c.args.self.now) c.args.number c.in-Some.done (sym c.remove.ensures.value ∙ c.in-Some.is) c.requires.seated in
    let f = c.in-Err.ensures.none in cc

pub returns : goal.returns
returns g c order s =
    finish_does (seen c.args.self.now) c.args.number c.in-Some.done (sym c.remove.ensures.value ∙ c.in-Some.is) order
    (record { node = c.finish.new.self.parts; done = c.remove.new.self.entries }) s c.remove.ensures.updates.0 _ (c.in-Ok.ensures.ok order s.stands)
