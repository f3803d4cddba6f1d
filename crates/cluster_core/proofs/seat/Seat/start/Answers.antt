-- More room for work changes no look-up, and the work of a unit that was started is kept.
use Rattle.std.proofs.Common.{◌<◌, ◌^◌, subst, sym, refl}
use Rattle.order_event.specs.declared.step.Act.TheVariants as act
use Rattle.node_meaning.specs.Node.{ModelNode}
use Rattle.node_meaning.specs.Steps.{node_step}
use Rattle.node_core.specs.Memory.{StartWants}
use Rattle.cluster_core.specs.Seated.{seen}
use Rattle.cluster_core.proofs.SeatLaws.{unchanged, then_unchanged, then_done, start_does, room_there, on_err}
use Rattle.cluster_core.proofs.seat.Seat.start.Goals as goal

pub start-requires-clause-serial : goal.start-requires-clause-serial
start-requires-clause-serial g c =
    subst (λ (n : ModelNode). n.at.serial < 2 ^ 63) (sym c.make_room.ensures.same.plain) c.requires.serial

pub keep-requires : goal.keep-requires
keep-requires g c =
    let s = c.requires.seated in
    let roomy = c.make_room.ensures.same.seated s.0 s.1 in
    room_there s.0 (seen c.args.self.now) (seen c.make_room.new.self) c.start.new.self.parts c.args.number _ c.in_ok-started.started c.make_room.ensures.same
    (c.in_ok-started.ensures.ok s.0 roomy.stands) (c.in_ok-make_room.ensures.room s.0 s.1)

pub returns-in_err-started-clause-err : goal.returns-in_err-started-clause-err
returns-in_err-started-clause-err g c =
    on_err c.from_residual-in_err-started.result
    (then_unchanged (seen c.args.self.now) (seen c.make_room.new.self) _ c.make_room.ensures.same
    (unchanged (seen c.make_room.new.self) (record (seen c.make_room.new.self) { node = c.start.new.self.parts }) c.in_err-started.ensures.err (λ k. refl)))

pub returns-in_err-started-clause-memory : goal.returns-in_err-started-clause-memory
returns-in_err-started-clause-memory g c =
    on_err c.from_residual-in_err-started.result (λ order s.
    subst (λ (n : ModelNode). StartWants order n c.args.number) c.make_room.ensures.same.plain
    (c.in_err-started.ensures.clear order (c.make_room.ensures.same.seated order s).stands))

pub returns-clause-ok : goal.returns-clause-ok
returns-clause-ok g c order s =
    let roomy = c.make_room.ensures.same.seated order s in
    rw c.keep.ensures.answer
    (then_done order (λ n. node_step order n (act.Start c.args.number)) (seen c.args.self.now) (seen c.make_room.new.self)
    (record { node = c.start.new.self.parts; done = c.keep.new.done.entries }) _ c.make_room.ensures.same
    (start_does order (seen c.make_room.new.self) (record { node = c.start.new.self.parts; done = c.keep.new.done.entries }) c.args.number roomy c.in_ok-started.started
    (c.in_ok-started.ensures.ok order roomy.stands) (c.in_ok-started.ensures.task order roomy.stands) c.keep.ensures.kept))
