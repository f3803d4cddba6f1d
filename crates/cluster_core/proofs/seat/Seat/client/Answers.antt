-- The node's call is the seat's.
use Rattle.std.proofs.Common.{refl}
use Rattle.cluster_core.specs.Seated.{seen}
use Rattle.cluster_core.proofs.SeatLaws.{unchanged, client_does, on_err}
use Rattle.cluster_core.proofs.seat.Seat.client.Goals as goal

pub returns-in_err-reply-clause-err : goal.returns-in_err-reply-clause-err
returns-in_err-reply-clause-err g c =
    on_err c.from_residual.result
    (unchanged (seen c.args.self.now) (record (seen c.args.self.now) { node = c.client.new.self.parts }) c.in_err-reply.ensures.err (λ k. refl))

pub returns-clause-ok : goal.returns-clause-ok
returns-clause-ok g c order s =
    client_does order c.args.session c.args.call.now (seen c.args.self.now) c.client.new.self.parts c.in_ok-reply.reply
    (c.in_ok-reply.ensures.ok order s.stands) s
