-- The model orders the same message, and the node counts it as ordered.
use Rattle.std.proofs.Common.{sym, ◌∙◌, ap}
use Rattle.std.specs.Option.{option_copied}
use Rattle.cluster_core.specs.Seated.{seen}
use Rattle.cluster_core.proofs.ActLaws.{order_none, order_done}
use Rattle.cluster_core.proofs.OrderLaws.{message_fits}
use Rattle.cluster_core.proofs.steps.order_first.Goals as goal

pub returns-in_default-clause-ok : goal.returns-in_default-clause-ok
returns-in_default-clause-ok g c =
    order_none (g.G.Group.order c.args.group.now) (seen c.args.seat.now) (sym c.first_out.ensures ∙ ap option_copied c.in_default.is) c.requires.kept

pub returns-clause-ok : goal.returns-clause-ok
returns-clause-ok g c =
    order_done (g.G.Group.order c.args.group.now) (g.G.Group.order c.order.new.self) (seen c.args.seat.now) c.sent_out.new.self.parts c.in-Some.message.now
    c.in_ok-number.number (sym c.first_out.ensures ∙ ap option_copied c.in-Some.is)
    (message_fits c.args.seat.now.node.parts.at.member c.in-Some.message.now c.message_in_range.ensures)
    (let e = c.in_ok-number.ensures.ok in let f = c.place-member.ensures.member in cc)
    c.in_ok-number.ensures.number
    (c.sent_out.ensures.does (g.G.Group.order c.args.group.now) c.requires.kept.seated.stands) c.requires.kept
