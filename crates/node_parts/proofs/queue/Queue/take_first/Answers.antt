use Rattle.std.proofs.Common.{◌≡◌, ◌<◌, ◌-◌, ◌∙◌, sym, ap, arith}
use Rattle.std.proofs.lemmas.Grind.{common_steps}
use Rattle.std.specs.List.{remove}
use Rattle.node_parts.specs.Kinds.{is_kind}
use Rattle.node_parts.proofs.QueueLaws.{queue_of, taken_one, taken_none, placed_below}
use Rattle.node_parts.proofs.queue.Queue.take_first.Goals as goal

pub returns-in-Some : goal.returns-in-Some
returns-in-Some c =
    let below : c.in-Some.at < c.self.inside.ordered =
    placed_below (is_kind c.args.kind) c.self.inside.messages.items c.self.inside.ordered c.in-Some.at c.self.invariant (sym c.in-Some.ensures) in
    let items : c.remove.new.self.items ≡ remove c.self.inside.messages.items c.in-Some.at = grind (arith, common_steps) in
    ap (λ l. queue_of l (c.self.inside.ordered - 1)) items
    ∙ taken_one (is_kind c.args.kind) c.self.inside.messages.items c.self.inside.ordered c.in-Some.at c.args.self.now
    c.self.view_is below (sym c.in-Some.ensures)

pub returns-in_default : goal.returns-in_default
returns-in_default c =
    taken_none (is_kind c.args.kind) c.self.inside.messages.items c.self.inside.ordered c.args.self.now c.self.view_is (sym c.in_default.ensures)
