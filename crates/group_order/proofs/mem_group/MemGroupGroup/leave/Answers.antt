-- A view with one member less has no new member.
use Rattle.std.proofs.Common.{List, ℕ, [], ◌∷◌, ◌++◌, ap, ◌∙◌}
use Rattle.order_event.specs.declared.event.Event.TheVariants.{View}
use Rattle.group_order.proofs.Members.{left_keeps}
use Rattle.group_order.proofs.mem_group.MemGroupGroup.leave.Goals as goal

pub invariant_of-self-2 : goal.invariant_of-self-2
invariant_of-self-2 c =
    left_keeps c.self.inside.events c.push.new.self c.args.member c.self.inside.version c.self.inside.members c.in_ok-members.members c.self.inside.last
    c.self.invariant c.in_ok-members.ensures
    (c.in_ok-push.ensures.ok ∙ ap (λ (k : List ℕ). c.self.inside.events ++ View c.self.inside.version k ∷ []) c.in_ok-copy.ensures)
