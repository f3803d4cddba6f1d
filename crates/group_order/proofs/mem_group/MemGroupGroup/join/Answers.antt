-- A view with one member more has the new member as its greatest.
use Rattle.std.proofs.Common.{List, ℕ, [], ◌∷◌, ◌++◌, ◌+◌, ap, ◌∙◌}
use Rattle.order_event.specs.declared.event.Event.TheVariants.{View}
use Rattle.group_order.proofs.Members.{join_keeps}
use Rattle.group_order.proofs.mem_group.MemGroupGroup.join.Goals as goal

pub invariant_of-self-2 : goal.invariant_of-self-2
invariant_of-self-2 c =
    join_keeps c.self.inside.events c.push-2.new.self c.self.inside.version c.self.inside.members c.push.new.self c.self.inside.last c.self.invariant
    (c.in_ok-push.ensures.ok ∙ ap (λ (k : List ℕ). k ++ (c.self.inside.last + 1) ∷ []) c.in_ok-members.ensures)
    (c.in_ok-push-2.ensures.ok ∙ ap (λ (k : List ℕ). c.self.inside.events ++ View c.self.inside.version k ∷ []) c.in_ok-copy.ensures)
