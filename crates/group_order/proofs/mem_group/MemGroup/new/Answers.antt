-- The greatest member of the first view is its last.
use Rattle.std.proofs.Common.{List, ℕ, [], ◌∷◌, ◌++◌, ap, ◌∙◌}
use Rattle.order_event.specs.declared.event.Event.{Event}
use Rattle.order_event.specs.declared.event.Event.TheVariants.{View}
use Rattle.group_order.proofs.Members.{start_keeps}
use Rattle.group_order.proofs.mem_group.MemGroup.new.Goals as goal

pub invariant_of-result : goal.invariant_of-result
invariant_of-result c =
    start_keeps _ c.in_ok-members_to-2.field-0 c.args.members c.requires.few
    (c.events-2.view_is ∙ c.in_ok-push.ensures.ok ∙ ap (λ (es : List Event). es ++ View 1 c.in_ok-members_to.field-0 ∷ []) c.new-events.ensures
    ∙ ap (λ (k : List ℕ). View 1 k ∷ []) c.in_ok-members_to.ensures)
    c.in_ok-members_to-2.ensures
