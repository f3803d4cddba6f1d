-- No view has a member above the greatest one.
use Rattle.std.proofs.Common.{◌≡◌, ℕ, ◌≤◌, true, List, Some, sym, ◌∙◌, true≢false, inl, inr}
use Rattle.std.specs.Prelude.{◌==◌, slice_get}
use Rattle.std.specs.List.{list_any}
use Rattle.std.proofs.lemmas.Bool.{cases_lt}
use Rattle.order_event.specs.declared.event.Event.{Event}
use Rattle.order_event.specs.declared.event.Event.TheVariants as event
use Rattle.group_order.specs.Order.{last_member}
use Rattle.node_laws.specs.Views.{ViewLacks}
use Rattle.node_laws.proofs.LastMember.{none_views}
use Rattle.course_laws.proofs.Growing.{all_at}

pub member_below : (order : List Event) (k j version : ℕ) (members : List ℕ)
    → slice_get order j ≡ Some (event.View version members)
    → list_any (λ m. m == k) members ≡ true → k ≤ last_member order
member_below order k j version members there has =
    elim (cases_lt (last_member order) k) [
      | inl above ↦ absurd (true≢false (sym has ∙ all_at (ViewLacks k) order
          (none_views order k above) j (event.View version members) there))
      | inr low ↦ low
    ]
