use Rattle.std.proofs.Common.{◌≡◌, ℕ, ◌∙◌, ap, replicate, None, arith}
use Rattle.node_parts.proofs.SlotLaws.{new_slots, slots-empty}
use Rattle.node_parts.proofs.slots.Slots.new.Goals as goal

pub invariant_of-result : goal.invariant_of-result
invariant_of-result g c = new_slots c.loop.places.items c.loop.counter c.loop.invariant (omega arith)

pub returns : goal.returns
returns g c =
    let e : c.loop.counter ≡ 33 = omega arith in
    slots-empty c.loop.places.items (c.loop.invariant ∙ ap (λ (n : ℕ). replicate n None) e)
