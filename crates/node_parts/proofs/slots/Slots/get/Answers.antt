use Rattle.std.proofs.Common.{◌∙◌, None, arith}
use Rattle.node_parts.proofs.SlotLaws.{at_place}
use Rattle.node_parts.proofs.slots.Slots.get.Goals as goal

pub returns-in-Some : goal.returns-in-Some
returns-in-Some g c =
    c.as_ref.ensures.value ∙ c.in-Some.ensures.lookup.4 (omega arith) None
    ∙ at_place c.self.inside.places.items c.deref.result.now c.args.self.now c.args.session c.from.result
    c.self.view_is c.self.invariant.count c.deref.ensures.value c.from.ensures

pub returns-in-None : goal.returns-in-None
returns-in-None g c =
    c.in-None.ensures.lookup.4 (omega arith) None
    ∙ at_place c.self.inside.places.items c.deref.result.now c.args.self.now c.args.session c.from.result
    c.self.view_is c.self.invariant.count c.deref.ensures.value c.from.ensures
