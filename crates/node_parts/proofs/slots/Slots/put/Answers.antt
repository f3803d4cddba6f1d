use Rattle.node_parts.proofs.SlotLaws.{put_in}
use Rattle.node_parts.proofs.slots.Slots.put.Goals as goal

pub returns : goal.returns
returns g c =
    put_in c.self.inside.places.items c.args.self.now c.args.session c.from.result c.args.item
    c.self.view_is c.self.invariant.count c.from.ensures c.requires.high
