use Rattle.node_parts.proofs.UnitLaws.{table_added, room_added}
use Rattle.node_parts.proofs.units.Units.insert.Goals as goal

pub invariant_of-self : goal.invariant_of-self
invariant_of-self c =
    room_added c.self.inside.entries.entries c.insert.new.self.entries c.self.inside.room c.args.self.now c.args.number
    c.self.view_is c.args.keys c.args.rows c.in-Ok.ensures.updates.0 c.self.invariant c.requires.absent

pub returns-in-Ok-clause-ok : goal.returns-in-Ok-clause-ok
returns-in-Ok-clause-ok c =
    table_added c.self.inside.entries.entries c.insert.new.self.entries c.self.inside.room c.args.self.now c.args.number
    c.self.view_is c.args.keys c.args.rows c.in-Ok.ensures.updates.0
