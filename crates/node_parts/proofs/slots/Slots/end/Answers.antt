use Rattle.node_parts.proofs.SlotLaws.{has_sessions, below_end}
use Rattle.node_parts.proofs.slots.Slots.end.Goals as goal

pub returns-clause-above : goal.returns-clause-above
returns-clause-above g c =
    below_end c.self.inside.end c.self.inside.places.items c.args.self.now
    c.self.view_is c.self.invariant

pub returns-clause-sessions : goal.returns-clause-sessions
returns-clause-sessions g c =
    has_sessions c.self.inside.end c.self.inside.places.items c.args.self.now
    c.self.view_is c.self.invariant
