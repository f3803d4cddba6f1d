use Rattle.node_parts.proofs.SlotLaws.{has_sessions, few_slots}
use Rattle.node_parts.proofs.slots.Slots.session_end.Goals as goal

pub returns-clause-sessions : goal.returns-clause-sessions
returns-clause-sessions g c =
    has_sessions c.self.inside.end c.self.inside.places.items c.args.self.now
    c.self.view_is c.self.invariant

pub returns-clause-few : goal.returns-clause-few
returns-clause-few g c = few_slots c.self.inside.places.items c.args.self.now c.self.view_is
