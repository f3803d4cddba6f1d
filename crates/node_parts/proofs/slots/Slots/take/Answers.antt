use Rattle.std.proofs.Common.{◌∙◌, sym}
use Rattle.node_parts.proofs.MapLaws.{removed_absent}
use Rattle.node_parts.proofs.SlotLaws.{taken_from, take_from, nothing_past, has_sessions, item_within}
use Rattle.node_parts.proofs.slots.Slots.take.Goals as goal

pub returns-then-session-lt33-clause-value : goal.returns-then-session-lt33-clause-value
returns-then-session-lt33-clause-value g c =
    c.take.ensures.value
    ∙ taken_from c.self.inside.places.items c.args.self.now c.args.session c.from-session.result c.index_mut.result.now
    c.self.view_is c.self.invariant.count c.from-session.ensures c.if-session-lt33.true c.index_mut.ensures.value

pub returns-then-session-lt33-clause-after : goal.returns-then-session-lt33-clause-after
returns-then-session-lt33-clause-after g c =
    take_from c.self.inside.places.items c.args.self.now c.args.session c.from-session.result c.take.new.self
    c.self.view_is c.self.invariant.count c.from-session.ensures c.if-session-lt33.true c.take.ensures.after

pub returns-then-session-lt33-clause-within : goal.returns-then-session-lt33-clause-within
returns-then-session-lt33-clause-within g c =
    item_within c.args.self.now c.args.session c.take.result
    (has_sessions c.self.inside.end c.self.inside.places.items c.args.self.now c.self.view_is
    c.self.invariant)
    (c.take.ensures.value
    ∙ taken_from c.self.inside.places.items c.args.self.now c.args.session c.from-session.result c.index_mut.result.now
    c.self.view_is c.self.invariant.count c.from-session.ensures c.if-session-lt33.true c.index_mut.ensures.value)

pub returns-else-session-lt33-clause-value : goal.returns-else-session-lt33-clause-value
returns-else-session-lt33-clause-value g c =
    sym (nothing_past c.self.inside.places.items c.args.self.now c.args.session c.from-session.result
    c.self.view_is c.self.invariant.count c.from-session.ensures c.if-session-lt33.false)

pub returns-else-session-lt33-clause-after : goal.returns-else-session-lt33-clause-after
returns-else-session-lt33-clause-after g c =
    sym (removed_absent c.args.self.now c.args.session
    (nothing_past c.self.inside.places.items c.args.self.now c.args.session c.from-session.result
    c.self.view_is c.self.invariant.count c.from-session.ensures c.if-session-lt33.false))
