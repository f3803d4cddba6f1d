-- All events are taken at once.
use Rattle.std.proofs.Common.{ℕ, ◌+◌, length, refl, sym, subst}
use Rattle.node_meaning.specs.declared.progress.Phase.TheVariants as phase
use Rattle.node_core.specs.declared.node.NodeParts.{NodeParts}
use Rattle.node_core.specs.Joining.{TookEvents}
use Rattle.node_core.proofs.JoinCalls.{after_events, took_events}
use Rattle.node_core.proofs.node.NodeParts.take_events.Goals as goal

pub returns-clause-ok : goal.returns-clause-ok
returns-clause-ok c =
    let old = c.args.self.now in
    let events = c.args.events.now in
    subst (λ (n : NodeParts). TookEvents events old (record n {
      at = record n.at { phase = phase.Connected; taken = n.at.taken + c.len.result };
    }) (n.at.taken + c.len.result)) (sym c.in_ok-keep_events.ensures.ok)
    (subst (λ (k : ℕ). TookEvents events old (after_events old events (old.at.taken + k))
    (old.at.taken + k)) (sym c.len.ensures)
    (took_events old events (old.at.taken + length events) refl c.requires.rests c.requires.fits))
