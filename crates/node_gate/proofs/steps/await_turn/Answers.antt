use Rattle.std.proofs.Common.{rules, refl, sym, ap, ◌∙◌, arith}
use Rattle.node_gate.specs.declared.view.Lock.TheVariants.{Serving}
use Rattle.node_gate.specs.Plays.{ticket_of, with_lock}
use Rattle.node_gate.proofs.Moves.{ticket_is, waits_as, look_allowed}
use Rattle.node_gate.proofs.steps.await_turn.Goals as goal

pub loop-init : goal.loop-init
loop-init g c = (search rules, refl, refl, refl)

pub load-requires : goal.load-requires
load-requires g c = let three = c.requires.serves.1 in (
  c.loop.invariant.1 ∙ c.requires.serves.0,
  omega arith,
  look_allowed _ _ _ _ _ _ _ (waits_as _ _ _ c.loop.invariant.3 c.requires.drew.1),
)

pub returns-then-load-ticket-clause-own : goal.returns-then-load-ticket-clause-own
returns-then-load-ticket-clause-own g c =
    (c.load.ensures.0 ∙ c.loop.invariant.1, c.load.ensures.1 ∙ c.loop.invariant.2)

pub returns-then-load-ticket-clause-turn : goal.returns-then-load-ticket-clause-turn
returns-then-load-ticket-clause-turn g c =
    let mine = ticket_is _ _ _ _ c.loop.invariant.3 c.requires.drew.1 c.requires.drew.2 in (
      _,
      c.load.ensures.2.0 (c.if-load-ticket.true ∙ mine)
          ∙ ap (with_lock (Serving (ticket_of c.loop.seat.me.0.lock))) c.loop.invariant.3,
    )

pub loop-preserved : goal.loop-preserved
loop-preserved g c =
    let mine = ticket_is _ _ _ _ c.loop.invariant.3 c.requires.drew.1 c.requires.drew.2 in (
      search rules,
      c.load.ensures.0 ∙ c.loop.invariant.1,
      c.load.ensures.1 ∙ c.loop.invariant.2,
      c.load.ensures.2.1 (λ e. c.if-load-ticket.false (e ∙ sym mine)) ∙ c.loop.invariant.3,
    )
