use Rattle.std.proofs.Common.{rules, ◌≤◌, sym, ap, ◌∙◌, subst}
use Rattle.std.specs.Fn.{FnOnceReturnsAtMut}
use Rattle.node_gate.specs.Calls.{IsLent}
use Rattle.node_gate.proofs.Turns.{risen, lent_of, owes, turned}
use Rattle.node_gate.proofs.gate.Gate.with_turn.Goals as goal

pub publish-requires-clause-rises : goal.publish-requires-clause-rises
publish-requires-clause-rises g c = let counted = g.C.Counted in
    let before = c.take-value.result in let after = c.act-answer.new.arg2 in
    let called : FnOnceReturnsAtMut g.F.FnOnce c.args.act before c.act-answer.result after =
    search rules in
    let changed = c.requires.adds before c.act-answer.result after
    (subst (λ v. IsLent counted.entries counted.number counted.mark counted.may v before)
    c.seat.view_is (lent_of counted.entries counted.number counted.mark counted.may _
    c.seat.inside.seat.me c.draw-ticket.new.seat.me c.await_turn.new.seat.me _ _ before
    c.draw-ticket.ensures.drew.2 c.await_turn.ensures.turn.1 c.take-value.ensures.took.0)) called in
    risen _ _ _ _ (ap (λ m. m.0.published) c.take-value.ensures.took.1) c.committed.ensures
    (subst (λ xs. counted.number (counted.entries before) ≤ counted.number xs) (sym changed.adds)
    (g.met.C.Counted.never_falls (counted.entries before) changed.added))

pub give-requires-clause-value : goal.give-requires-clause-value
give-requires-clause-value g c = let counted = g.C.Counted in
    let before = c.take-value.result in let after = c.act-answer.new.arg2 in
    let called : FnOnceReturnsAtMut g.F.FnOnce c.args.act before c.act-answer.result after =
    search rules in
    let changed = c.requires.adds before c.act-answer.result after
    (subst (λ v. IsLent counted.entries counted.number counted.mark counted.may v before)
    c.seat.view_is (lent_of counted.entries counted.number counted.mark counted.may _
    c.seat.inside.seat.me c.draw-ticket.new.seat.me c.await_turn.new.seat.me _ _ before
    c.draw-ticket.ensures.drew.2 c.await_turn.ensures.turn.1 c.take-value.ensures.took.0)) called in
    owes counted.entries counted.number counted.mark counted.may c.seat.inside.seat.table_id
    c.args.seat.now c.seat.inside.seat.me c.draw-ticket.new.seat.me c.await_turn.new.seat.me
    c.take-value.new.seat.me c.publish.new.seat.me _ _ _ _ before after c.seat.view_is
    c.draw-ticket.ensures.drew.2 c.await_turn.ensures.turn.1 c.take-value.ensures.took.0
    c.take-value.ensures.took.1 c.publish.ensures.shown changed

pub returns : goal.returns
returns g c = let counted = g.C.Counted in
    let before = c.take-value.result in let after = c.act-answer.new.arg2 in
    let called : FnOnceReturnsAtMut g.F.FnOnce c.args.act before c.act-answer.result after =
    search rules in
    let changed = c.requires.adds before c.act-answer.result after
    (subst (λ v. IsLent counted.entries counted.number counted.mark counted.may v before)
    c.seat.view_is (lent_of counted.entries counted.number counted.mark counted.may _
    c.seat.inside.seat.me c.draw-ticket.new.seat.me c.await_turn.new.seat.me _ _ before
    c.draw-ticket.ensures.drew.2 c.await_turn.ensures.turn.1 c.take-value.ensures.took.0)) called in
    turned counted.entries counted.number counted.mark counted.may c.seat.inside.seat.table_id
    c.args.seat.now c.seat.inside.seat.me c.draw-ticket.new.seat.me c.await_turn.new.seat.me
    c.take-value.new.seat.me c.publish.new.seat.me _ _ _ _ before after c.seat.view_is
    c.draw-ticket.ensures.drew.2 c.await_turn.ensures.turn.1 c.take-value.ensures.took.0
    c.take-value.ensures.took.1 c.publish.ensures.shown
    (FnOnceReturnsAtMut g.F.FnOnce c.args.act) c.act-answer.result c.release.new.seat.table_id
    c.give.new.seat.me c.release.new.seat.me c.give.ensures.gave.0 called changed.kept
    c.committed.ensures c.give.ensures.gave.1 c.give.ensures.gave.2 c.release.ensures.idle
    (c.release.ensures.own.0 ∙ c.give.ensures.own.0 ∙ c.publish.ensures.own.0
    ∙ c.take-value.ensures.own.0 ∙ c.await_turn.ensures.own.0 ∙ c.draw-ticket.ensures.own.0)
