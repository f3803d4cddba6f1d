-- The seats are what the model's nodes become.
use Rattle.std.proofs.Common.{sym, ap, ◌∙◌, arith}
use Rattle.node_meaning.specs.Node.{is_joining}
use Rattle.cluster_core.proofs.ActLaws.{item_there}
use Rattle.cluster_core.proofs.SeatLaws.{on_err}
use Rattle.cluster_core.proofs.TransferSteps.{no_donor, no_offer, receives, offered_none, offered_some, not_taken}
use Rattle.cluster_core.proofs.transfer.transfer.Goals as goal

pub returns-then-from-len-clause-ok : goal.returns-then-from-len-clause-ok
returns-then-from-len-clause-ok g c order can =
    let there = item_there c.args.seats.now.items c.args.at c.index.result.now c.requires.at
    c.index.ensures in
    let from_is = c.from-from.ensures ∙ c.saturating_sub.ensures in
    let past = c.if-from-len.true in
    let many = c.len.ensures in
    no_donor order c.args.seats.now.items c.args.at c.args.donor c.index.result.now there can
    (ap is_joining (sym c.place-joiner.ensures.phase) ∙ sym c.is_joining.ensures
    ∙ c.if-not-is_joining.false) (omega (arith, from_is, past, many))

pub returns-in_err-answer-clause-err : goal.returns-in_err-answer-clause-err
returns-in_err-answer-clause-err g c =
    on_err c.from_residual.result (λ order can.
    no_offer c.args.seats.now.items c.args.at c.args.donor _ _ _ _ _ _ c.requires.at
    c.index.ensures c.index-2.ensures
    (let many = c.len.ensures in let few = c.if-from-len.false in omega (arith, few, many))
    c.index-3.ensures (c.from-from.ensures ∙ c.saturating_sub.ensures) c.place-joiner.ensures.phase
    (sym c.is_joining.ensures ∙ c.if-not-is_joining.false) c.place-joiner.ensures.view
    c.place-joiner.ensures.id c.committed-committed.ensures order can
    (c.in_err-answer.ensures.err order _))

pub receive-requires : goal.receive-requires
receive-requires g c = record {
  awaits = receives c.args.seats.now.items c.args.at c.args.donor _ _ _ _ _ _ c.requires.at
      c.index.ensures c.index-2.ensures
      (let many = c.len.ensures in let few = c.if-from-len.false in omega (arith, few, many))
      c.index-3.ensures (c.from-from.ensures ∙ c.saturating_sub.ensures)
      c.place-joiner.ensures.phase (sym c.is_joining.ensures ∙ c.if-not-is_joining.false) c.place-joiner.ensures.view
      c.place-joiner.ensures.id c.committed-committed.ensures c.requires.able.0
      c.requires.able.1 c.in_ok-answer.field-0 (c.in_ok-answer.ensures.ok c.requires.able.0 _)
      c.in-Some.gift c.in-Some.is c.index_mut.result.now c.index_mut.ensures.value;
}

pub returns-in_err-receive-clause-err : goal.returns-in_err-receive-clause-err
returns-in_err-receive-clause-err g c =
    on_err c.from_residual-in_err-receive.result (λ order can.
    not_taken c.args.seats.now.items c.args.at c.args.donor _ _ _ _ _ _ c.requires.at
    c.index.ensures c.index-2.ensures
    (let many = c.len.ensures in let few = c.if-from-len.false in omega (arith, few, many))
    c.index-3.ensures (c.from-from.ensures ∙ c.saturating_sub.ensures) c.place-joiner.ensures.phase
    (sym c.is_joining.ensures ∙ c.if-not-is_joining.false) c.place-joiner.ensures.view
    c.place-joiner.ensures.id c.committed-committed.ensures order can
    c.in_ok-answer.field-0 (c.in_ok-answer.ensures.ok order _) c.in-Some.gift c.in-Some.is
    c.index_mut.result.now c.index_mut.ensures.value c.receive.new.self
    c.in_err-receive.ensures.err)

pub returns-clause-ok : goal.returns-clause-ok
returns-clause-ok g c order can =
    offered_some c.args.seats.now.items c.args.at c.args.donor _ _ _ _ _ _ c.requires.at
    c.index.ensures c.index-2.ensures
    (let many = c.len.ensures in let few = c.if-from-len.false in omega (arith, few, many))
    c.index-3.ensures (c.from-from.ensures ∙ c.saturating_sub.ensures) c.place-joiner.ensures.phase
    (sym c.is_joining.ensures ∙ c.if-not-is_joining.false) c.place-joiner.ensures.view
    c.place-joiner.ensures.id c.committed-committed.ensures order can
    c.in_ok-answer.field-0 (c.in_ok-answer.ensures.ok order _) c.in-Some.gift c.in-Some.is
    c.index_mut.result.now c.index_mut.ensures.value c.receive.new.self c.in_ok-receive.ensures.ok

pub returns-in_default-clause-ok : goal.returns-in_default-clause-ok
returns-in_default-clause-ok g c order can =
    offered_none c.args.seats.now.items c.args.at c.args.donor _ _ _ _ _ _ c.requires.at
    c.index.ensures c.index-2.ensures
    (let many = c.len.ensures in let few = c.if-from-len.false in omega (arith, few, many))
    c.index-3.ensures (c.from-from.ensures ∙ c.saturating_sub.ensures) c.place-joiner.ensures.phase
    (sym c.is_joining.ensures ∙ c.if-not-is_joining.false) c.place-joiner.ensures.view
    c.place-joiner.ensures.id c.committed-committed.ensures order can
    c.in_ok-answer.field-0 (c.in_ok-answer.ensures.ok order _) c.in_default.is
