-- A commit of nothing ends the transaction; else its write set is put at the end of the queue.
use Rattle.std.proofs.Common.{refl, sym, ◌∙◌, ◌≡◌}
use Rattle.std.specs.Prelude.{Some}
use Rattle.finite_map.specs.FiniteMap.{get}
use Rattle.node_core.proofs.Standing.{unchanged}
use Rattle.node_core.proofs.ClientCalls.{committed_nothing, commit_sent, sent_node, nothing_done, some_done, sends, where_err}
use Rattle.node_core.proofs.node.NodeParts.commit.Goals.{else-is_empty-via-then-is_empty+else-sent-eq0, else-is_empty-via-else-is_empty}
use Rattle.node_core.proofs.node.NodeParts.commit.Goals as goal

pub returns-then-sent-eq0-clause-ok : goal.returns-then-sent-eq0-clause-ok
returns-then-sent-eq0-clause-ok c order st =
    committed_nothing order c.args.self.now c.end.new.self c.args.session c.in-Some.trx.now
    (sym c.in-Some.ensures) c.requires.running
    (nothing_done c.in-Some.trx.now.ops c.in-Some.trx.now.sent
    (sym c.ops.ensures.value ∙ c.if-is_empty.ensures.0 refl)
    (sym c.sent.ensures ∙ c.if-sent-eq0.true))
    c.progress_in_range.ensures c.end.ensures st

pub returns-clause-ok : goal.returns-clause-ok
returns-clause-ok c order st =
    let t = c.in-Some.trx.now in
    let old = c.args.self.now in
    let is : get old.live c.args.session ≡ Some t = sym c.in-Some.ensures in
    commit_sent order old c.commit_is_sent.new.self c.args.session t is c.requires.running
    (some_done t.ops t.sent (λ empty none. elim c.else-is_empty.branch [
      | else-is_empty-via-then-is_empty+else-sent-eq0 w ↦ w.if-sent-eq0.false (w.sent.ensures ∙ none)
      | else-is_empty-via-else-is_empty w ↦
          let full = c.is_empty.ensures.1 (c.ops.ensures.value ∙ empty) in absurd cc
    ]))
    c.progress_in_range.ensures
    (c.commit_is_sent.ensures
    ∙ sent_node old c.send.new.self c.args.session t c.in_ok-set.set is c.in_ok-send.ensures.ok
    c.in_ok-set.ensures.set) st

pub returns-in_err-set-clause-sends : goal.returns-in_err-set-clause-sends
returns-in_err-set-clause-sends c =
    let t = c.in-Some.trx.now in
    sends _ _ t (sym c.in-Some.ensures)
    (some_done t.ops t.sent (λ empty none. elim c.else-is_empty.branch [
      | else-is_empty-via-then-is_empty+else-sent-eq0 w ↦ w.if-sent-eq0.false (w.sent.ensures ∙ none)
      | else-is_empty-via-else-is_empty w ↦
          let full = c.is_empty.ensures.1 (c.ops.ensures.value ∙ empty) in absurd cc
    ]))

pub returns-in_err-send-clause-sends : goal.returns-in_err-send-clause-sends
returns-in_err-send-clause-sends c =
    let t = c.in-Some.trx.now in
    sends _ _ t (sym c.in-Some.ensures)
    (some_done t.ops t.sent (λ empty none. elim c.else-is_empty.branch [
      | else-is_empty-via-then-is_empty+else-sent-eq0 w ↦ w.if-sent-eq0.false (w.sent.ensures ∙ none)
      | else-is_empty-via-else-is_empty w ↦
          let full = c.is_empty.ensures.1 (c.ops.ensures.value ∙ empty) in absurd cc
    ]))

pub returns-in_err-send-clause-err : goal.returns-in_err-send-clause-err
returns-in_err-send-clause-err c =
    where_err _ (unchanged c.args.self.now c.send.new.self c.in_err-send.ensures.err)
