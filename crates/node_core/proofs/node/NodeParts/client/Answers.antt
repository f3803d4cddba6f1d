-- A waiting answer comes first, then the rules before the table, and then the table of calls.
use Rattle.std.proofs.Common.{sym, subst}
use Rattle.std.proofs.lemmas.Result.{IfOk-weaker, on_err_weaker}
use Rattle.node_core.specs.declared.node.NodeParts.{NodeParts}
use Rattle.node_core.specs.Stands.{Unchanged}
use Rattle.node_core.proofs.Statements.{told, as_before, not_done, done}
use Rattle.node_core.proofs.node.NodeParts.client.Goals as goal

pub returns-in-Some-clause-ok : goal.returns-in-Some-clause-ok
returns-in-Some-clause-ok c order st =
    told order c.args.self.now c.args.session c.args.call.now c.take.new.self c.take.ensures.after
    st c.in-Some.reply (sym c.in-Some.ensures.value)

pub returns-in-Some-closed-clause-ok : goal.returns-in-Some-closed-clause-ok
returns-in-Some-closed-clause-ok c order st =
    not_done order c.args.self.now c.args.session c.args.call.now c.take.new.self
    c.take.ensures.after (sym c.in_default.ensures.value) st c.in-Some-closed.reply
    (sym c.in-Some-closed.ensures)

pub returns-clause-ok : goal.returns-clause-ok
returns-clause-ok c =
    IfOk-weaker c.serve.result _ _
    (λ said does order. done order c.args.self.now c.args.session c.args.call.now c.take.new.self
    c.take.ensures.after (sym c.in_default.ensures.value) c.serve.new.self said
    (sym c.in_default-closed.ensures) does)
    c.serve.ensures.ok

-- a call of the table that lacks memory
pub returns-clause-err : goal.returns-clause-err
returns-clause-err c =
    on_err_weaker c.serve.result
    (subst (λ (n : NodeParts). Unchanged n c.serve.new.self)
    (as_before c.requires.stands.0 c.args.self.now c.args.session c.args.call.now c.take.new.self
    c.take.ensures.after (sym c.in_default.ensures.value)))
    c.serve.ensures.err
