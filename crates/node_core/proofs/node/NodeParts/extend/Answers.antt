-- The transaction that was taken out is put back, with more or as it was.
use Rattle.std.proofs.lemmas.Result.{IfOk-weaker, on_err_weaker}
use Rattle.node_core.proofs.Statements.{extended_told, put_back}
use Rattle.node_core.proofs.node.NodeParts.extend.Goals as goal

pub returns-clause-ok : goal.returns-clause-ok
returns-clause-ok c =
    IfOk-weaker c.grow-added.result _ _
    (λ told h t there. extended_told c.args.self.now c.grow-added.new.self c.args.session c.in-Some.trx t c.grow-added.new.trx
    c.take.new.self c.put.new.self told c.args.parts.now c.args.kind c.args.change c.in-Some.ensures.value there c.take.ensures.after h
    c.grow-added.ensures.others c.put.ensures)
    c.grow-added.ensures.ok

pub returns-clause-err : goal.returns-clause-err
returns-clause-err c =
    on_err_weaker c.grow-added.result
    (λ same. put_back c.args.self.now c.grow-added.new.self c.args.session c.in-Some.trx c.grow-added.new.trx c.take.new.self
    c.put.new.self c.in-Some.ensures.value c.take.ensures.after same.0 same.1 c.put.ensures)
    c.grow-added.ensures.err
