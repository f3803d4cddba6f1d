-- A statement is refused for what it meets.
use Rattle.std.proofs.Common.{sym, ◌∙◌}
use Rattle.node_core.proofs.Statements.{refused}
use Rattle.node_core.proofs.node.NodeParts.statement.Goals as goal

pub returns-in-Some-hindrance-clause-ok : goal.returns-in-Some-hindrance-clause-ok
returns-in-Some-hindrance-clause-ok c order st =
    refused order c.args.self.now c.args.session c.args.id.now c.args.kind c.args.change
    c.in-Some.met (sym c.in-Some.is ∙ c.in_ok-met.ensures.met) st c.in-Some-hindrance.reply
    (sym c.in-Some-hindrance.ensures)
