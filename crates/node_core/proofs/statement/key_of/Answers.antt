-- A key that is added to no keys makes the set of one key.
use Rattle.node_core.proofs.Statements.{one_more}
use Rattle.node_core.proofs.statement.key_of.Goals as goal

pub returns-in-Ok : goal.returns-in-Ok
returns-in-Ok c = one_more c.in_ok-key.key c.add.new.self c.args.parts.now c.args.kind c.in_ok-key.ensures.empty c.in-Ok.ensures.ok
