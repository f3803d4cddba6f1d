use Rattle.std.proofs.Common.{sym, ap, ◌∙◌}
use Rattle.finite_map.specs.FiniteMap.{insert}
use Rattle.node_core.proofs.KillCalls.{kill_none, kill_lives, kill_ends}
use Rattle.node_core.proofs.node.NodeParts.kill.Goals as goal

pub returns-in_default : goal.returns-in_default
returns-in_default c =
    kill_none c.args.self.now c.take.new.self c.args.number c.args.session (sym c.take.ensures.value ∙ c.in_default.is) c.take.ensures.after

pub returns-in-Lives : goal.returns-in-Lives
returns-in-Lives c =
    kill_lives c.args.self.now c.args.number c.args.session c.in-Some.trx c.abort.new.locks c.roll_back.new.self
    (sym c.take.ensures.value ∙ c.in-Some.is)
    c.abort.ensures.locks c.abort.ensures.spare c.roll_back.ensures.committed c.roll_back.ensures.changes c.roll_back.ensures.spare
    c.abort.new.trx c.put.new.self
    (c.put.ensures ∙ ap (λ m. insert m c.args.session c.abort.new.trx) c.take.ensures.after)
    c.abort.result c.in-Lives.is c.abort.ensures.killed

pub returns-in-Ends : goal.returns-in-Ends
returns-in-Ends c =
    kill_ends c.args.self.now c.args.number c.args.session c.in-Some.trx c.abort.new.locks c.roll_back.new.self
    (sym c.take.ensures.value ∙ c.in-Some.is)
    c.abort.ensures.locks c.abort.ensures.spare c.roll_back.ensures.committed c.roll_back.ensures.changes c.roll_back.ensures.spare
    c.abort.new.trx c.in-Ends.reply c.take.new.self c.put-in-Ends.new.self c.take.ensures.after c.put-in-Ends.ensures
    c.abort.result c.in-Ends.is c.abort.ensures.killed
