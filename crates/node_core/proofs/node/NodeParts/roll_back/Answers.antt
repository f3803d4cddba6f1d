-- The rollback that is due is sent, and the live transaction ends.
use Rattle.std.proofs.Common.{sym}
use Rattle.node_core.proofs.Standing.{unchanged}
use Rattle.node_core.proofs.ClientCalls.{rolled_back, sends_back, where_err}
use Rattle.node_core.proofs.node.NodeParts.roll_back.Goals as goal

pub returns-clause-ok : goal.returns-clause-ok
returns-clause-ok c order st =
    rolled_back order c.args.self.now c.send_any.new.self c.end.new.self c.args.session c.in-Some.trx.now c.in_ok-due.due
    (sym c.in-Some.ensures) c.progress_in_range.ensures c.in_ok-due.ensures.set c.in_ok-send_any.ensures.ok c.end.ensures st

pub returns-in_err-send_any-clause-err : goal.returns-in_err-send_any-clause-err
returns-in_err-send_any-clause-err c =
    where_err _ (unchanged c.args.self.now c.send_any.new.self c.in_err-send_any.ensures.err)

pub returns-in_err-send_any-clause-sends : goal.returns-in_err-send_any-clause-sends
returns-in_err-send_any-clause-sends c =
    where_err _ (sends_back _ c.in-Some.trx.now c.in_ok-due.due c.args.self.now.at.serial c.args.self.now.at.committed
    (sym c.in-Some.ensures) c.in_ok-due.ensures.set c.in_err-send_any.ensures.some)
