-- By the phase of the node, and by whether it has committed its view.
use Rattle.std.proofs.Common.{ap}
use Rattle.node_core.proofs.ReportCalls.{report_left, report_joining, report_early, report_sent}
use Rattle.node_core.proofs.node.NodeParts.report.Goals as goal

pub returns-in-Left-clause-ok : goal.returns-in-Left-clause-ok
returns-in-Left-clause-ok c order st = report_left order c.args.self.now st c.in-Left.is

pub returns-in-Joining-clause-ok : goal.returns-in-Joining-clause-ok
returns-in-Joining-clause-ok c order st = report_joining order c.args.self.now st c.in-Joining.is

pub returns-in-Connected-clause-ok : goal.returns-in-Connected-clause-ok
returns-in-Connected-clause-ok c order st =
    report_early order c.args.self.now st c.in-Connected.is c.if-self.true

pub returns-in_ok-push-in-Connected-2-clause-ok : goal.returns-in_ok-push-in-Connected-2-clause-ok
returns-in_ok-push-in-Connected-2-clause-ok c order st =
    report_sent order c.args.self.now st c.in-Connected-2.is c.if-self.false _
    (ap (λ q. record c.args.self.now { queue = q }) c.in_ok-push-in-Connected-2.ensures.ok)
