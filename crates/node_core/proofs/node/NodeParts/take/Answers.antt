use Rattle.std.proofs.Common.{sym, ◌∙◌}
use Rattle.std.proofs.lemmas.Result.{IfOk-weaker}
use Rattle.node_core.specs.Stands.{plain_of}
use Rattle.node_core.proofs.TakeCalls.{take_away, own_does, other_does, own_report_does, others_write, others_report, view_stays}
use Rattle.node_core.proofs.node.NodeParts.take.Goals as goal

pub returns-then-not-is_connected-clause-ok : goal.returns-then-not-is_connected-clause-ok
returns-then-not-is_connected-clause-ok c order there stands =
    take_away order c.args.self.now stands (sym c.is_connected.ensures ∙ c.if-not-is_connected.true)

pub returns-then-member-self-clause-ok : goal.returns-then-member-self-clause-ok
returns-then-member-self-clause-ok c =
    IfOk-weaker c.take_own.result _ _ (λ r same order there stands.
    own_does order c.args.self.now stands c.args.event.now
    (sym c.is_connected.ensures ∙ c.if-not-is_connected.false) there c.in-Write.member
    c.in-Write.body r c.take_own.new.self c.in-Write.is c.if-member-self.true same)
    c.take_own.ensures.ok

pub returns-else-member-self-clause-ok : goal.returns-else-member-self-clause-ok
returns-else-member-self-clause-ok c =
    IfOk-weaker c.take_other.result _ _ (λ r same order there stands.
    other_does order c.args.self.now stands c.args.event.now
    (sym c.is_connected.ensures ∙ c.if-not-is_connected.false) there r c.take_other.new.self
    (others_write (plain_of c.args.self.now) c.args.event.now c.in-Write.member c.in-Write.body
    c.in-Write.is c.if-member-self.false) same) c.take_other.ensures.ok

pub returns-then-member-self-2-clause-ok : goal.returns-then-member-self-2-clause-ok
returns-then-member-self-2-clause-ok c =
    IfOk-weaker c.take_own_report.result _ _ (λ r same order there stands.
    own_report_does order c.args.self.now stands c.args.event.now
    (sym c.is_connected.ensures ∙ c.if-not-is_connected.false) there c.in-Report.member
    c.in-Report.number r c.take_own_report.new.self c.in-Report.is c.if-member-self-2.true same)
    c.take_own_report.ensures.ok

pub returns-else-member-self-2-clause-ok : goal.returns-else-member-self-2-clause-ok
returns-else-member-self-2-clause-ok c =
    IfOk-weaker c.take_other-else-member-self-2.result _ _ (λ r same order there stands.
    other_does order c.args.self.now stands c.args.event.now
    (sym c.is_connected.ensures ∙ c.if-not-is_connected.false) there r
    c.take_other-else-member-self-2.new.self
    (others_report (plain_of c.args.self.now) c.args.event.now c.in-Report.member
    c.in-Report.number c.in-Report.is c.if-member-self-2.false) same)
    c.take_other-else-member-self-2.ensures.ok

pub returns-in-View-clause-ok : goal.returns-in-View-clause-ok
returns-in-View-clause-ok c =
    IfOk-weaker c.take_other-in-View.result _ _ (λ r same order there stands.
    other_does order c.args.self.now stands c.args.event.now
    (sym c.is_connected.ensures ∙ c.if-not-is_connected.false) there r c.take_other-in-View.new.self
    (view_stays (plain_of c.args.self.now) c.args.event.now c.in-View.version c.in-View.members
    c.in-View.is) same) c.take_other-in-View.ensures.ok
