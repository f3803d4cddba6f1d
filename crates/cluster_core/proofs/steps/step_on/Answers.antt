-- The steps that may want memory, and those that do nothing.
use Rattle.std.proofs.Common.{◌≡◌, refl, subst}
use Rattle.order_event.specs.declared.step.Act.TheVariants as act
use Rattle.cluster_core.specs.Seated.{seen}
use Rattle.cluster_core.specs.Transfers.{IsAlone}
use Rattle.cluster_core.specs.declared.fault.StepFault.TheVariants as fault
use Rattle.cluster_core.proofs.ActLaws.{acted_alone, err_by, client_failed, certify_failed, start_failed, report_failed}
use Rattle.cluster_core.proofs.steps.step_on.Goals as goal

pub returns-in-Status-clause-ok : goal.returns-in-Status-clause-ok
returns-in-Status-clause-ok g c =
    rw c.in-Status.is
    (acted_alone act.Status (g.G.Group.order c.args.group.now) (seen c.args.seat.now) c.requires.kept (seen c.args.seat.now) c.status.result
    (c.status.ensures (g.G.Group.order c.args.group.now) c.requires.kept.seated)
    (λ _ _ _. refl))

pub unreachable-requires : goal.unreachable-requires
unreachable-requires g c = subst IsAlone c.in-Transfer.is c.requires.alone

pub returns-in_err-client-in-Client-clause-err : goal.returns-in_err-client-in-Client-clause-err
returns-in_err-client-in-Client-clause-err g c =
    err_by _ _ c.from_residual.result c.from_residual.ensures.1 (λ e from.
    let none : e ≡ fault.NoMemory = cc in
    client_failed (g.G.Group.order c.args.group.now) (seen c.args.seat.now) c.requires.kept (seen c.client.new.self) c.in_err-client-in-Client.ensures.err
    c.args.act.now e none _ _ c.in-Client.is c.in_err-client-in-Client.ensures.memory)

pub returns-in_err-certify-in-Certify-clause-err : goal.returns-in_err-certify-in-Certify-clause-err
returns-in_err-certify-in-Certify-clause-err g c =
    err_by _ _ c.from_residual-in_err-certify-in-Certify.result c.from_residual-in_err-certify-in-Certify.ensures.1 (λ e from.
    let none : e ≡ fault.NoMemory = cc in
    certify_failed (g.G.Group.order c.args.group.now) (seen c.args.seat.now) c.requires.kept (seen c.certify.new.self) c.in_err-certify-in-Certify.ensures.err
    c.args.act.now e none c.in-Certify.is c.in_err-certify-in-Certify.ensures.memory)

pub returns-in_err-start-in-Start-clause-err : goal.returns-in_err-start-in-Start-clause-err
returns-in_err-start-in-Start-clause-err g c =
    err_by _ _ c.from_residual-in_err-start-in-Start.result c.from_residual-in_err-start-in-Start.ensures.1 (λ e from.
    let none : e ≡ fault.NoMemory = cc in
    start_failed (g.G.Group.order c.args.group.now) (seen c.args.seat.now) c.requires.kept (seen c.start.new.self) c.in_err-start-in-Start.ensures.err
    c.args.act.now e none _ c.in-Start.is c.in_err-start-in-Start.ensures.memory)

pub returns-in_err-report-in-Report-clause-err : goal.returns-in_err-report-in-Report-clause-err
returns-in_err-report-in-Report-clause-err g c =
    err_by _ _ c.from_residual-in_err-report-in-Report.result c.from_residual-in_err-report-in-Report.ensures.1 (λ e from.
    let none : e ≡ fault.NoMemory = cc in
    report_failed (g.G.Group.order c.args.group.now) (seen c.args.seat.now) c.requires.kept (seen c.report.new.self) c.in_err-report-in-Report.ensures.err
    c.args.act.now e none c.in-Report.is c.in_err-report-in-Report.ensures.memory)
