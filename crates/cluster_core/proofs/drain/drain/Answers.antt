-- The parts of the drain are the model's.
use Rattle.std.proofs.Common.{◌≡◌, sym, subst}
use Rattle.order_event.specs.declared.step.Act.TheVariants as act
use Rattle.order_event.specs.declared.step.Answer.TheVariants as answer
use Rattle.cluster_core.specs.Seated.{seen}
use Rattle.cluster_core.specs.declared.fault.StepFault.TheVariants as fault
use Rattle.cluster_core.specs.Acts.{Acted, Failed}
use Rattle.cluster_core.proofs.ActLaws.{err_by}
use Rattle.cluster_core.proofs.DrainSerials.{sent_serials, taken_serials, certified_serials}
use Rattle.cluster_core.proofs.DrainLaws.{drain_not_sent, drain_not_taken, drain_not_certified, drain_not_committed, drain_done, sent_whole}
use Rattle.cluster_core.proofs.drain.drain.Goals as goal

pub commit_all-requires : goal.commit_all-requires
commit_all-requires g c = record {
  seated = (
    g.G.Group.order c.order_all.new.group,
    (c.in_ok-certify_all.ensures.ok (g.G.Group.order c.order_all.new.group) c.in_ok-take_rest.ensures.ok.seated).seated,
    sent_whole c.place-waiting.result.outbox (g.G.Group.order c.args.group.now) (g.G.Group.order c.order_all.new.group) (seen c.args.seat.now) (seen c.order_all.new.seat)
        c.in_ok-order_all.ensures.ok c.requires.events,
  );
  serials =
      let order = g.G.Group.order c.order_all.new.group in
      certified_serials (seen c.take_rest.new.seat) (seen c.certify_all.new.seat) _ order c.in_ok-take_rest.ensures.ok.seated c.in_ok-certify_all.ensures.ok
      (taken_serials (seen c.order_all.new.seat) (seen c.take_rest.new.seat) _ order c.in_ok-take_rest.ensures.ok
      (sent_serials (seen c.args.seat.now) (seen c.order_all.new.seat) _ _ order c.in_ok-order_all.ensures.ok c.requires.counts.serial));
}

pub returns-in_err-order_all-clause-err : goal.returns-in_err-order_all-clause-err
returns-in_err-order_all-clause-err g c =
    err_by _ _ c.from_residual.result c.from_residual.ensures.1 (λ e from.
    let same : e ≡ c.in_err-order_all.field-0.0 = cc in
    subst (Failed act.Drain (g.G.Group.order c.args.group.now) (g.G.Group.order c.order_all.new.group) (seen c.args.seat.now) (seen c.order_all.new.seat)) (sym same)
    (drain_not_sent c.place-waiting.result.outbox (g.G.Group.order c.args.group.now) (g.G.Group.order c.order_all.new.group) (seen c.args.seat.now)
    (seen c.order_all.new.seat) c.in_err-order_all.field-0.0 c.place-waiting.ensures.outbox c.in_err-order_all.ensures.err))

pub returns-in_err-take_rest-clause-err : goal.returns-in_err-take_rest-clause-err
returns-in_err-take_rest-clause-err g c =
    err_by _ _ c.from_residual-in_err-take_rest.result c.from_residual-in_err-take_rest.ensures.1 (λ e from.
    let same : e ≡ c.in_err-take_rest.field-0.0 = cc in
    subst (Failed act.Drain (g.G.Group.order c.args.group.now) (g.G.Group.order c.take_rest.new.group) (seen c.args.seat.now) (seen c.take_rest.new.seat)) (sym same)
    (subst (λ o. Failed act.Drain (g.G.Group.order c.args.group.now) o (seen c.args.seat.now) (seen c.take_rest.new.seat) c.in_err-take_rest.field-0.0)
    (sym c.in_err-take_rest.ensures.order)
    (drain_not_taken c.place-waiting.result.outbox (g.G.Group.order c.args.group.now) (g.G.Group.order c.order_all.new.group) (seen c.args.seat.now)
    (seen c.order_all.new.seat) c.place-waiting.ensures.outbox c.in_ok-order_all.ensures.ok c.saturating_sub-untaken.result (cc)
    (seen c.take_rest.new.seat) c.in_err-take_rest.field-0.0 c.in_err-take_rest.ensures.err)))

pub returns-in_err-certify_all-clause-err : goal.returns-in_err-certify_all-clause-err
returns-in_err-certify_all-clause-err g c =
    err_by _ _ c.from_residual-in_err-certify_all.result c.from_residual-in_err-certify_all.ensures.1 (λ e from.
    let same : e ≡ fault.NoMemory = cc in
    subst (Failed act.Drain (g.G.Group.order c.args.group.now) (g.G.Group.order c.take_rest.new.group) (seen c.args.seat.now) (seen c.certify_all.new.seat)) (sym same)
    (subst (λ o. Failed act.Drain (g.G.Group.order c.args.group.now) o (seen c.args.seat.now) (seen c.certify_all.new.seat) fault.NoMemory)
    (sym c.in_ok-take_rest.ensures.order)
    (drain_not_certified c.place-waiting.result.outbox (g.G.Group.order c.args.group.now) (g.G.Group.order c.order_all.new.group) (seen c.args.seat.now)
    (seen c.order_all.new.seat) c.place-waiting.ensures.outbox c.in_ok-order_all.ensures.ok c.saturating_sub-untaken.result (cc)
    (seen c.take_rest.new.seat) c.in_ok-take_rest.ensures.ok c.saturating_sub-uncertified.result (cc)
    (seen c.certify_all.new.seat) fault.NoMemory c.in_err-certify_all.ensures.err)))

pub returns-in_err-commit_all-clause-err : goal.returns-in_err-commit_all-clause-err
returns-in_err-commit_all-clause-err g c =
    err_by _ _ c.from_residual-in_err-commit_all.result c.from_residual-in_err-commit_all.ensures.1 (λ e from.
    let same : e ≡ fault.NoMemory = cc in
    subst (Failed act.Drain (g.G.Group.order c.args.group.now) (g.G.Group.order c.take_rest.new.group) (seen c.args.seat.now) (seen c.commit_all.new.seat)) (sym same)
    (subst (λ o. Failed act.Drain (g.G.Group.order c.args.group.now) o (seen c.args.seat.now) (seen c.commit_all.new.seat) fault.NoMemory)
    (sym c.in_ok-take_rest.ensures.order)
    (drain_not_committed c.place-waiting.result.outbox (g.G.Group.order c.args.group.now) (g.G.Group.order c.order_all.new.group) (seen c.args.seat.now)
    (seen c.order_all.new.seat) c.place-waiting.ensures.outbox c.in_ok-order_all.ensures.ok c.saturating_sub-untaken.result (cc)
    (seen c.take_rest.new.seat) c.in_ok-take_rest.ensures.ok c.saturating_sub-uncertified.result (cc)
    (seen c.certify_all.new.seat) c.in_ok-certify_all.ensures.ok c.saturating_sub-uncommitted.result (cc)
    (seen c.commit_all.new.seat) fault.NoMemory c.in_err-commit_all.ensures.err)))

pub returns-clause-ok : goal.returns-clause-ok
returns-clause-ok g c =
    let order = g.G.Group.order c.order_all.new.group in
    let sent = c.in_ok-order_all.ensures.ok in
    let taken = c.in_ok-take_rest.ensures.ok in
    let certified = c.in_ok-certify_all.ensures.ok in
    subst (λ o. Acted act.Drain (g.G.Group.order c.args.group.now) o (seen c.args.seat.now) (seen c.commit_all.new.seat) (answer.At c.committed-2.result)) (sym c.in_ok-take_rest.ensures.order)
    (drain_done c.place-waiting.result.outbox (g.G.Group.order c.args.group.now) order (seen c.args.seat.now) (seen c.order_all.new.seat) c.place-waiting.ensures.outbox sent
    c.saturating_sub-untaken.result (cc) (seen c.take_rest.new.seat) taken c.saturating_sub-uncertified.result (cc) (seen c.certify_all.new.seat) certified
    c.saturating_sub-uncommitted.result (cc) (seen c.commit_all.new.seat) c.committed-2.result c.in_ok-commit_all.ensures.ok c.committed-2.ensures)
