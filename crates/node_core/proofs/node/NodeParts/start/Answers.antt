-- The unit is startable where the model starts it, and else the model answers the same.
use Rattle.std.proofs.Common.{sym, subst}
use Rattle.std.proofs.lemmas.Result.{IfOk-weaker}
use Rattle.node_core.specs.Starting.{IsStartable}
use Rattle.node_core.proofs.StartCalls.{starts_now, starts_done}
use Rattle.node_core.proofs.ClientCalls.{where_err}
use Rattle.node_core.proofs.node.NodeParts.start.Goals as goal

pub start_unit-requires : goal.start_unit-requires
start_unit-requires c = record {
  can = (
    c.requires.stands.0,
    (subst (IsStartable c.requires.stands.0 c.args.self.now c.args.number) (sym c.in_ok-keys-in-Ok.ensures)
        (c.in-Ok.ensures.ok c.requires.stands.0 c.requires.stands.1)).can,
  );
  serial = c.requires.serial;
}

pub returns-clause-ok : goal.returns-clause-ok
returns-clause-ok c =
    IfOk-weaker c.start_unit.result _ _ (λ r done order stands.
    let may = subst (IsStartable order c.args.self.now c.args.number) (sym c.in_ok-keys-in-Ok.ensures) (c.in-Ok.ensures.ok order stands) in
    starts_done order c.args.self.now c.args.number _ c.start_unit.new.self _ may (done order may.can).done) c.start_unit.ensures.ok

pub returns-clause-task : goal.returns-clause-task
returns-clause-task c =
    IfOk-weaker c.start_unit.result _ _ (λ r done order stands.
    let may = subst (IsStartable order c.args.self.now c.args.number) (sym c.in_ok-keys-in-Ok.ensures) (c.in-Ok.ensures.ok order stands) in
    (done order may.can).task) c.start_unit.ensures.ok

-- memory can be wanted only where the unit starts
pub returns-clause-clear : goal.returns-clause-clear
returns-clause-clear c =
    where_err c.start_unit.result (λ order stands.
    starts_now order c.args.self.now c.args.number _ (c.in-Ok.ensures.ok order stands))

pub returns-in_err-keys-in-Ok-clause-clear : goal.returns-in_err-keys-in-Ok-clause-clear
returns-in_err-keys-in-Ok-clause-clear c =
    where_err c.from_residual.result (λ order stands.
    starts_now order c.args.self.now c.args.number _ (c.in-Ok.ensures.ok order stands))
