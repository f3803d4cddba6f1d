-- A unit that is finished: the model's step, and what it leaves of the parts of a node.
use Rattle.std.proofs.Common.{◌≡◌, true, List, refl, sym, ap, subst, ◌∙◌, ℕ}
use Rattle.std.specs.Prelude.{Option, Some, None}
use Rattle.finite_map.specs.FiniteMap.{get}
use Rattle.apply_unit.specs.Task.{ModelTask}
use Rattle.order_event.specs.declared.event.Event.{Event}
use Rattle.order_event.specs.declared.step.Answer.TheVariants as answer
use Rattle.row_locks.specs.Alike.{HoldAlike}
use Rattle.node_meaning.specs.declared.progress.Stage.{Stage}
use Rattle.node_meaning.specs.declared.progress.Stage.TheVariants.{Started, Finished}
use Rattle.node_meaning.specs.Node.{ModelNode, ApplyUnit, locks_of}
use Rattle.node_meaning.specs.Steps.{finish_stage, finish_step}
use Rattle.node_meaning.specs.Units.{unit_task}
use Rattle.node_meaning.proofs.LockLaws.{locks_of-same_unit}
use Rattle.node_laws.proofs.StepFacts.{finish_keeps}
use Rattle.node_parts.specs.Units.{finished, finished_unit, is_started, is_started_stage}
use Rattle.node_core.specs.declared.node.NodeParts.{NodeParts}
use Rattle.node_core.proofs.Standing.{done_by, worked_put}
use Rattle.node_core.specs.Stands.{Stands, Tables, DoneOver, plain_of}

-- ---- the step
stage_step : (n : ModelNode) (number : ℕ) (u : ApplyUnit) (stage : Stage)
    → is_started_stage stage ≡ true
    → (answer.Finished number, record n { units = finished_unit n.units number (Some u) })
    ≡ finish_stage n number u.keys stage
stage_step n number u Started s = refl
stage_step n number u Finished s = cc

step_is : (n : ModelNode) (number : ℕ) (o : Option ApplyUnit) → get n.units number ≡ o
    → is_started o ≡ true
    → (answer.Finished number, record n { units = finished_unit n.units number o })
    ≡ finish_step n number
unfolding finish_step
step_is n number None there s = cc
step_is n number (Some u) there s = rw there (stage_step n number u u.stage s)

-- ---- the parts
pub unit_there : (o : Option ApplyUnit) → is_started o ≡ true → (u : ApplyUnit) × (o ≡ Some u)
unit_there None s = cc
unit_there (Some u) s = (u, refl)

-- ---- the call
module _ (order : List Event) (node : NodeParts) (done : ModelTask) (stands : Stands order node)
    (task : done ≡ unit_task order done.number)
    (started : is_started (get node.units.units done.number) ≡ true) where
  abbrev after : NodeParts
  after = record node { units = finished node.units done }

  tables : (u : ApplyUnit) → get node.units.units done.number ≡ Some u → Tables order after
  tables u there =
      let unit : ApplyUnit = record { stage = Finished; keys = u.keys } in
      let work = stands.tables.units.worked done.number u there in
      record {
        locks = subst (HoldAlike node.locks.locks)
            (sym (ap (λ o. locks_of node.live (finished_unit node.units.units done.number o)) there
            ∙ locks_of-same_unit node.live node.units.units done.number u unit there refl))
            stands.tables.locks;
        rows = stands.tables.rows;
        units = rw (there, work.1) (worked_put order node.units done.number unit
            (record { rows = work.0.rows; done = Some done }) node.units.room stands.tables.units
            (record { rows = work.2.rows; task = ap Some task }));
        room = stands.tables.room;
      }

  pub finish_done : DoneOver order (λ n. finish_step n done.number) node after
      (answer.Finished done.number)
  finish_done =
      let own = unit_there (get node.units.units done.number) started in
      done_by order (λ n. finish_step n done.number) node after (answer.Finished done.number) stands
      (step_is (plain_of node) done.number (get node.units.units done.number) refl started)
      (finish_keeps order (plain_of node) done.number) node.at.serial node.at.begin refl
      (record { ring = refl; since = refl; id = refl }) refl refl (tables own.0 own.1)
