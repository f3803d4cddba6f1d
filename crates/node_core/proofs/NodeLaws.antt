-- The laws of a node for callers: it stands for each order that goes on from its own, and after want of memory; and over each
-- order for which it stands the task of a started unit is the same.
use Rattle.std.proofs.Common.{◌≡◌, ℕ, true, List, Option, Some, refl, sym, ap, subst, ◌∙◌}
use Rattle.std.specs.Prelude.{IsTrue, is_some}
use Rattle.std.proofs.lemmas.Option.{same_Some}
use Rattle.finite_map.specs.FiniteMap.{get}
use Rattle.row_model.specs.declared.ops.Op.{Op}
use Rattle.row_model.specs.Rows.{Rows}
use Rattle.order_event.specs.declared.event.Event.{Event}
use Rattle.cert_meaning.specs.declared.items.CommitItem.{CommitItem}
use Rattle.apply_unit.specs.Task.{task}
use Rattle.certification.proofs.Ahead.{changes-is}
use Rattle.node_meaning.specs.Node.{ApplyUnit, rows_at}
use Rattle.node_meaning.specs.Units.{ops_at, unit_task, images_of}
use Rattle.node_meaning.specs.Steps.{is_started, advance_step}
use Rattle.node_meaning.proofs.UnitLaws.{task-unit}
use Rattle.node_laws.proofs.StartedUnits as units
use Rattle.node_core.specs.declared.node.NodeParts.{NodeParts}
use Rattle.node_core.specs.Stands.{Stands, plain_of}
use Rattle.node_core.proofs.FinishCalls.{unit_there}
pub use Rattle.node_core.proofs.ClientCalls.{unchanged_stands}
pub use Rattle.node_core.proofs.Growth.{stands_grow}

module _ (order other : List Event) (node : NodeParts) (st : Stands order node) (su : Stands other node) (number : ℕ) where
  same_ops : (u : ApplyUnit) → get node.units.units number ≡ Some u → ops_at order number ≡ ops_at other number
  same_ops u there =
      let one = st.facts.units number u there in
      let two = su.facts.units number u there in
      same_Some (ops_at order number) (ops_at other number)
      (sym (changes-is order node.at.committed node.at.certified node.certification st.certification number one.above one.within (subst (λ (o : Option CommitItem). IsTrue (is_some o)) (sym one.is_commit) refl))
      ∙ changes-is other node.at.committed node.at.certified node.certification su.certification number two.above two.within (subst (λ (o : Option CommitItem). IsTrue (is_some o)) (sym two.is_commit) refl))

  same_rows : rows_at order node.at.committed ≡ rows_at other node.at.committed
  same_rows = sym st.tables.rows.committed ∙ su.tables.rows.committed

  task_of : (u : ApplyUnit) → get node.units.units number ≡ Some u → unit_task order number ≡ unit_task other number
  task_of u there =
      task-unit order (plain_of node) number u st.facts there
      ∙ ap (λ (ops : List Op). task number ops (images_of ops (rows_at order node.at.committed))) (same_ops u there)
      ∙ ap (λ (rows : Rows). task number (ops_at other number) (images_of (ops_at other number) rows)) same_rows
      ∙ sym (task-unit other (plain_of node) number u su.facts there)

  pub started_task : is_started (get node.units.units number) ≡ true → unit_task order number ≡ unit_task other number
  started_task is =
      let unit = unit_there (get node.units.units number) is in task_of unit.0 unit.1

-- committing takes away no started unit
pub advance_started : (order : List Event) (node : NodeParts) → Stands order node → (k : ℕ)
    → is_started (get (advance_step order (plain_of node)).1.units k) ≡ is_started (get node.units.units k)
advance_started order node st k = units.advance_started order (plain_of node) st.facts k
