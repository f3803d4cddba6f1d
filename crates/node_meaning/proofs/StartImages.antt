-- The changes of a unit, and the rows that they name: these are as the node's committed rows have them.
use Rattle.std.proofs.Common.{◌≡◌, ℕ, ◌+◌, ◌-◌, ◌≤◌, ◌<◌, false, List, [], ◌∷◌, length, Some, ap, sym, subst, ◌∙◌, arith}
use Rattle.std.specs.Prelude.{slice_get}
use Rattle.std.specs.List.{AllByRecursion}
use Rattle.finite_map.specs.FiniteMap.{get}
use Rattle.key_sets.specs.Keys.{Keys, touches}
use Rattle.row_model.specs.declared.ops.Op.{Op}
use Rattle.row_model.specs.Rows.{id_of, ops_on}
use Rattle.order_event.specs.declared.event.Event.{Event}
use Rattle.cert_meaning.specs.declared.items.CommitItem.{CommitItem}
use Rattle.cert_meaning.specs.Fold.{state_at, committed_ops}
use Rattle.cert_meaning.proofs.CoveredLaws.{AllCovered, commit_covered}
use Rattle.node_meaning.specs.Node.{ModelNode, ApplyUnit, rows_at}
use Rattle.node_meaning.specs.Facts.{Facts, commit_at}
use Rattle.node_meaning.proofs.AdvanceFacts.{rows-commit}
use Rattle.node_meaning.proofs.CoveredLaws.{row_before}

-- the changes of a unit: its event, what that commits, that the unit's keys cover it, and the rows before it where it changes them
pub record Images (order : List Event) (committed number : ℕ) (keys : Keys) : Type 0 where
  pub event : Event
  pub there : slice_get order (number - 1) ≡ Some event
  pub ops : List Op
  pub is_ops : committed_ops (state_at order (number - 1)) event ≡ Some ops
  pub covered : AllCovered keys ops
  pub same : AllByRecursion (λ (op : Op). get (rows_at order (number - 1)) (id_of op) ≡ get (rows_at order committed) (id_of op)) ops
  pub rows : rows_at order number ≡ ops_on ops (rows_at order (number - 1))

module _ (order : List Event) (committed number : ℕ) (keys : Keys) (fits : number ≤ length order) (above : committed < number)
    (clear : (earlier : ℕ) (c : CommitItem) → committed < earlier → earlier < number → commit_at order earlier ≡ Some c
    → touches c.keys keys ≡ false) where
  each_same : (ops : List Op) → AllCovered keys ops
      → AllByRecursion (λ (op : Op). get (rows_at order (number - 1)) (id_of op) ≡ get (rows_at order committed) (id_of op)) ops
  each_same [] all = tt
  each_same (op ∷ ops) all = (
    row_before order committed number keys fits clear (id_of op) all.0 (number - 1) (omega (arith, above)) (omega (arith, above)),
    each_same ops all.1,
  )

  -- the images of a passed commit that no commit since the committed ones touches
  pub images : (c : CommitItem) → commit_at order number ≡ Some c → c.keys ≡ keys → Images order committed number keys
  images c is same_keys =
      let same : (number - 1) + 1 ≡ number = omega (arith, above) in
      let made = rows-commit order (number - 1) c (omega (arith, above, fits)) (ap (commit_at order) same ∙ is) in
      let all = subst (λ k. AllCovered k made.ops) same_keys
      (commit_covered order (number - 1) made.event c made.ops made.is_commit made.is_ops) in
      record {
        event = made.event;
        there = made.there;
        ops = made.ops;
        is_ops = made.is_ops;
        covered = all;
        same = each_same made.ops all;
        rows = ap (rows_at order) (sym same) ∙ made.rows;
      }

-- those of a unit of a node
pub unit_images : (order : List Event) (n : ModelNode) (number : ℕ) (u : ApplyUnit) → Facts order n → get n.units number ≡ Some u
    → Images order n.at.committed number u.keys
unit_images order n number u facts there =
    let unit = facts.units number u there in
    images order n.at.committed number u.keys
    (omega (arith, unit.within, facts.in_order.certified_fits, facts.in_order.taken_fits)) unit.above unit.clear unit.item unit.is_commit unit.keys
