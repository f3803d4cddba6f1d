-- The rows of a finished unit: no live transaction with locks changes them, and its results are the rows after it.
use Rattle.std.proofs.Common.{◌≡◌, ℕ, Bool, true, false, cond, List, [], ◌∷◌, length, map, Option, None, Some, refl, ap, sym, subst, ◌∙◌, arith, true≢false}
use Rattle.std.specs.Prelude.{◌||◌}
use Rattle.std.specs.List.{list_any, AllByRecursion}
use Rattle.std.proofs.lemmas.Bool.{false_from_ne_true}
use Rattle.finite_map.specs.FiniteMap.{empty, get}
use Rattle.key_sets.specs.Keys.{Keys, touches}
use Rattle.key_sets.specs.Meeting.{covers}
use Rattle.key_sets.proofs.KeyLaws.{touches_from_conflicts, conflicts_from_covers}
use Rattle.row_model.specs.declared.row.RowId.{RowId}
use Rattle.row_model.specs.declared.ops.Op.{Op}
use Rattle.row_model.specs.Rows.{Rows, ops_on, id_of}
use Rattle.row_model.specs.RowOrder.{row_same}
use Rattle.write_set.specs.Rules.{row_parts}
use Rattle.std.proofs.lemmas.List.{length-map}
use Rattle.apply_unit.specs.RowChanges.{names_row, row_after_ops}
use Rattle.node_core.proofs.ImageCalls.{count_images}
use Rattle.apply_unit.specs.Results.{Image, computed}
use Rattle.apply_unit.specs.Task.{ModelTask}
use Rattle.apply_unit.proofs.RowLemmas.{get-unnamed}
use Rattle.client_trx.specs.Live.{Live, has_locks}
use Rattle.row_locks.specs.declared.holder.Holder.TheVariants.{Session, Unit as UnitHolder}
use Rattle.row_locks.specs.Locks.{keys_at}
use Rattle.undo_rows.specs.RowTable.{RowTable}
use Rattle.order_event.specs.declared.event.Event.{Event}
use Rattle.cert_meaning.proofs.CoveredLaws.{AllCovered, all_from_rules}
use Rattle.node_meaning.specs.Node.{ModelNode, ApplyUnit, locks_of, rows_at}
use Rattle.node_meaning.specs.Units.{ops_at, unit_task, named_rows, images_of}
use Rattle.node_meaning.specs.Facts.{Facts}
use Rattle.node_meaning.proofs.LockLaws.{keys_of_live, keys_of_unit, keys_at-session, keys_at-unit}
use Rattle.node_meaning.proofs.UnitLaws.{ops_covered, places_covered, task-unit}
use Rattle.node_core.specs.Advancing.{AreFree, results_of}
use Rattle.node_core.specs.Tabled.{Tabled, changes_row, made_by, shown_of}
use Rattle.node_core.proofs.Tabling.{made-from, own_shown}

-- changes that keys cover name only rows that the keys cover
pub covered_row : (keys : Keys) (ops : List Op) (id : RowId) → AllCovered keys ops
    → list_any (names_row id) ops ≡ true → covers keys (row_parts id) ≡ true
covered_row keys [] id all names = cc
covered_row keys (op ∷ ops) id all names =
    by (covered_row keys ops id all.1) (names_row id op) refl names
  where
    by : (list_any (names_row id) ops ≡ true → covers keys (row_parts id) ≡ true)
        → (b : Bool) → names_row id op ≡ b → b || list_any (names_row id) ops ≡ true
        → covers keys (row_parts id) ≡ true
    by later true is any =
        subst (λ (r : RowId). covers keys (row_parts r) ≡ true) (row_same (id_of op) id is) all.0
    by later false is any = later any

module _ (order : List Event) (n : ModelNode) (facts : Facts order n) (number : ℕ) (u : ApplyUnit) (unit : get n.units number ≡ Some u) where
  unit_covered : AllCovered u.keys (ops_at order number)
  unit_covered =
      let has = facts.units number u unit in
      subst (λ (keys : Keys). AllCovered keys (ops_at order number)) has.keys
      (ops_covered order number has.item (omega (arith, has.above))
      (omega (arith, has.within, facts.in_order.certified_fits, facts.in_order.taken_fits)) has.is_commit)

  keys_apart : (s : ℕ) (t : Live) → get n.live s ≡ Some t → has_locks t.status ≡ true → touches t.keys u.keys ≡ false
  keys_apart s t is locks =
      ap (λ keys. touches keys u.keys) (sym (keys_at-session n.live n.units s ∙ ap keys_of_live is ∙ ap (λ b. cond b t.keys empty) locks))
      ∙ ap (λ keys. touches (keys_at (locks_of n.live n.units) (Session s)) keys) (sym (keys_at-unit n.live n.units number ∙ ap keys_of_unit unit))
      ∙ facts.apart (Session s) (UnitHolder number) refl

  -- a live transaction with locks changes no row that the unit's keys cover
  pub not_changed : (s : ℕ) (t : Live) (id : RowId) → get n.live s ≡ Some t → has_locks t.status ≡ true → changes_row id t.ops ≡ true
      → covers u.keys (row_parts id) ≡ true → ⊥
  not_changed s t id is locks changes own =
      let all = all_from_rules 0 t.keys t.ops (facts.sendable s t is).fit.covered in
      true≢false (sym (touches_from_conflicts t.keys u.keys
      (conflicts_from_covers t.keys u.keys (row_parts id) id.row refl (covered_row t.keys t.ops id all changes) own)) ∙ keys_apart s t is locks)

  -- so the rows that it changes are the same after the unit
  pub rows_left : (rows : Rows) (s : ℕ) (id : RowId) (row : Option (List ℕ)) → made_by rows id (get n.live s) ≡ Some row
      → get (ops_on (ops_at order number) rows) id ≡ get rows id
  rows_left rows s id row made =
      let owns = made-from rows id (get n.live s) row made in
      get-unnamed (ops_at order number) rows id (false_from_ne_true (list_any (names_row id) (ops_at order number))
      (λ names. not_changed s owns.0 id owns.1 owns.2 owns.3 (covered_row u.keys (ops_at order number) id unit_covered names)))

  free_row : (rows : Rows) (table : RowTable) → Tabled rows n.live table → (id : RowId) → covers u.keys (row_parts id) ≡ true
      → (o : Option (ℕ × Option (List ℕ))) → get table.changes id ≡ o → o ≡ None
  free_row rows table tabled id own None is = refl
  free_row rows table tabled id own (Some change) is =
      let owns = made-from rows id (get n.live change.0) change.1
      (sym (tabled.changed change.0 id) ∙ ap (shown_of change.0) is ∙ own_shown change.0 change.1) in
      absurd (not_changed change.0 owns.0 id owns.1 owns.2 owns.3 own)

  free_rows : (rows : Rows) (table : RowTable) → Tabled rows n.live table → (ops : List Op) (others : Rows) (ids : List RowId)
      → AllByRecursion (λ (id : RowId). covers u.keys (row_parts id) ≡ true) ids
      → AreFree table.changes (computed ops (map {B = Image} (λ (id : RowId). (id, get others id)) ids))
  free_rows rows table tabled ops others [] all = tt
  free_rows rows table tabled ops others (id ∷ ids) all =
      (free_row rows table tabled id all.0 (get table.changes id) refl, free_rows rows table tabled ops others ids all.1)

  -- no live transaction has changed a row of the unit's
  pub unit_free : (rows : Rows) (table : RowTable) → Tabled rows n.live table → AreFree table.changes (results_of (Some (unit_task order number)))
  unit_free rows table tabled =
      subst (λ (t : ModelTask). AreFree table.changes (results_of (Some t))) (sym (task-unit order n number u facts unit))
      (free_rows rows table tabled (ops_at order number) (rows_at order n.at.committed) (named_rows (ops_at order number))
      (places_covered u.keys (ops_at order number) unit_covered))

-- as many results as rows that the changes name
pub unit_length : (order : List Event) (n : ModelNode) (facts : Facts order n) (number : ℕ) (u : ApplyUnit) → get n.units number ≡ Some u
    → length (results_of (Some (unit_task order number))) ≡ length (named_rows (ops_at order number))
unit_length order n facts number u unit =
    let ops = ops_at order number in
    ap (λ (t : ModelTask). length (results_of (Some t))) (task-unit order n number u facts unit)
    ∙ length-map (images_of ops (rows_at order n.at.committed))
    (λ (image : Image). (image.0, row_after_ops image.0 ops image.1))
    ∙ count_images ops (rows_at order n.at.committed)
