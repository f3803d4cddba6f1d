use Rattle.std.proofs.Common.{◌≡◌, ◌+◌, ◌≤◌}
use Rattle.std.specs.HashMap.{spare}
use Rattle.finite_map.specs.FiniteMap.{get}
use Rattle.row_model.specs.declared.row.RowId.{RowId}
use Rattle.undo_rows.specs.Overlay.{rows_in}
use Rattle.undo_rows.specs.RowTable.{seen_of, without}
use Rattle.undo_rows.proofs.hashed_rows.keep_all.Given as goal

abbrev pub invariant-loop-id : goal.invariant-loop-id
invariant-loop-id l = record {
  sees : (q : RowId) → seen_of l.owner (get l.owned.changes q) (get (rows_in l.rows.entries) q)
      ≡ seen_of l.owner (get l.initial.owned.changes q) (get (rows_in l.initial.rows.entries) q);
  others : without l.owned.changes l.owner ≡ without l.initial.owned.changes l.owner;
  grown : l.initial.owned.spare ≤ l.owned.spare;
  room : l.owned.count ≤ spare l.rows;
  more : spare l.initial.rows + l.owned.count ≤ spare l.rows + l.initial.owned.count;
}

abbrev pub decreases-loop-id : goal.decreases-loop-id
decreases-loop-id l = l.owned.count
