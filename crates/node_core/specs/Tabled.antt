-- when a table of rows holds the committed rows and the changes of live transactions
use Rattle.std.specs.Prelude.{◌≡◌, ℕ, ◌==◌, ◌&&◌, Bool, List, Option, Some, None, if◌then◌else◌}
use Rattle.std.specs.List.{list_any}
use Rattle.std.specs.Ordering.{nat_cmp}
use Rattle.finite_map.specs.FiniteMap.{FiniteMap, get}
use Rattle.row_model.specs.declared.row.RowId.{RowId}
use Rattle.row_model.specs.declared.ops.Op.{Op}
use Rattle.row_model.specs.Rows.{Rows, ops_on}
use Rattle.apply_unit.specs.RowChanges.{names_row}
use Rattle.client_trx.specs.Live.{Live, has_locks}
use Rattle.undo_rows.specs.RowTable.{RowTable, Change}

-- whether changes name the row
abbrev pub changes_row : RowId → List Op → Bool
changes_row id ops = list_any (names_row id) ops

-- the value to which a transaction changed the row, where it has locks and changes it
abbrev pub made_by : Rows → RowId → Option Live → Option (Option (List ℕ))
made_by rows id None = None
made_by rows id (Some t) =
    if has_locks t.status && changes_row id t.ops then Some (get (ops_on t.ops rows) id) else None

-- the value to which the session changed the row, where the change is its own
abbrev pub shown_of : ℕ → Option Change → Option (Option (List ℕ))
shown_of session None = None
shown_of session (Some change) = if change.0 == session then Some change.1 else None

-- the committed rows; and the table shows that a session changed a row to a value exactly where
-- its live transaction did
pub record Tabled (rows : Rows) (live : FiniteMap nat_cmp Live) (table : RowTable) : Type 0 where
  pub committed : table.committed ≡ rows
  pub changed : (session : ℕ) (id : RowId)
      → shown_of session (get table.changes id) ≡ made_by rows id (get live session)
