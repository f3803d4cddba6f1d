-- a hashed table of committed rows, as the rows that it holds
use Rattle.std.specs.Prelude.{ℕ, List}
use Rattle.finite_map.specs.Hashed.{hashed}
use Rattle.row_model.specs.Rows.{Rows}
use Rattle.row_model.specs.declared.row.RowId.{RowId}

abbrev pub rows_in : List (RowId × List ℕ) → Rows
rows_in entries = hashed (λ row. row) entries
