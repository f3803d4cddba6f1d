-- rows with room for more
use Rattle.std.specs.Prelude.{ℕ}
use Rattle.row_model.specs.Rows.{Rows}

-- the rows, and how many more are put without memory
pub record Roomy : Type 0 where
  pub rows : Rows
  pub spare : ℕ
