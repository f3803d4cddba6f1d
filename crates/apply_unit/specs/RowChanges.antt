-- what changes make of one row
use Rattle.std.specs.Prelude.{ℕ, Bool, List, fold, Option, if◌then◌else◌}
use Rattle.row_model.specs.declared.row.RowId.{RowId}
use Rattle.row_model.specs.declared.ops.Op.{Op}
use Rattle.row_model.specs.Rows.{id_of, row_after}
use Rattle.row_model.specs.RowOrder.{row_eq}

-- whether the change names this row
abbrev pub names_row : RowId → Op → Bool
names_row id op = row_eq (id_of op) id

-- the row after those of the changes that name it, in order
abbrev pub row_after_ops : RowId → List Op → Option (List ℕ) → Option (List ℕ)
row_after_ops id ops old =
    fold (λ row op. if names_row id op then row_after row op else row) old ops
