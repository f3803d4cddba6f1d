-- what a place feeds a hasher
use Rattle.std.specs.Prelude.{[], ◌∷◌}
use Rattle.std.specs.Hash.{HashWrites}
use Rattle.row_model.specs.declared.row.RowId.{RowId}

-- its two names, each as one write
abbrev pub row_writes : RowId → HashWrites
row_writes id = id.table ∷ id.row ∷ []
