-- Changes that are done one after another.
use Rattle.std.proofs.Common.{◌≡◌, List, [], ◌∷◌, ◌++◌}
use Rattle.std.proofs.lemmas.List.Sums.{fold-append}
use Rattle.row_model.specs.declared.ops.Op.{Op}
use Rattle.row_model.specs.Rows.{Rows, op_on, ops_on}

-- one more change on the rows that the changes before it make
pub ops_on-more : (ops : List Op) (op : Op) (rows : Rows) → ops_on (ops ++ op ∷ []) rows ≡ op_on (ops_on ops rows) op
unfolding ops_on
ops_on-more ops op rows = fold-append op_on rows ops (op ∷ [])
