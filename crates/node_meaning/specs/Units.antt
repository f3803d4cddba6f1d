-- the work of a unit: the changes of its commit, on the images of the rows that they name
use Rattle.std.specs.Prelude.{ℕ, zero, suc, List, [], ◌∷◌, ◌++◌, map, fold, slice_get, Option, Some, None, unwrap_or, if◌then◌else◌}
use Rattle.std.specs.List.{list_any}
use Rattle.std.specs.Ordering.{eq_by_cmp}
use Rattle.finite_map.specs.FiniteMap.{get}
use Rattle.wsrep_base.specs.declared.verdict.Judged.{Judged}
use Rattle.wsrep_base.specs.declared.verdict.Judged.TheVariants as became
use Rattle.row_model.specs.declared.row.RowId.{RowId}
use Rattle.row_model.specs.declared.ops.Op.{Op}
use Rattle.row_model.specs.Rows.{Rows, row_cmp, id_of}
use Rattle.order_event.specs.declared.event.Event.{Event}
use Rattle.cert_meaning.specs.State.{FoldState}
use Rattle.cert_meaning.specs.Fold.{state_at, committed_ops, judged}
use Rattle.apply_unit.specs.Results.{Image}
use Rattle.apply_unit.specs.Task.{ModelTask, task}
use Rattle.node_meaning.specs.Node.{rows_at}

-- the rows that changes name, each once, in the order in which they are named first
abbrev pub with_id : List RowId → RowId → List RowId
with_id ids id = if list_any (eq_by_cmp row_cmp id) ids then ids else ids ++ id ∷ []

unfoldable pub named_rows : List Op → List RowId
named_rows ops = fold (λ ids change. with_id ids (id_of change)) [] ops

-- the images of the rows that changes name
abbrev pub images_of : List Op → Rows → List Image
images_of ops rows = map (λ id. (id, get rows id)) (named_rows ops)

-- the changes that the event with a number commits; none where it commits nothing
abbrev pub ops_by : FoldState → Option Event → List Op
ops_by s None = []
ops_by s (Some e) = unwrap_or (committed_ops s e) []

abbrev pub ops_at : List Event → ℕ → List Op
ops_at order zero = []
ops_at order (suc number) = ops_by (state_at order number) (slice_get order number)

-- the rows before the event with a number
abbrev pub rows_before : List Event → ℕ → Rows
rows_before order zero = rows_at order 0
rows_before order (suc number) = rows_at order number

-- what became of the event with a number; of one that is not there nothing is said
abbrev pub judged_by : FoldState → Option Event → Judged
judged_by s None = became.View
judged_by s (Some e) = judged s e

abbrev pub judged_at : List Event → ℕ → Judged
judged_at order zero = became.View
judged_at order (suc number) = judged_by (state_at order number) (slice_get order number)

-- the task of the unit with a number: the changes of its commit, and the images that the rows
-- before it give
abbrev pub unit_task : List Event → ℕ → ModelTask
unit_task order number =
    task number (ops_at order number) (images_of (ops_at order number) (rows_before order number))
