-- rows, and what changes do to them
use Rattle.std.specs.Prelude.{ℕ, ◌-◌, ◌==◌, ◌&&◌, nat_le, List, [], ◌∷◌, length, slice_get, fold, Option, Some, None, unwrap_or, option_map, if◌then◌else◌}
use Rattle.std.specs.declared.cmp.Ordering.{Ordering}
use Rattle.std.specs.Ordering.{nat_cmp, ordering_then}
use Rattle.std.specs.Cmp.Lexicographic.{slice_cmp}
use Rattle.finite_map.specs.FiniteMap.{FiniteMap, get, insert, remove}
use Rattle.row_model.specs.declared.row.RowId.{RowId}
use Rattle.row_model.specs.declared.ops.Op.{Op}
use Rattle.row_model.specs.declared.ops.Op.TheVariants.{Insert, Update, Delete}

-- a row of these values: 1 to 8 of them
abbrev pub row_of : List ℕ → Option (List ℕ)
row_of values = if nat_le 1 (length values) && nat_le (length values) 8 then Some values else None

-- the value in a column, counted from 1
abbrev pub value_in : List ℕ → ℕ → Option ℕ
value_in row column = if column == 0 then None else slice_get row (column - 1)

-- by table, and then by row
abbrev pub row_cmp : RowId → RowId → Ordering
row_cmp a b = ordering_then (slice_cmp nat_cmp a.table b.table) (slice_cmp nat_cmp a.row b.row)

-- the rows that there are, by where they stand
abbrev pub Rows : Type 0
Rows = FiniteMap row_cmp (List ℕ)

-- the named columns that exist take their new values
abbrev pub changed : List ℕ → List (Option ℕ) → List ℕ
changed [] change = []
changed (v ∷ vs) [] = v ∷ vs
changed (v ∷ vs) (c ∷ change) = unwrap_or c v ∷ changed vs change

-- the row after a change of it
abbrev pub row_after : Option (List ℕ) → Op → Option (List ℕ)
row_after old (Insert id row) = Some row
row_after old (Update id change) = option_map (λ row. changed row change) old
row_after old (Delete id) = None

-- the row that a change names
abbrev pub id_of : Op → RowId
id_of (Insert id row) = id
id_of (Update id change) = id
id_of (Delete id) = id

-- the rows with this row there, or with none there
abbrev pub with_row : Rows → RowId → Option (List ℕ) → Rows
with_row rows id None = remove rows id
with_row rows id (Some row) = insert rows id row

abbrev pub op_on : Rows → Op → Rows
op_on rows op = with_row rows (id_of op) (row_after (get rows (id_of op)) op)

-- the changes, in order
unfoldable pub ops_on : List Op → Rows → Rows
ops_on ops rows = fold op_on rows ops
