-- items that are appended for the rows of tables, in any order
use Rattle.std.specs.Prelude.{◌≡◌, ℕ, List, [], ◌∷◌, ◌++◌, map, Option, Some, None}
use Rattle.std.specs.List.{IsDistinct}
use Rattle.std.specs.Map.{keys_of, lookup}
use Rattle.row_model.specs.RowOrder.{row_eq}
use Rattle.row_model.specs.declared.row.RowId.{RowId}
use Rattle.row_model.specs.declared.row.RowItem.{RowItem}
use Rattle.finite_map.specs.FiniteMap.{get}
use Rattle.row_model.specs.Rows.{Rows}
use Rattle.undo_rows.specs.RowTable.{Change, Changes, item_of}

-- what the row is for its owner
abbrev pub row_of : Option Change → Option (List ℕ)
row_of None = None
row_of (Some change) = change.1

-- the row in place, unless it has an image
abbrev pub unchanged_of : Option Change → Option (List ℕ) → Option (List ℕ)
unchanged_of None place = place
unchanged_of (Some image) place = None

-- before the rest comes the row, where there is one
abbrev pub listed_by : Option (List ℕ) → RowId → List (RowId × List ℕ) → List (RowId × List ℕ)
listed_by None id rest = rest
listed_by (Some row) id rest = (id, row) ∷ rest

-- the rows that f makes of a table's entries
abbrev pub listed : {X : Type 0} → (RowId × X → Option (List ℕ)) → List (RowId × X)
    → List (RowId × List ℕ)
listed f [] = []
listed f (e ∷ es) = listed_by (f e) e.0 (listed f es)

-- the rows of changes
abbrev pub rows_of : Changes → RowId → Option (List ℕ)
rows_of changes id = row_of (get changes id)

-- the rows in place that have no image
abbrev pub unchanged_in : Rows → Changes → RowId → Option (List ℕ)
unchanged_in place images id = unchanged_of (get images id) (get place id)

-- the items with one more, where there is a row
abbrev pub with_item : List RowItem → RowId → Option (List ℕ) → List RowItem
with_item items id row = items ++ map item_of (listed_by row id [])

-- items were appended, one for each row that there is
pub record Appends (row_at : RowId → Option (List ℕ)) (before after : List RowItem) : Type 0 where
  pub entries : List (RowId × List ℕ)
  pub distinct : IsDistinct row_eq (keys_of entries)
  pub items : after ≡ before ++ map item_of entries
  pub finds : (id : RowId) → lookup (row_eq id) entries ≡ row_at id
