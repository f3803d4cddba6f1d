-- a list of the table's rows that is sorted by their places is the list of the map's rows
use Rattle.std.proofs.Common.{◌≡◌, ℕ, ◌+◌, List, [], ◌∷◌, map, refl, ap, subst, ◌∙◌, arith, IsPermutation}
use Rattle.std.specs.List.{IsDistinct}
use Rattle.std.specs.List.Sorted.{IsSortedByKey}
use Rattle.std.specs.Map.{keys_of}
use Rattle.std.specs.Ordering.{is_lt}
use Rattle.std.proofs.lemmas.List.Sorted.{IsPermutation-map}
use lib.ListN.{get_or-map, length-map}
use Rattle.finite_map.specs.FiniteMap.{from_entries}
use Rattle.finite_map.specs.Hashed.{entries_by}
use Rattle.finite_map.proofs.Tables.{sorted-entries}
use Rattle.row_model.specs.Rows.{row_cmp}
use Rattle.row_model.specs.RowOrder.{row_eq, row_total, row_exact, row_ties}
use Rattle.row_model.specs.declared.row.RowId.{RowId}
use Rattle.row_model.specs.declared.row.RowItem.{RowItem}
use Rattle.undo_rows.specs.Overlay.{rows_in}
use Rattle.undo_rows.specs.RowTable.{item_of, row_items}

abbrev pair_of : RowItem → RowId × List ℕ
pair_of item = (item.id, item.row)

abbrev pairs : List RowItem → List (RowId × List ℕ)
pairs items = map pair_of items

pairs-item_of : (es : List (RowId × List ℕ)) → pairs (map item_of es) ≡ es
pairs-item_of [] = refl
pairs-item_of (e ∷ es) = ap (λ l. e ∷ l) (pairs-item_of es)

items_again : (items : List RowItem) → items ≡ map item_of (pairs items)
items_again [] = refl
items_again (item ∷ items) = ap (λ l. item ∷ l) (items_again items)

pub entries_again : (es : List (RowId × List ℕ)) → es ≡ entries_by (λ (row : List ℕ). row) es
entries_again [] = refl
entries_again (e ∷ es) = ap (λ l. e ∷ l) (entries_again es)

-- items that are sorted by their places are pairs that are
sorted_pairs : (items : List RowItem) → IsSortedByKey (λ (item : RowItem). item.id) row_cmp items
    → IsSortedByKey (λ (e : RowId × List ℕ). e.0) row_cmp (pairs items)
sorted_pairs items sorted k d low inside =
    let one = get_or-map pair_of items k (item_of d) in
    let next = get_or-map pair_of items (k + 1) (item_of d) in
    (λ i. is_lt (row_cmp (next i).0 (one i).0)) ∙ sorted k (item_of d) low (omega (arith, length-map items pair_of))

pub sorted-items : (es : List (RowId × List ℕ)) (before after : List RowItem) → IsDistinct row_eq (keys_of es)
    → before ≡ map item_of es → IsPermutation before after
    → IsSortedByKey (λ (item : RowItem). item.id) row_cmp after → after ≡ row_items (rows_in es)
sorted-items es before after apart is moves sorted =
    let moved : IsPermutation es (pairs after) =
    subst (λ l. IsPermutation l (pairs after)) (ap pairs is ∙ pairs-item_of es) (IsPermutation-map pair_of before after moves) in
    items_again after
    ∙ ap (map item_of) (sorted-entries row_total row_ties row_exact es (pairs after) apart moved (sorted_pairs after sorted))
    ∙ ap (λ l. row_items (from_entries l)) (entries_again es)
