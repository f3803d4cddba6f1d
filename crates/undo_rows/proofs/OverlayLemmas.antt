-- the hashed table of committed rows
use Rattle.std.proofs.Common.{◌≡◌, ℕ, cond, List, Option, Some, None, refl, ◌∙◌}
use Rattle.std.specs.Option.{option_map}
use Rattle.std.specs.Map.{lookup}
use Rattle.finite_map.specs.FiniteMap.{get, insert, remove}
use Rattle.finite_map.specs.Hashed.{get-hashed, hashed-same, hashed-insert, hashed-remove}
use Rattle.row_model.specs.Rows.{row_cmp}
use Rattle.row_model.specs.RowOrder.{row_eq, row_total, row_ties, row_exact}
use Rattle.row_model.specs.declared.row.RowId.{RowId}
use Rattle.undo_rows.specs.Overlay.{rows_in}

as_it_is : (o : Option (List ℕ)) → option_map (λ (row : List ℕ). row) o ≡ o
as_it_is None = refl
as_it_is (Some row) = refl

pub get-rows_in : (es : List (RowId × List ℕ)) (q : RowId) → get (rows_in es) q ≡ lookup (row_eq q) es
get-rows_in es q =
    get-hashed row_cmp row_eq row_ties (λ (row : List ℕ). row) row_total es q ∙ as_it_is (lookup (row_eq q) es)

module _ (es fs : List (RowId × List ℕ)) where
  pub rows-same : ((q : RowId) → lookup (row_eq q) fs ≡ lookup (row_eq q) es) → rows_in fs ≡ rows_in es
  rows-same is = hashed-same row_cmp row_eq row_ties (λ (row : List ℕ). row) row_total row_exact es fs is

  pub rows-insert : (id : RowId) (row : List ℕ)
      → ((q : RowId) → lookup (row_eq q) fs ≡ cond (row_eq id q) (Some row) (lookup (row_eq q) es))
      → rows_in fs ≡ insert (rows_in es) id row
  rows-insert id row is = hashed-insert row_cmp row_eq row_ties (λ (row : List ℕ). row) row_total row_exact es fs id row is

  pub rows-remove : (id : RowId)
      → ((q : RowId) → lookup (row_eq q) fs ≡ cond (row_eq id q) None (lookup (row_eq q) es))
      → rows_in fs ≡ remove (rows_in es) id
  rows-remove id is = hashed-remove row_cmp row_eq row_ties (λ (row : List ℕ). row) row_total row_exact es fs id is
