-- Changes on rows, row by row.
use Rattle.std.proofs.Common.{◌≡◌, ℕ, Bool, true, false, cond, List, [], ◌∷◌, ◌++◌, Option, None, Some, refl, sym, ap, ◌∙◌}
use Rattle.std.specs.Prelude.{◌||◌}
use Rattle.std.specs.Cmp.{eq_by_cmp_equiv}
use Rattle.std.specs.List.{list_any}
use Rattle.std.proofs.lemmas.List.Sums.{fold-append}
use Rattle.finite_map.specs.FiniteMap.{get, get-insert, get-remove}
use Rattle.row_model.specs.declared.row.RowId.{RowId}
use Rattle.row_model.specs.declared.ops.Op.{Op}
use Rattle.row_model.specs.Rows.{Rows, with_row, id_of, row_after, op_on, ops_on}
use Rattle.row_model.specs.RowOrder.{row_eq, row_total, row_ties, row_same}
use Rattle.apply_unit.specs.RowChanges.{names_row, row_after_ops}

-- what stands where after a row is put, or taken out
pub get-with_row : (rows : Rows) (id : RowId) (row : Option (List ℕ)) (q : RowId)
    → get (with_row rows id row) q ≡ cond (row_eq id q) row (get rows q)
get-with_row rows id None q =
    get-remove row_total rows id q
    ∙ ap (λ b. cond b None (get rows q)) (sym (row_ties id q ∙ (eq_by_cmp_equiv row_total).symm id q))
get-with_row rows id (Some row) q =
    get-insert row_total rows id row q
    ∙ ap (λ b. cond b (Some row) (get rows q)) (sym (row_ties id q ∙ (eq_by_cmp_equiv row_total).symm id q))

its_own : (rows : Rows) (op : Op) (q : RowId) (b : Bool) → row_eq (id_of op) q ≡ b
    → cond b (row_after (get rows (id_of op)) op) (get rows q) ≡ cond b (row_after (get rows q) op) (get rows q)
its_own rows op q true e = ap (λ id. row_after (get rows id) op) (row_same (id_of op) q e)
its_own rows op q false e = refl

-- a change makes of each row what it makes of that row alone
pub get-op_on : (rows : Rows) (op : Op) (q : RowId)
    → get (op_on rows op) q ≡ cond (names_row q op) (row_after (get rows q) op) (get rows q)
get-op_on rows op q =
    get-with_row rows (id_of op) (row_after (get rows (id_of op)) op) q ∙ its_own rows op q _ refl

-- and so do changes, of which those count that name the row
pub get-ops_on : (ops : List Op) (rows : Rows) (q : RowId)
    → get (ops_on ops rows) q ≡ row_after_ops q ops (get rows q)
unfolding ops_on
get-ops_on [] rows q = refl
get-ops_on (op ∷ ops) rows q = get-ops_on ops (op_on rows op) q ∙ ap (row_after_ops q ops) (get-op_on rows op q)

neither : (a b : Bool) → a || b ≡ false → (a ≡ false) × (b ≡ false)
neither true b e = absurd cc
neither false b e = (refl, e)

pub row_after_none : (ops : List Op) (q : RowId) (old : Option (List ℕ)) → list_any (names_row q) ops ≡ false
    → row_after_ops q ops old ≡ old
row_after_none [] q old none = refl
row_after_none (op ∷ ops) q old none =
    let each = neither (names_row q op) (list_any (names_row q) ops) none in
    ap (λ b. row_after_ops q ops (cond b (row_after old op) old)) each.0 ∙ row_after_none ops q old each.1

-- a row that no change names stays as it is
pub get-unnamed : (ops : List Op) (rows : Rows) (q : RowId) → list_any (names_row q) ops ≡ false
    → get (ops_on ops rows) q ≡ get rows q
get-unnamed ops rows q none = get-ops_on ops rows q ∙ row_after_none ops q (get rows q) none

-- more changes are done on the rows that those before them make
pub ops_on-append : (ops more : List Op) (rows : Rows) → ops_on (ops ++ more) rows ≡ ops_on more (ops_on ops rows)
unfolding ops_on
ops_on-append ops more rows = fold-append op_on rows ops more

pub row_after_ops-append : (ops more : List Op) (q : RowId) (old : Option (List ℕ))
    → row_after_ops q (ops ++ more) old ≡ row_after_ops q more (row_after_ops q ops old)
row_after_ops-append ops more q old =
    fold-append (λ row op. cond (names_row q op) (row_after row op) row) old ops more
