-- the order of rows: it is total, tells all rows apart, and ties where `==` says equal
use Rattle.std.specs.Prelude.{◌≡◌, ℕ, Bool, true, ◌&&◌, nat_eq, List, refl}
use Rattle.std.proofs.Common.{sym, ◌∙◌, ap}
use Rattle.std.specs.declared.cmp.Ordering.{Ordering}
use Rattle.std.specs.declared.cmp.Ordering.TheVariants.{Less, Equal, Greater}
use Rattle.std.specs.Coded.{Coded, code_by, coded×, coded_ℕ, coded_list}
use Rattle.std.specs.Ordering.{nat_cmp, eq_by_cmp, is_eq}
use Rattle.std.specs.Cmp.{IsTotalOrder, both_tied, then_total, tied_itself}
use Rattle.std.specs.Cmp.Lexicographic.{slice_cmp, pointwise, on_texts, texts_ties}
use Rattle.std.specs.FinMap.{IsAntisymmetric}
use Rattle.std.proofs.lemmas.Map.Lookups.{exact_pairs, exact_bytes}
use Rattle.row_model.specs.declared.row.RowId.{RowId}
use Rattle.row_model.specs.Rows.{row_cmp}

-- what the derived `==` of two places says
abbrev pub row_eq : RowId → RowId → Bool
row_eq a b = pointwise nat_eq a.table b.table && pointwise nat_eq a.row b.row

pub row_total : IsTotalOrder row_cmp
row_total = then_total (on_texts (λ (id : RowId). id.table)) (on_texts (λ (id : RowId). id.row))

pub row_ties : (a b : RowId) → row_eq a b ≡ eq_by_cmp row_cmp a b
row_ties a b = both_tied _ _ _ _ (texts_ties a.table b.table) (texts_ties a.row b.row)

pub row_exact : IsAntisymmetric row_cmp
row_exact a b tied =
    let pairs = exact_pairs (slice_cmp nat_cmp) (slice_cmp nat_cmp) exact_bytes exact_bytes
    (a.table, a.row) (b.table, b.row) tied in
    λ i. record { table = (pairs i).0; row = (pairs i).1 }

abbrev pub coded_row_id : Coded RowId
coded_row_id =
    code_by (List ℕ × List ℕ) (coded× (coded_list coded_ℕ) (coded_list coded_ℕ))
    (λ id. (id.table, id.row)) (λ p. record { table = p.0; row = p.1 }) (λ _. refl)

is_Equal : (r : Ordering) → is_eq r ≡ true → r ≡ Equal
is_Equal Less e = cc
is_Equal Equal e = refl
is_Equal Greater e = cc

-- `==` tells all rows apart
pub row_same : (a b : RowId) → row_eq a b ≡ true → a ≡ b
row_same a b e = row_exact a b (is_Equal (row_cmp a b) (sym (row_ties a b) ∙ e))

pub row_itself : (a : RowId) → row_eq a a ≡ true
row_itself a = row_ties a a ∙ ap is_eq (tied_itself row_total a)

-- what ties is the same row
pub row_tied : (a b : RowId) → eq_by_cmp row_cmp a b ≡ true → a ≡ b
row_tied a b e = row_exact a b (is_Equal (row_cmp a b) e)
