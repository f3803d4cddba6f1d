-- What a key names: the order of parts, the test of equal parts, and the table of a row.
use Rattle.std.specs.Prelude.{◌≡◌, ℕ, Bool, true, ◌&&◌, nat_eq, List, ◌∷◌, Option, None, Some, refl}
use Rattle.std.proofs.Common.{true≢false, sym, ap}
use Rattle.std.specs.Hash.{HashWrites}
use Rattle.std.specs.Coded.{Coded, code_by, coded×, coded_list, coded_option, coded_ℕ}
use Rattle.std.specs.Option.{option_cmp, option_eq, option_to_list}
use Rattle.std.specs.Cmp.{first_so, second_so}
use Rattle.std.specs.Ordering.{nat_cmp, ordering_then, eq_by_cmp}
use Rattle.std.specs.declared.cmp.Ordering.{Ordering}
use Rattle.std.specs.Cmp.Lexicographic.{slice_cmp, pointwise, bytes_decides}
use Rattle.key_sets.specs.declared.parts.Parts.{Parts}

-- by table, then the table before its rows, then by row
abbrev pub parts_cmp : Parts → Parts → Ordering
parts_cmp a b =
    ordering_then (slice_cmp nat_cmp a.table b.table) (option_cmp (slice_cmp nat_cmp) a.row b.row)

-- whether two parts are the same
abbrev pub same_parts : Parts → Parts → Bool
same_parts = eq_by_cmp parts_cmp

-- what the derived `==` of two parts computes
abbrev pub parts_eq : Parts → Parts → Bool
parts_eq p q = pointwise nat_eq p.table q.table && option_eq (pointwise nat_eq) p.row q.row

-- the table itself, without a row
abbrev pub table_of : Parts → Parts
table_of p = record { table = p.table; row = None }

-- parts are stored as the pair of their fields
abbrev pub coded_parts : Coded Parts
coded_parts =
    code_by (List ℕ × Option (List ℕ))
    (coded× (coded_list coded_ℕ) (coded_option (coded_list coded_ℕ)))
    (λ p. (p.table, p.row)) (λ p. record { table = p.0; row = p.1 }) (λ _. refl)

-- what parts feed a hasher: their names, each as one write
abbrev pub parts_writes : Parts → HashWrites
parts_writes p = p.table ∷ option_to_list p.row

rows_same : (r s : Option (List ℕ)) → option_eq (pointwise nat_eq) r s ≡ true → r ≡ s
rows_same None None e = refl
rows_same None (Some y) e = absurd (true≢false (sym e))
rows_same (Some x) None e = absurd (true≢false (sym e))
rows_same (Some x) (Some y) e = ap Some ((bytes_decides x y).0 e)

-- `==` tells all parts apart
pub parts_same : (p q : Parts) → parts_eq p q ≡ true → p ≡ q
parts_same p q e =
    let tables = (bytes_decides p.table q.table).0 (first_so _ _ e) in
    let rows = rows_same p.row q.row (second_so (pointwise nat_eq p.table q.table) _ e) in
    λ i. record { table = tables i; row = rows i }
