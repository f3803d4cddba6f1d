-- Parts are in a total order, and parts that tie are equal.
use Rattle.std.proofs.Common.{◌≡◌, ℕ, true, ◌&&◌, List, Option, None, Some, refl, ap, ◌∙◌}
use Rattle.std.specs.Prelude.{nat_eq}
use Rattle.std.specs.Option.{option_cmp, option_eq}
use Rattle.std.specs.Ordering.{nat_cmp, ordering_then, is_eq}
use Rattle.std.specs.declared.cmp.Ordering.{Ordering}
use Rattle.std.specs.declared.cmp.Ordering.TheVariants.{Less, Equal, Greater}
use Rattle.std.specs.Cmp.{IsTotalOrder, IsEquivalence, eq_by_cmp_equiv}
use Rattle.std.specs.Cmp.Lexicographic.{pointwise, slice_cmp, texts_ties, options_total}
use Rattle.std.proofs.lemmas.Cmp.{then_total, on_total, nat_list_cmp_total}
use Rattle.std.proofs.lemmas.Map.Lookups.{exact_bytes}
use Rattle.std.specs.FinMap.{IsAntisymmetric}
use Rattle.key_sets.specs.declared.parts.Parts.{Parts}
use Rattle.key_sets.specs.Parts.{parts_cmp, same_parts, parts_eq}

pub parts_total : IsTotalOrder parts_cmp
parts_total =
    then_total (on_total (λ p. p.table) nat_list_cmp_total) (on_total (λ p. p.row) (options_total nat_list_cmp_total))

pub parts_equivalence : IsEquivalence same_parts
parts_equivalence = eq_by_cmp_equiv parts_total

-- what ties in both of two orders
first_ties : (o p : Ordering) → ordering_then o p ≡ Equal → o ≡ Equal
first_ties Less p e = e
first_ties Equal p e = refl
first_ties Greater p e = e

second_ties : (o p : Ordering) → ordering_then o p ≡ Equal → p ≡ Equal
second_ties Less p e = absurd (cc)
second_ties Equal p e = e
second_ties Greater p e = absurd (cc)

rows_exact : (r s : Option (List ℕ)) → option_cmp (slice_cmp nat_cmp) r s ≡ Equal → r ≡ s
rows_exact None None e = refl
rows_exact None (Some y) e = cc
rows_exact (Some x) None e = cc
rows_exact (Some x) (Some y) e = ap Some (exact_bytes x y e)

-- parts that tie are the same
pub parts_exact : IsAntisymmetric parts_cmp
parts_exact p q e =
    let tables = exact_bytes p.table q.table (first_ties _ _ e) in
    let rows = rows_exact p.row q.row (second_ties (slice_cmp nat_cmp p.table q.table) _ e) in
    λ i. record { table = tables i; row = rows i }

is_equal : (o : Ordering) → is_eq o ≡ true → o ≡ Equal
is_equal Less e = cc
is_equal Equal e = refl
is_equal Greater e = cc

pub same_parts-exact : (p q : Parts) → same_parts p q ≡ true → p ≡ q
same_parts-exact p q e = parts_exact p q (is_equal (parts_cmp p q) e)

pub same_parts-itself : (p : Parts) → same_parts p p ≡ true
same_parts-itself p = parts_equivalence.refl p

both_tie : (o p : Ordering) → is_eq o && is_eq p ≡ is_eq (ordering_then o p)
both_tie Less p = refl
both_tie Equal p = refl
both_tie Greater p = refl

rows_tie : (r s : Option (List ℕ)) → option_eq (pointwise nat_eq) r s ≡ is_eq (option_cmp (slice_cmp nat_cmp) r s)
rows_tie None None = refl
rows_tie None (Some y) = refl
rows_tie (Some x) None = refl
rows_tie (Some x) (Some y) = texts_ties x y

-- what `==` of parts computes answers as the order does
pub parts_eq-same : (p q : Parts) → parts_eq p q ≡ same_parts p q
parts_eq-same p q =
    (λ i. texts_ties p.table q.table i && rows_tie p.row q.row i)
    ∙ both_tie (slice_cmp nat_cmp p.table q.table) (option_cmp (slice_cmp nat_cmp) p.row q.row)
