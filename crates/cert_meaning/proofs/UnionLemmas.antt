-- The number of keys of a union.
use Rattle.std.proofs.Common.{◌≡◌, ℕ, ◌+◌, sym, ◌∙◌}
use Rattle.std.specs.Prelude.{is_none, count_by}
use Rattle.std.proofs.lemmas.List.Sums.{length-filter}
use Rattle.finite_map.specs.FiniteMap.{get, len}
use Rattle.key_sets.specs.Keys.{Keys, union}
use Rattle.key_sets.proofs.Apart.{Apart-entries}
use Rattle.key_sets.proofs.UnionLemmas.{count-new_parts, len-with_keys}

-- the union has the keys of the one set, and those of the other whose parts the one lacks
pub len-union-new : (a b : Keys) (old new : ℕ)
    → old ≡ len a → new ≡ count_by (λ key. is_none (get a key.0)) b.entries
    → old + new ≡ len (union a b)
len-union-new a b old new is_old is_new =
    let counted = sym (length-filter (λ key. is_none (get a key.0)) b.entries) ∙ count-new_parts a b.entries in
    (λ i. is_old i + (is_new ∙ counted) i) ∙ sym (len-with_keys a b.entries (Apart-entries b))
