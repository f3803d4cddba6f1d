-- Entries put into a map from the last one on: the first of two at one key counts.
use Rattle.std.proofs.Common.{◌≡◌, List, [], ◌∷◌, ◌++◌, map, refl, ap}
use Rattle.std.specs.declared.cmp.Ordering.{Ordering}
use Rattle.finite_map.specs.FiniteMap.{FiniteMap, empty, insert, from_entries}

module _ {A K X : Type 0} {R : K → K → Ordering} (entry_of : A → K × X) where
  -- the entries of these items put into a map, the first of them last
  abbrev pub put_all : List A → FiniteMap R X → FiniteMap R X
  put_all [] into = into
  put_all (a ∷ items) into = insert (put_all items into) (entry_of a).0 (entry_of a).1

  pub put_all-empty : (items : List A) → put_all items empty ≡ from_entries (map entry_of items)
  put_all-empty [] = refl
  put_all-empty (a ∷ items) =
      ap (λ (into : FiniteMap R X). insert into (entry_of a).0 (entry_of a).1) (put_all-empty items)

  pub put_all-last : (items : List A) (a : A) (into : FiniteMap R X)
      → put_all (items ++ a ∷ []) into ≡ put_all items (insert into (entry_of a).0 (entry_of a).1)
  put_all-last [] a into = refl
  put_all-last (b ∷ items) a into =
      ap (λ (made : FiniteMap R X). insert made (entry_of b).0 (entry_of b).1) (put_all-last items a into)
