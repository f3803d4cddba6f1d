-- Worked pairs of key sets, each by computing the definitions.
use Rattle.std.proofs.Common.{◌≡◌, ℕ, true, false, [], ◌∷◌, None, Some, refl}
use Rattle.finite_map.specs.FiniteMap.{get}
use Rattle.key_sets.specs.declared.kind.Kind.TheVariants.{Shared, Update, Exclusive}
use Rattle.key_sets.specs.declared.parts.Parts.{Parts}
use Rattle.key_sets.specs.Keys.{conflicts, touches, one_key, set_of, union, computing_keys}

whole : ℕ → Parts
whole t = record { table = t ∷ []; row = None }

row : ℕ → ℕ → Parts
row t r = record { table = t ∷ []; row = Some (r ∷ []) }

-- a row's key is shared at its table: it touches an update key of the table, and conflicts with an exclusive one
row_touches_table : touches (one_key (row 1 2) Exclusive) (one_key (whole 1) Update) ≡ true
unfolding computing_keys row whole
row_touches_table = refl

row_meets_table_update : conflicts (one_key (row 1 2) Exclusive) (one_key (whole 1) Update) ≡ false
unfolding computing_keys row whole
row_meets_table_update = refl

shared_row_conflicts : conflicts (one_key (row 1 2) Shared) (one_key (whole 1) Exclusive) ≡ true
unfolding computing_keys row whole
shared_row_conflicts = refl

-- keys of two rows of one table do not touch
rows_apart : touches (one_key (row 1 2) Exclusive) (one_key (row 1 3) Exclusive) ≡ false
unfolding computing_keys row
rows_apart = refl

-- the stronger kind stays, in either order
stronger_stays : get (set_of ((row 1 2, Exclusive) ∷ (row 1 2, Shared) ∷ (row 1 3, Shared) ∷ [])) (row 1 2) ≡ Some Exclusive
unfolding computing_keys row
stronger_stays = refl

union_raises : get (union (one_key (row 1 2) Shared) (one_key (row 1 2) Update)) (row 1 2) ≡ Some Update
unfolding computing_keys row
union_raises = refl

-- a table stands before its rows
table_first : (set_of ((row 1 2, Update) ∷ (whole 2, Shared) ∷ (whole 1, Shared) ∷ [])).entries
    ≡ (whole 1, Shared) ∷ (row 1 2, Update) ∷ (whole 2, Shared) ∷ []
unfolding computing_keys row whole
table_first = refl
