-- Worked indexes, each by computing the definitions.
use Rattle.std.proofs.Common.{◌≡◌, ℕ, [], ◌∷◌, ◌++◌, List, None, Some, refl}
use Rattle.finite_map.specs.FiniteMap.{len, computing_maps}
use Rattle.key_sets.specs.declared.kind.Kind.TheVariants.{Shared, Update, Exclusive}
use Rattle.key_sets.specs.declared.parts.Parts.{Parts}
use Rattle.cert_index.specs.Count.{raise, raise_all, latest_of}
use Rattle.cert_index.specs.Index.{Entry, above, entries_of, latest_conflict, latest_touch}

whole : ℕ → Parts
whole t = record { table = t ∷ []; row = None }

row : ℕ → ℕ → Parts
row t r = record { table = t ∷ []; row = Some (r ∷ []) }

-- commits 2, 3 and 5
kept : List Entry
kept =
    entries_of 2 ((row 1 2, Exclusive) ∷ [])
    ++ entries_of 3 ((row 1 2, Shared) ∷ [])
    ++ entries_of 5 ((row 1 3, Update) ∷ [])

-- a later and weaker kind hides no stronger one
stronger_found : latest_conflict kept 1 ((row 1 2, Shared) ∷ []) ≡ Some 2
unfolding kept row
stronger_found = refl

-- what was last seen does not conflict
edge : latest_conflict kept 2 ((row 1 2, Shared) ∷ []) ≡ None
unfolding kept row
edge = refl

-- the latest that conflicts is found, also where a later one does not
latest_found : latest_conflict kept 0 ((row 1 2, Exclusive) ∷ (row 1 4, Exclusive) ∷ []) ≡ Some 3
unfolding kept row
latest_found = refl

-- a key of a row is met at its table, and at the key of the table
table_found : latest_conflict kept 0 ((whole 1, Exclusive) ∷ []) ≡ Some 5
unfolding kept row whole
table_found = refl

row_found : latest_conflict (entries_of 4 ((whole 1, Exclusive) ∷ [])) 0 ((row 1 9, Shared) ∷ []) ≡ Some 4
unfolding row whole
row_found = refl

-- an update of a row touches what reads it, and conflicts with none of it
touch_found : latest_touch kept ((row 1 2, Update) ∷ []) ≡ Some 3
unfolding kept row
touch_found = refl

update_found : latest_conflict kept 0 ((row 1 2, Update) ∷ []) ≡ Some 2
unfolding kept row
update_found = refl

-- a row twice, of two kinds, another row, and their table
counted : len (latest_of kept) ≡ 4
unfolding computing_maps latest_of raise_all raise kept row
counted = refl

-- the number at which it is purged goes too
purged : len (latest_of (above 3 kept)) ≡ 2
unfolding computing_maps latest_of raise_all raise kept row
purged = refl
