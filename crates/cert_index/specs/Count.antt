-- The latest commit of each kind at each parts, of which an index counts how many there are.
use Rattle.std.specs.Prelude.{ℕ, max, unwrap_or, List, [], ◌∷◌}
use Rattle.std.specs.declared.cmp.Ordering.{Ordering}
use Rattle.std.specs.Ordering.{nat_cmp, ordering_then}
use Rattle.finite_map.specs.FiniteMap.{FiniteMap, empty, get, insert}
use Rattle.key_sets.specs.declared.kind.Kind.{Kind}
use Rattle.key_sets.specs.declared.parts.Parts.{Parts}
use Rattle.key_sets.specs.Keys.{pairs_of_key}
use Rattle.key_sets.specs.Kinds.{kind_number}
use Rattle.key_sets.specs.Parts.{parts_cmp}
use Rattle.cert_index.specs.declared.pair.Pair.{Pair}
use Rattle.cert_index.specs.Index.{Entry}

-- by parts, then by kind
abbrev pub pair_cmp : Pair → Pair → Ordering
pair_cmp p q =
    ordering_then (parts_cmp p.parts q.parts) (nat_cmp (kind_number p.kind) (kind_number q.kind))

-- the latest commit of each kind at each parts
abbrev pub Latest : Type 0
Latest = FiniteMap pair_cmp ℕ

-- a commit has the pair; a later one stays
unfoldable pub raise : Latest → Pair → ℕ → Latest
raise latest pair number = insert latest pair (max number (unwrap_or (get latest pair) number))

-- a commit has these kinds at their parts
unfoldable pub raise_all : Latest → ℕ → List (Parts × Kind) → Latest
unfolding raise
raise_all latest number [] = latest
raise_all latest number (p ∷ ps) =
    raise (raise_all latest number ps) (record { parts = p.0; kind = p.1 }) number

-- the latest commits of all entries; a key of a row is also shared at its table
unfoldable pub latest_of : List Entry → Latest
unfolding raise_all
latest_of [] = empty
latest_of (e ∷ es) = raise_all (latest_of es) e.number (pairs_of_key e.key)
