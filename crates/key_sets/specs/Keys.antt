-- Key sets: which kinds a set has where, when two sets conflict or touch, and the union of two.
use Rattle.std.specs.Prelude.{ℕ, Bool, ◌&&◌, List, [], ◌∷◌, flat_map, fold, Option, None, Some}
use Rattle.std.specs.List.{list_any}
use Rattle.finite_map.specs.FiniteMap.{FiniteMap, empty, get, insert, from_entries, computing_maps}
use Rattle.key_sets.specs.declared.kind.Kind.{Kind}
use Rattle.key_sets.specs.declared.kind.Kind.TheVariants.{Shared}
use Rattle.key_sets.specs.declared.parts.Parts.{Parts}
use Rattle.key_sets.specs.Kinds.{kinds_conflict, kinds_touch, raised}
use Rattle.key_sets.specs.Parts.{parts_cmp, same_parts, table_of}

-- a key set: a kind at each of its parts
abbrev pub Keys : Type 0
Keys = FiniteMap parts_cmp Kind

-- the set with these keys; at parts that stand twice the first counts
abbrev pub keys_from : List (Parts × Kind) → Keys
keys_from es = from_entries es

-- the most keys of a set
abbrev pub LIMIT : ℕ
LIMIT = 4096

-- a key of a row has the kind shared at the table
abbrev pub table_pair : Parts → Option (List ℕ) → List (Parts × Kind)
table_pair p None = []
table_pair p (Some row) = (table_of p, Shared) ∷ []

-- where a key has which kind: at its own parts, and for a row also at its table
abbrev pub pairs_of_key : Parts × Kind → List (Parts × Kind)
pairs_of_key e = e ∷ table_pair e.0 e.0.row

-- where a key set has which kind
unfoldable pub pairs_of : Keys → List (Parts × Kind)
pairs_of keys = flat_map pairs_of_key keys.entries

-- two pairs meet where their parts are the same and their kinds pass the test
abbrev pub pairs_meet : (Kind → Kind → Bool) → Parts × Kind → Parts × Kind → Bool
pairs_meet test p q = same_parts p.0 q.0 && test p.1 q.1

-- at some parts a kind of the one set and a kind of the other pass the test
unfoldable pub meet : (Kind → Kind → Bool) → Keys → Keys → Bool
unfolding pairs_of
meet test a b = list_any (λ p. list_any (pairs_meet test p) (pairs_of b)) (pairs_of a)

abbrev pub conflicts : Keys → Keys → Bool
conflicts = meet kinds_conflict

abbrev pub touches : Keys → Keys → Bool
touches = meet kinds_touch

-- the set with one more key: a stronger kind replaces a weaker
unfoldable pub with_key : Keys → Parts → Kind → Keys
with_key keys parts kind = insert keys parts (raised (get keys parts) kind)

-- the set with all these keys added
unfoldable pub with_keys : Keys → List (Parts × Kind) → Keys
unfolding with_key
with_keys keys es = fold (λ set e. with_key set e.0 e.1) keys es

-- the set of these keys
abbrev pub set_of : List (Parts × Kind) → Keys
set_of es = with_keys empty es

-- the set of one key
abbrev pub one_key : Parts → Kind → Keys
one_key parts kind = insert empty parts kind

-- the keys of both sets, each with the stronger kind
abbrev pub union : Keys → Keys → Keys
union a b = with_keys a b.entries

-- what a worked example over key sets unfolds
unfoldable pub computing_keys : Unit {0}
unfolding computing_maps pairs_of meet with_key with_keys
computing_keys = tt
