-- The comparison of two key sets by look-ups, and the two relations of kinds that it is made for.
use Rattle.std.specs.Prelude.{Bool, false, ◌&&◌, Option, None, Some, is_some, is_none}
use Rattle.std.specs.List.{list_any}
use Rattle.finite_map.specs.FiniteMap.{get}
use Rattle.key_sets.specs.declared.kind.Kind.{Kind}
use Rattle.key_sets.specs.declared.kind.Kind.TheVariants.{Shared}
use Rattle.key_sets.specs.declared.parts.Parts.{Parts}
use Rattle.key_sets.specs.declared.relation.Relation.{Relation}
use Rattle.key_sets.specs.declared.relation.Relation.TheVariants.{Conflict, Touch}
use Rattle.key_sets.specs.Kinds.{kinds_conflict, kinds_touch}
use Rattle.key_sets.specs.Parts.{table_of}
use Rattle.key_sets.specs.Keys.{Keys}

-- the test of two kinds
abbrev pub kind_test : Relation → Kind → Kind → Bool
kind_test Conflict = kinds_conflict
kind_test Touch = kinds_touch

-- whether there is a kind and it passes the test
abbrev pub passes : (Kind → Bool) → Option Kind → Bool
passes test None = false
passes test (Some kind) = test kind

-- some key of the one set meets the key of the other with the same parts
abbrev pub keys_meet : (Kind → Kind → Bool) → Keys → Keys → Bool
keys_meet test a b = list_any (λ e. passes (test e.1) (get b e.0)) a.entries

-- parts of a row meet the key of its table
abbrev pub table_meets : (Kind → Kind → Bool) → Keys → Parts → Bool
table_meets test b p = is_some p.row && passes (test Shared) (get b (table_of p))

-- some row's key of the one set meets the key of its table in the other
abbrev pub tables_meet : (Kind → Kind → Bool) → Keys → Keys → Bool
tables_meet test a b = list_any (λ e. table_meets test b e.0) a.entries

-- some key is that of a table
abbrev pub has_table : Keys → Bool
has_table a = list_any (λ e. is_none e.0.row) a.entries
