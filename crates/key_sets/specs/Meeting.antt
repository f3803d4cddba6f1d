-- Where a key set has which kind, told by look-ups, and which rows it covers.
use Rattle.std.specs.Prelude.{◌≡◌, ℕ, Bool, true, false, ◌||◌, ◌⊎◌, List, Option, None, Some}
use Rattle.finite_map.specs.FiniteMap.{get}
use Rattle.key_sets.specs.declared.kind.Kind.{Kind}
use Rattle.key_sets.specs.declared.kind.Kind.TheVariants.{Shared, Update, Exclusive}
use Rattle.key_sets.specs.declared.parts.Parts.{Parts}
use Rattle.key_sets.specs.Parts.{table_of}
use Rattle.key_sets.specs.Keys.{Keys}

-- a key of a row gives the set the kind shared at the row's table
pub record HasRow (keys : Keys) (table : Parts) (kind : Kind) : Type 0 where
  pub row : Parts
  pub name : List ℕ
  pub row_kind : Kind
  pub has : get keys row ≡ Some row_kind
  pub is_row : row.row ≡ Some name
  pub at : table ≡ table_of row
  pub shared : kind ≡ Shared

-- the set has the kind at these parts: that of its key there, or shared where it has a key of a row
-- of that table
abbrev pub Has : Keys → Parts → Kind → Type 0
Has keys p kind = (get keys p ≡ Some kind) ⊎ HasRow keys p kind

-- at some parts a kind of the one set and a kind of the other pass the test
pub record Meets (test : Kind → Kind → Bool) (a b : Keys) : Type 0 where
  pub at : Parts
  pub one : Kind
  pub other : Kind
  pub has_one : Has a at one
  pub has_other : Has b at other
  pub passes : test one other ≡ true

-- there is a key of kind exclusive
abbrev pub is_exclusive : Option Kind → Bool
is_exclusive None = false
is_exclusive (Some Shared) = false
is_exclusive (Some Update) = false
is_exclusive (Some Exclusive) = true

-- there is a key of kind update or exclusive
abbrev pub is_change : Option Kind → Bool
is_change None = false
is_change (Some Shared) = false
is_change (Some Update) = true
is_change (Some Exclusive) = true

-- a set covers a row where it may change it: by a key of the row, or by an exclusive key of its
-- table
abbrev pub covers : Keys → Parts → Bool
covers keys p = is_change (get keys p) || is_exclusive (get keys (table_of p))
