-- the rules that a write set meets
use Rattle.std.specs.Prelude.{◌≡◌, ℕ, ◌+◌, ◌<◌, ◌≤◌, ◌^◌, ◌==◌, Bool, true, false, not, ◌&&◌, ◌||◌, nat_le, List, [], ◌∷◌, length, Option, Some, None, is_none, IfSome, if◌then◌else◌}
use Rattle.std.specs.List.{list_all, AllByRecursion}
use Rattle.finite_map.specs.FiniteMap.{get, len}
use Rattle.key_sets.specs.declared.kind.Kind.{Kind}
use Rattle.key_sets.specs.declared.kind.Kind.TheVariants as kind
use Rattle.key_sets.specs.declared.parts.Parts.{Parts}
use Rattle.key_sets.specs.Keys.{Keys, LIMIT}
use Rattle.row_model.specs.declared.row.RowId.{RowId}
use Rattle.row_model.specs.declared.ops.Op.{Op}
use Rattle.row_model.specs.declared.ops.Op.TheVariants.{Insert, Update, Delete}
use Rattle.row_model.specs.Rows.{id_of}
use Rattle.write_set.specs.declared.write_set.WriteSet.{WriteSet}
use Rattle.write_set.specs.declared.rules.TheConstants.{MOST_OPS}
use Rattle.write_set.specs.Names.{is_name, is_table_letter, is_row_letter}
use Rattle.write_set.specs.Spelling.{named}
pub use Rattle.row_model.specs.Names.{place_fits}

-- START 1 and END 2 may stand together; ROLLBACK 4 stands alone. START is set exactly where the
-- fragment number is 0 and ROLLBACK is not set; ROLLBACK has fragment number 0
abbrev pub flags_fit : ℕ → ℕ → Bool
flags_fit flags fragment =
    if flags == 4 then fragment == 0
    else nat_le flags 3
    && (if fragment == 0 then flags == 1 || flags == 3 else flags == 0 || flags == 2)

abbrev pub row_fits : Option (List ℕ) → Bool
row_fits None = true
row_fits (Some row) = is_name is_row_letter row

-- the names of a key have their form
abbrev pub parts_fit : Parts → Bool
parts_fit parts = is_name is_table_letter parts.table && row_fits parts.row

abbrev pub keys_fit : Keys → Bool
keys_fit keys = list_all (λ key. parts_fit key.0) keys.entries

-- the names of a change have their form, and an update names a column
abbrev pub op_fits : Op → Bool
op_fits (Insert id values) = place_fits id
op_fits (Update id change) = place_fits id && not (named change == 0)
op_fits (Delete id) = place_fits id

-- so do those of all changes, and these are within their limit
abbrev pub ops_fit : List Op → Bool
ops_fit ops = nat_le (length ops) MOST_OPS && list_all op_fits ops

abbrev pub is_exclusive : Option Kind → Bool
is_exclusive None = false
is_exclusive (Some kind.Shared) = false
is_exclusive (Some kind.Update) = false
is_exclusive (Some kind.Exclusive) = true

abbrev pub is_update_kind : Option Kind → Bool
is_update_kind None = false
is_update_kind (Some kind.Shared) = false
is_update_kind (Some kind.Update) = true
is_update_kind (Some kind.Exclusive) = false

abbrev pub is_update : Op → Bool
is_update (Insert id values) = false
is_update (Update id change) = true
is_update (Delete id) = false

abbrev pub row_parts : RowId → Parts
row_parts id = record { table = id.table; row = Some id.row }

abbrev pub table_parts : RowId → Parts
table_parts id = record { table = id.table; row = None }

-- the row's own key is exclusive, or for an update of kind update, or the table's key is exclusive
abbrev pub is_covered : Keys → Op → Bool
is_covered keys op =
    is_exclusive (get keys (row_parts (id_of op)))
    || (is_update op && is_update_kind (get keys (row_parts (id_of op))))
    || is_exclusive (get keys (table_parts (id_of op)))

-- the first change that no key covers; the first of the list is counted as `at`
abbrev pub uncovered_from : ℕ → Keys → List Op → Option ℕ
uncovered_from at keys [] = None
uncovered_from at keys (op ∷ ops) =
    if is_covered keys op then uncovered_from (at + 1) keys ops else Some at

-- a rollback has no key and no change
abbrev pub rollback_is_bare : ℕ → ℕ → ℕ → Bool
rollback_is_bare flags keys ops = not (flags == 4) || (keys == 0 && ops == 0)

-- all the rules
unfoldable pub obeys : WriteSet → Bool
obeys w =
    flags_fit w.flags w.fragment && rollback_is_bare w.flags (len w.keys) (length w.ops)
    && nat_le (len w.keys) LIMIT && keys_fit w.keys && ops_fit w.ops
    && is_none (uncovered_from 0 w.keys w.ops)

-- What is true of every value of the types, and has to be said where any number may stand.

abbrev pub parts_in_range : Parts → Type 0
parts_in_range parts = (length parts.table ≡ 16) × IfSome parts.row (λ row. length row ≡ 16)

abbrev pub place_in_range : RowId → Type 0
place_in_range id = (length id.table ≡ 16) × (length id.row ≡ 16)

abbrev pub IsCell : Option ℕ → Type 0
IsCell cell = IfSome cell (λ value. value < 2 ^ 64)

abbrev pub OpInRange : Op → Type 0
OpInRange (Insert id values) =
    place_in_range id × (1 ≤ length values) × (length values ≤ 8)
    × AllByRecursion (λ value. value < 2 ^ 64) values
OpInRange (Update id change) =
    place_in_range id × (length change ≡ 8) × AllByRecursion IsCell change
OpInRange (Delete id) = place_in_range id

abbrev pub KeysInRange : Keys → Type 0
KeysInRange keys = AllByRecursion (λ key. parts_in_range key.0) keys.entries

abbrev pub OpsInRange : List Op → Type 0
OpsInRange ops = AllByRecursion OpInRange ops

pub record InRange (w : WriteSet) : Type 0 where
  pub member : w.member < 2 ^ 32
  pub serial : w.serial < 2 ^ 64
  pub begin : w.begin < 2 ^ 64
  pub fragment : w.fragment < 2 ^ 32
  pub last_seen : w.last_seen < 2 ^ 64
  pub keys : KeysInRange w.keys
  pub ops : OpsInRange w.ops
