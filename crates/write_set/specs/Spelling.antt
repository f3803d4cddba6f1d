-- the one spelling of a write set, in bytes
use Rattle.std.specs.Prelude.{ℕ, ◌+◌, List, [], ◌∷◌, ◌++◌, length, Option, Some, None}
use Rattle.std.specs.List.{flat_map}
use Rattle.std.specs.Int.{w32, w64, to_be_bytes}
use Rattle.finite_map.specs.FiniteMap.{len}
use Rattle.key_sets.specs.declared.kind.Kind.{Kind}
use Rattle.key_sets.specs.declared.kind.Kind.TheVariants as kind
use Rattle.key_sets.specs.declared.parts.Parts.{Parts}
use Rattle.key_sets.specs.Keys.{Keys}
use Rattle.row_model.specs.declared.row.RowId.{RowId}
use Rattle.row_model.specs.declared.ops.Op.{Op}
use Rattle.row_model.specs.declared.ops.Op.TheVariants.{Insert, Update, Delete}
use Rattle.write_set.specs.declared.write_set.WriteSet.{WriteSet}
use Rattle.write_set.specs.Names.{letters}
pub use Rattle.row_model.specs.Names.{named}

-- the number of its letters, and the letters
abbrev pub name_text : List ℕ → List ℕ
name_text name = length (letters name) ∷ letters name

abbrev pub kind_byte : Kind → ℕ
kind_byte kind.Shared = 1
kind_byte kind.Update = 2
kind_byte kind.Exclusive = 3

abbrev pub parts_byte : Option (List ℕ) → ℕ
parts_byte None = 1
parts_byte (Some row) = 2

abbrev pub row_text : Option (List ℕ) → List ℕ
row_text None = []
row_text (Some row) = name_text row

-- the number of parts, the kind, the table, and the row where there is one
abbrev pub key_text : Parts × Kind → List ℕ
key_text key =
    parts_byte key.0.row ∷ kind_byte key.1 ∷ (name_text key.0.table ++ row_text key.0.row)

-- the number of keys, and the keys in order
abbrev pub keys_text : Keys → List ℕ
keys_text keys = to_be_bytes w32 (len keys) ++ flat_map key_text keys.entries

abbrev pub place_text : RowId → List ℕ
place_text id = name_text id.table ++ name_text id.row

abbrev pub values_text : List ℕ → List ℕ
values_text values = flat_map (to_be_bytes w64) values

-- the number of values, and the values
abbrev pub row_values_text : List ℕ → List ℕ
row_values_text values = length values ∷ values_text values

-- the columns that are named, each with its value; the first of the list is counted as `column`
abbrev pub columns_text : ℕ → List (Option ℕ) → List ℕ
columns_text column [] = []
columns_text column (None ∷ change) = columns_text (column + 1) change
columns_text column (Some value ∷ change) =
    (column ∷ to_be_bytes w64 value) ++ columns_text (column + 1) change

-- the number of columns that are named, and these columns
abbrev pub change_text : List (Option ℕ) → List ℕ
change_text change = named change ∷ columns_text 1 change

-- the tag, the row's place, and what the row gets
abbrev pub op_text : Op → List ℕ
op_text (Insert id values) = 1 ∷ (place_text id ++ row_values_text values)
op_text (Update id change) = 2 ∷ (place_text id ++ change_text change)
op_text (Delete id) = 3 ∷ place_text id

-- the number of changes, and the changes
abbrev pub ops_text : List Op → List ℕ
ops_text ops = to_be_bytes w32 (length ops) ++ flat_map op_text ops

-- the version, and the transaction that sends the write set
abbrev pub sender_text : WriteSet → List ℕ
sender_text w =
    1 ∷ (to_be_bytes w32 w.member ++ (to_be_bytes w64 w.serial ++ to_be_bytes w64 w.begin))

-- where in its transaction it stands
abbrev pub step_text : WriteSet → List ℕ
step_text w = to_be_bytes w32 w.fragment ++ w.flags ∷ to_be_bytes w64 w.last_seen

-- the bytes of a write set
unfoldable pub spelling : WriteSet → List ℕ
spelling w = sender_text w ++ (step_text w ++ (keys_text w.keys ++ ops_text w.ops))
