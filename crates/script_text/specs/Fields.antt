-- what single words say: numbers, names, rows, their values and new values for their columns
use Rattle.std.specs.Prelude.{ℕ, ◌+◌, ◌-◌, ◌^◌, ◌++◌, ◌==◌, ◌&&◌, ◌||◌, Bool, true, false, nat_le, nat_lt, List, [], ◌∷◌, length, take, drop, map, replicate, Option, Some, None, if◌then◌else◌}
use Rattle.std.specs.Char.{is_ascii_digit, is_ascii_lowercase}
use Rattle.std.specs.List.{list_all, position, range_with_len}
use Rattle.std.specs.Str.Parse.{digits_value}
use Rattle.row_model.specs.Rows.{row_of}
use Rattle.row_model.specs.declared.row.RowId.{RowId}
use Rattle.script_text.specs.Words.{alone, ◌>>=◌}

-- 1 to 20 decimal digits, whose number fits 64 bits
abbrev pub is_number : List ℕ → Bool
is_number word =
    nat_le 1 (length word) && nat_le (length word) 20
    && (list_all is_ascii_digit word && nat_lt (digits_value 10 word) (2 ^ 64))

unfoldable pub number_of : List ℕ → Option ℕ
number_of word = if is_number word then Some (digits_value 10 word) else None

-- the number, if it passes the test
abbrev pub only_if : (ℕ → Bool) → Option ℕ → Option ℕ
only_if test None = None
only_if test (Some n) = if test n then Some n else None

-- a number of at least 1
unfoldable pub counting_of : List ℕ → Option ℕ
counting_of word = only_if (λ n. nat_le 1 n) (number_of word)

-- a node of so many
unfoldable pub node_of : ℕ → List ℕ → Option ℕ
node_of nodes word = only_if (λ n. nat_le n nodes) (counting_of word)

-- 1 to 16 bytes that each pass the test
abbrev pub is_name : (ℕ → Bool) → List ℕ → Bool
is_name test word = nat_le 1 (length word) && nat_le (length word) 16 && list_all test word

-- the name, padded with zeros
unfoldable pub name_of : (ℕ → Bool) → List ℕ → Option (List ℕ)
name_of test word =
    if is_name test word then Some (word ++ replicate (16 - length word) 0) else None

abbrev pub is_table_letter : ℕ → Bool
is_table_letter b = is_ascii_lowercase b

abbrev pub is_row_letter : ℕ → Bool
is_row_letter b = is_ascii_lowercase b || is_ascii_digit b

-- a row, by the names of its table and of itself
unfoldable pub row_id_of : List ℕ → List ℕ → Option RowId
row_id_of table row = do
  t ← name_of is_table_letter table
  r ← name_of is_row_letter row
  Some (record { table = t; row = r })

-- a number, and nothing behind it
unfoldable pub only_number : List (List ℕ) → Option ℕ
only_number [] = None
only_number (word ∷ words) = number_of word >>= λ n. alone n words

-- a node of so many, and nothing behind it
unfoldable pub only_node : ℕ → List (List ℕ) → Option ℕ
only_node nodes [] = None
only_node nodes (word ∷ words) = node_of nodes word >>= λ n. alone n words

-- a row, and nothing behind it
unfoldable pub only_row : List (List ℕ) → Option RowId
only_row [] = None
only_row (table ∷ []) = None
only_row (table ∷ row ∷ words) = row_id_of table row >>= λ id. alone id words

-- the words, as numbers
unfoldable pub numbers_of : List (List ℕ) → Option (List ℕ)
numbers_of [] = Some []
numbers_of (word ∷ words) = do
  n ← number_of word
  ns ← numbers_of words
  Some (n ∷ ns)

-- the values of a row
unfoldable pub values_of : List (List ℕ) → Option (List ℕ)
values_of words = numbers_of words >>= row_of

-- a column and its new value, `C=V`
unfoldable pub pair_of : List ℕ → Option (ℕ × ℕ)
pair_of word = do
  at ← position (λ b. b == 61) word
  column ← number_of (take at word)
  value ← number_of (drop (at + 1) word)
  Some (column, value)

-- the words, as columns and values
unfoldable pub pairs_of : List (List ℕ) → Option (List (ℕ × ℕ))
pairs_of [] = Some []
pairs_of (word ∷ words) = do
  pair ← pair_of word
  pairs ← pairs_of words
  Some (pair ∷ pairs)

-- columns up to 8, each above the one before it
abbrev pub rises : ℕ → List (ℕ × ℕ) → Bool
rises last [] = true
rises last (pair ∷ pairs) = nat_lt last pair.0 && nat_le pair.0 8 && rises pair.0 pairs

-- one column at least, from 1 to 8, strictly rising
abbrev pub are_columns : List (ℕ × ℕ) → Bool
are_columns [] = false
are_columns (pair ∷ pairs) = rises 0 (pair ∷ pairs)

-- the new value of a column, if it is named
abbrev pub value_at : ℕ → List (ℕ × ℕ) → Option ℕ
value_at column [] = None
value_at column (pair ∷ pairs) = if pair.0 == column then Some pair.1 else value_at column pairs

-- the new value of each of the eight columns
abbrev pub columns_of : List (ℕ × ℕ) → List (Option ℕ)
columns_of pairs = map (λ column. value_at column pairs) (range_with_len 1 8)

-- new values for the named columns of a row
unfoldable pub change_of : List (List ℕ) → Option (List (Option ℕ))
change_of words = do
  pairs ← pairs_of words
  if are_columns pairs then Some (columns_of pairs) else None
