-- names in sixteen bytes: 1 to 16 letters, and zeros behind them; and calls whose names have this
-- form
use Rattle.std.specs.Prelude.{ℕ, ◌+◌, ◌-◌, ◌==◌, Bool, true, not, ◌&&◌, ◌||◌, nat_le, List, [], ◌∷◌, ◌++◌, length, drop, replicate, Option, Some, None}
use Rattle.std.specs.List.{take_while, prefix_len, list_all}
use Rattle.row_model.specs.declared.row.RowId.{RowId}
use Rattle.row_model.specs.declared.calls.Call.{Call}
use Rattle.row_model.specs.declared.calls.Call.TheVariants as call

-- a to z
abbrev pub is_table_letter : ℕ → Bool
is_table_letter b = nat_le 97 b && nat_le b 122

-- a to z and 0 to 9
abbrev pub is_row_letter : ℕ → Bool
is_row_letter b = is_table_letter b || (nat_le 48 b && nat_le b 57)

-- how many bytes stand before the first zero
abbrev pub name_len : List ℕ → ℕ
name_len bytes = prefix_len (λ b. not (b == 0)) bytes

-- the bytes before the first zero
abbrev pub letters : List ℕ → List ℕ
letters bytes = take_while (λ b. not (b == 0)) bytes

abbrev pub padded : List ℕ → List ℕ
padded name = name ++ replicate (16 - length name) 0

-- a name of such letters
unfoldable pub is_name : (ℕ → Bool) → List ℕ → Bool
is_name test bytes =
    not (name_len bytes == 0) && list_all test (letters bytes)
    && list_all (λ b. b == 0) (drop (name_len bytes) bytes)

-- the names of a place have their form
abbrev pub place_fits : RowId → Bool
place_fits id = is_name is_table_letter id.table && is_name is_row_letter id.row

-- how many columns a change names
abbrev pub named : List (Option ℕ) → ℕ
named [] = 0
named (None ∷ change) = named change
named (Some value ∷ change) = 1 + named change

-- the names of a call have their form, and an update names a column
abbrev pub call_fits : Call → Bool
call_fits (call.Begin unit) = true
call_fits (call.Insert id row) = place_fits id
call_fits (call.Update id change) = place_fits id && not (named change == 0)
call_fits (call.Delete id) = place_fits id
call_fits (call.Share id) = place_fits id
call_fits (call.Read id) = place_fits id
call_fits call.Commit = true
call_fits call.Rollback = true
call_fits call.Poll = true
