-- names in sixteen bytes: 1 to 16 letters, and zeros behind them
use Rattle.std.specs.Prelude.{ℕ, Bool}
use Rattle.write_set.specs.declared.names.NameRole.{NameRole}
use Rattle.write_set.specs.declared.names.NameRole.TheVariants as role
pub use Rattle.row_model.specs.Names.{is_table_letter, is_row_letter, name_len, letters, padded}
unfoldable pub use Rattle.row_model.specs.Names.{is_name}

-- the letters of a name, by what it names
abbrev pub admits : NameRole → ℕ → Bool
admits role.KeyTable = is_table_letter
admits role.KeyRow = is_row_letter
admits role.ChangeTable = is_table_letter
admits role.ChangeRow = is_row_letter
