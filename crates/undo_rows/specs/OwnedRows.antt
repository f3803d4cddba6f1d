-- rows that have one owner each, in a hashed table; each row leads to the one that its owner got
-- before it
use Rattle.std.specs.Prelude.{◌≡◌, ℕ, ◌<◌, ◌==◌, List, length, Option, Some, None, refl, if◌then◌else◌}
use Rattle.std.specs.Coded.{Coded, code_by, coded×, coded_ℕ}
use Rattle.std.specs.List.{slice_index_or}
use Rattle.std.specs.Map.{lookup}
use Rattle.finite_map.specs.Hashed.{hashed}
use Rattle.finite_map.specs.Links.{Linked}
use Rattle.row_model.specs.RowOrder.{row_eq}
use Rattle.row_model.specs.declared.row.RowId.{RowId}
use Rattle.undo_rows.specs.RowTable.{Change, Changes, coded_changes}
use Rattle.undo_rows.specs.declared.owned_rows.OwnedRow.{OwnedRow}

pub record Owned : Type 0 where
  pub changes : Changes
  pub count : ℕ
  pub spare : ℕ

abbrev pub coded_owned : Coded Owned
coded_owned =
    code_by (Changes × (ℕ × ℕ)) (coded× coded_changes (coded× coded_ℕ coded_ℕ))
    (λ o. (o.changes, (o.count, o.spare)))
    (λ p. record { changes = p.0; count = p.1.0; spare = p.1.1 }) (λ _. refl)

abbrev pub change_of : OwnedRow → Change
change_of entry = (entry.owner, entry.row)

abbrev pub changes_in : List (RowId × OwnedRow) → Changes
changes_in entries = hashed change_of entries

-- where an owner's row leads
abbrev pub link_of : ℕ → Option OwnedRow → Option (Option RowId)
link_of owner None = None
link_of owner (Some entry) = if entry.owner == owner then Some entry.before else None

abbrev pub links : List (RowId × OwnedRow) → ℕ → RowId → Option (Option RowId)
links entries owner id = link_of owner (lookup (row_eq id) entries)

-- where a row leads once its owner sets it, by the entry that is there and the owner's newest row
abbrev pub before_in : Option OwnedRow → Option RowId → Option RowId
before_in None newest = newest
before_in (Some entry) newest = entry.before

-- each owner's newest row leads through all its rows
pub record AreLinked (entries : List (RowId × OwnedRow))
    (newest : List (Option RowId)) : Type 0 where
  pub owners : length newest ≡ 256
  pub linked : (owner : ℕ) → owner < 256
      → Linked (links entries owner) (slice_index_or newest owner None)
