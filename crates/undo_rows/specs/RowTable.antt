-- committed rows, and changes of them that are not committed yet, each by the one owner that made
-- it
use Rattle.std.specs.Prelude.{ℕ, ◌==◌, Bool, false, not, List, map, Option, Some, None, if◌then◌else◌}
use Rattle.std.specs.Coded.{Coded, code_by, coded×, coded_ℕ, coded_list, coded_option}
use Rattle.std.specs.Prelude.{refl}
use Rattle.finite_map.specs.FiniteMap.{FiniteMap, get, insert, retain_keys, code}
use Rattle.row_model.specs.Rows.{Rows, row_cmp, row_after, id_of}
use Rattle.row_model.specs.RowOrder.{coded_row_id}
use Rattle.row_model.specs.declared.row.RowId.{RowId}
use Rattle.row_model.specs.declared.row.RowItem.{RowItem}
use Rattle.row_model.specs.declared.ops.Op.{Op}
use Rattle.undo_rows.specs.declared.rows.Written.{Written}
use Rattle.undo_rows.specs.declared.rows.Written.TheVariants.{Done, Owned}

-- an owner, and what the row is for it
abbrev pub Change : Type 0
Change = ℕ × Option (List ℕ)

-- the rows that an owner has changed
abbrev pub Changes : Type 0
Changes = FiniteMap row_cmp Change

pub record RowTable : Type 0 where
  pub committed : Rows
  pub changes : Changes
  -- so many rows can be written or put with no more memory
  pub spare : ℕ

abbrev pub coded_rows : Coded Rows
coded_rows = code coded_row_id (coded_list coded_ℕ)

abbrev pub coded_changes : Coded Changes
coded_changes = code coded_row_id (coded× coded_ℕ (coded_option (coded_list coded_ℕ)))

abbrev pub coded_row_table : Coded RowTable
coded_row_table =
    code_by (Rows × (Changes × ℕ)) (coded× coded_rows (coded× coded_changes coded_ℕ))
    (λ t. (t.committed, (t.changes, t.spare)))
    (λ p. record { committed = p.0; changes = p.1.0; spare = p.1.1 }) (λ _. refl)

-- whether the change is this owner's
abbrev pub is_owned_by : ℕ → Option Change → Bool
is_owned_by owner None = false
is_owned_by owner (Some change) = change.0 == owner

-- the owner of the change, where it is another one
abbrev pub other_owner : ℕ → Option Change → Option ℕ
other_owner owner None = None
other_owner owner (Some change) = if change.0 == owner then None else Some change.0

-- an owner sees what it changed, and else the committed row
abbrev pub seen_of : ℕ → Option Change → Option (List ℕ) → Option (List ℕ)
seen_of owner None committed = committed
seen_of owner (Some change) committed = if change.0 == owner then change.1 else committed

abbrev pub seen : RowTable → ℕ → RowId → Option (List ℕ)
seen table owner id = seen_of owner (get table.changes id) (get table.committed id)

-- what becomes of a write, where another owner may have changed the row
abbrev pub written_unless : Option ℕ → RowTable → ℕ → Op → Written × Changes
written_unless (Some other) table owner op = (Owned other, table.changes)
written_unless None table owner op =
    let id = id_of op in (Done, insert table.changes id (owner, row_after (seen table owner id) op))

-- a row that another owner has changed stays; else the owner has the row after the change
abbrev pub written : RowTable → ℕ → Op → Written × Changes
written table owner op =
    written_unless (other_owner owner (get table.changes (id_of op))) table owner op

-- the changes of all other owners
abbrev pub without : Changes → ℕ → Changes
without changes owner = retain_keys changes (λ id. not (is_owned_by owner (get changes id)))

abbrev pub item_of : RowId × List ℕ → RowItem
item_of entry = record { id = entry.0; row = entry.1 }

-- the rows in their order
abbrev pub row_items : Rows → List RowItem
row_items rows = map item_of rows.entries
