-- calls on rows with owners, done one after another
use Rattle.std.specs.Prelude.{◌≡◌, ℕ, ◌<◌, ◌≤◌, Bool, true, false, List, [], ◌∷◌, ◌++◌, length, take, None}
use Rattle.std.specs.List.{fold, slice_index_or}
use Rattle.finite_map.specs.FiniteMap.{get, retain_keys}
use Rattle.row_model.specs.Rows.{Rows, with_row}
use Rattle.undo_rows.specs.RowTable.{RowTable, Changes, is_owned_by, seen, written, without, row_items}
use Rattle.undo_rows.specs.UndoRows.{put_back}
use Rattle.row_calls.specs.declared.calls.RowCall.{RowCall}
use Rattle.row_calls.specs.declared.calls.RowCall.TheVariants.{Write, RollBack, Keep, Reserve, Put, Committed, SeenBy, Walk}
use Rattle.row_calls.specs.declared.calls.RowAnswer.{RowAnswer}
use Rattle.row_calls.specs.declared.calls.RowAnswer.TheVariants.{Written, Done, Row, Rows as AllRows}

-- the rows without a word of the room that there is
pub record Standing : Type 0 where
  pub committed : Rows
  pub changes : Changes

abbrev pub standing : RowTable → Standing
standing table = record { committed = table.committed; changes = table.changes }

-- the same with no room
abbrev pub table_of : Standing → RowTable
table_of s = record { committed = s.committed; changes = s.changes; spare = 0 }

-- the changes of one owner
abbrev pub only : Changes → ℕ → Changes
only changes owner = retain_keys changes (λ id. is_owned_by owner (get changes id))

-- the committed rows once an owner's changes are put there
abbrev pub kept : Standing → ℕ → Rows
kept s owner = put_back (only s.changes owner).entries s.committed

-- what a call answers, and what stands after it
abbrev pub done_call : Standing → RowCall → Standing × RowAnswer
done_call s (Write owner op) =
    let w = written (table_of s) owner op in (record s { changes = w.1 }, Written w.0)
done_call s (RollBack owner) = (record s { changes = without s.changes owner }, Done)
done_call s (Keep owner) =
    (record { committed = kept s owner; changes = without s.changes owner }, Done)
done_call s (Reserve count) = (s, Done)
done_call s (Put id row) = (record s { committed = with_row s.committed id row }, Done)
done_call s (Committed id) = (s, Row (get s.committed id))
done_call s (SeenBy owner id) = (s, Row (seen (table_of s) owner id))
done_call s Walk = (s, AllRows (row_items s.committed))

-- one more call
abbrev pub done_next : Standing × List RowAnswer → RowCall → Standing × List RowAnswer
done_next before call = let one = done_call before.0 call in (one.0, before.1 ++ one.1 ∷ [])

abbrev pub done_calls : Standing → List RowCall → Standing × List RowAnswer
done_calls s calls = fold done_next (s, []) calls

-- nobody has changed a row that is put
abbrev pub IsFree : Standing → RowCall → Type 0
IsFree s (Put id row) = get s.changes id ≡ None
IsFree s _ = Unit {0}

abbrev pub AreFree : Standing → List RowCall → Type 0
AreFree s calls =
    (k : ℕ) (d : RowCall) → k < length calls
    → IsFree (done_calls s (take k calls)).0 (slice_index_or calls k d)

-- the first of the calls are done, so many as one will
pub record IsPartDone (s : Standing) (calls : List RowCall) (after : Standing) : Type 0 where
  pub count : ℕ
  pub within : count ≤ length calls
  pub done : after ≡ (done_calls s (take count calls)).0

-- no row is put
abbrev pub puts_none : List RowCall → Bool
puts_none [] = true
puts_none (Put id row ∷ calls) = false
puts_none (_ ∷ calls) = puts_none calls
