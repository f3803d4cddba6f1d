-- what committing the next number does to the parts of a node
use Rattle.std.specs.Prelude.{◌≡◌, ◌≤◌, ℕ, ◌+◌, List, [], length, Option, Some, None, is_some}
use Rattle.std.specs.List.{AllByRecursion}
use Rattle.finite_map.specs.FiniteMap.{get, insert, remove}
use Rattle.row_model.specs.declared.row.RowId.{RowId}
use Rattle.row_model.specs.declared.calls.Reply.TheVariants as reply
use Rattle.row_locks.specs.declared.holder.Holder.TheVariants.{Session, Unit as UnitHolder}
use Rattle.client_trx.specs.Live.{Live}
use Rattle.apply_unit.specs.Results.{Image, computed, put_all}
use Rattle.apply_unit.specs.Task.{ModelTask}
use Rattle.undo_rows.specs.RowTable.{Changes, seen, without as without_owner}
use Rattle.node_parts.specs.Units.{without, done_of, rows_of}
use Rattle.node_meaning.specs.Steps.{is_finished}
use Rattle.node_core.specs.declared.node.NodeParts.{NodeParts}

-- no live transaction has changed a row of the images
abbrev pub AreFree : Changes → List Image → Type 0
AreFree changes images = AllByRecursion (λ image. get changes image.0 ≡ None) images

-- the rows that a unit's task leaves, once it is done
abbrev pub results_of : Option ModelTask → List Image
results_of None = []
results_of (Some task) = computed task.ops task.images

-- the unit with a number is taken out, and its results become the committed rows
pub record TakesUnit (number : ℕ) (old new : NodeParts) : Type 0 where
  pub rest : new ≡ record old { units = new.units; locks = new.locks; rows = new.rows }
  pub units : new.units ≡ without old.units number
  pub locks : new.locks.locks ≡ remove old.locks.locks (UnitHolder number)
  pub finished : is_some (done_of (get old.units.work number))
      ≡ is_finished (get old.units.units number)
  pub committed : new.rows.committed
      ≡ put_all (results_of (done_of (get old.units.work number))) old.rows.committed
  pub changes : new.rows.changes ≡ old.rows.changes
  pub spare : old.rows.spare
      ≤ new.rows.spare + length (results_of (done_of (get old.units.work number)))
  pub rows : rows_of (get old.units.work number) ≤ old.units.room

-- the session's transaction ends and its changes become committed
pub record IsCommitted (session number : ℕ) (old new : NodeParts) : Type 0 where
  pub rest : new
      ≡ record old { live = new.live; waiting = new.waiting; locks = new.locks; rows = new.rows }
  pub live : new.live ≡ remove old.live session
  pub waiting : new.waiting ≡ insert old.waiting session (reply.Committed number)
  pub locks : new.locks.locks ≡ remove old.locks.locks (Session session)
  pub committed : (id : RowId) → get new.rows.committed id ≡ seen old.rows session id
  pub changes : new.rows.changes ≡ without_owner old.rows.changes session
  pub spare : old.rows.spare ≤ new.rows.spare

-- what becomes of the transaction that commits, if one does
abbrev pub AfterCommitter : Option (ℕ × Live) → ℕ → NodeParts → NodeParts → Type 0
AfterCommitter None number old new = new ≡ old
AfterCommitter (Some e) number old new = IsCommitted e.0 number old new
