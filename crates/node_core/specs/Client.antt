-- why a call is not done, and why a statement is refused, whatever its transaction's size
use Rattle.std.specs.Prelude.{ℕ, ◌==◌, ◌&&◌, ◌||◌, nat_lt, Bool, false, not, List, [], ◌∷◌, length, Option, Some, None, is_some, is_none, option_map, if◌then◌else◌}
use Rattle.row_model.specs.declared.ops.Op.{Op}
use Rattle.row_model.specs.declared.ops.Op.TheVariants as op
use Rattle.row_model.specs.declared.calls.Call.{Call}
use Rattle.row_model.specs.declared.calls.Call.TheVariants as call
use Rattle.row_model.specs.declared.calls.Reply.{Reply}
use Rattle.row_model.specs.declared.calls.Reply.TheVariants as reply
use Rattle.row_locks.specs.declared.holder.Holder.{Holder}
use Rattle.client_trx.specs.Live.{Live}
use Rattle.node_meaning.specs.declared.progress.Progress.{Progress}
use Rattle.node_meaning.specs.Node.{is_left, is_joining}
use Rattle.node_meaning.specs.Client.{first_line, busy_reply, missing_column, is_pending}

-- the rules before the table of calls
abbrev pub closed_by : Progress → Option Live → Option Reply
closed_by at live =
    if is_pending live then Some reply.Pending
    else if is_left at.phase then Some reply.Disconnected
    else if is_joining at.phase || nat_lt at.committed at.view then Some reply.NotSynced
    else None

-- a commit is sent, unless there is no transaction, or one that changed nothing and never sent a
-- fragment
abbrev pub sends_commit : Option Live → Bool
sends_commit None = false
sends_commit (Some t) = not (length t.ops == 0 && t.sent == 0)

-- a rollback is sent where the transaction ever sent a fragment
abbrev pub sends_rollback : Option Live → Bool
sends_rollback None = false
sends_rollback (Some t) = nat_lt 0 t.sent

-- the calls of the table that may take memory: a begin where no transaction is live, a statement of
-- a live one, and a commit or a rollback that is sent
abbrev pub takes_memory : Option Live → Call → Bool
takes_memory live (call.Begin unit) = is_none live
takes_memory live (call.Insert id row) = is_some live
takes_memory live (call.Update id change) = is_some live
takes_memory live (call.Delete id) = is_some live
takes_memory live (call.Share id) = is_some live
takes_memory live (call.Read id) = false
takes_memory live call.Commit = sends_commit live
takes_memory live call.Rollback = sends_rollback live
takes_memory live call.Poll = false

-- why the row as it is refuses a statement
abbrev pub of_row : Option (List ℕ) → Option Op → Option Reply
of_row None None = Some reply.NoRow
of_row None (Some (op.Insert id values)) = None
of_row None (Some (op.Update id change)) = Some reply.NoRow
of_row None (Some (op.Delete id)) = Some reply.NoRow
of_row (Some row) None = None
of_row (Some row) (Some (op.Insert id values)) = Some reply.Duplicate
of_row (Some row) (Some (op.Update id change)) =
    option_map reply.NoColumn (missing_column (Some (op.Update id change)) (Some row))
of_row (Some row) (Some (op.Delete id)) = None

-- what is held comes first, then who has locks, then the row
abbrev pub hindrance : Option ℕ → Option Holder → Option (List ℕ) → Option Op → Option Reply
hindrance held blocker row change =
    first_line
    (option_map reply.HeldBy held ∷ option_map busy_reply blocker ∷ of_row row change ∷ [])
