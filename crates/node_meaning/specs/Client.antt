-- what a client call is answered, and the node after it
use Rattle.std.specs.Prelude.{ℕ, ◌+◌, ◌==◌, ◌&&◌, ◌||◌, nat_lt, Bool, true, false, not, List, [], ◌∷◌, length, Option, Some, None, is_some, is_none, option_map, if◌then◌else◌}
use Rattle.finite_map.specs.FiniteMap.{get, remove}
use Rattle.key_sets.specs.declared.kind.Kind.{Kind}
use Rattle.key_sets.specs.declared.kind.Kind.TheVariants as kind
use Rattle.key_sets.specs.Keys.{one_key}
use Rattle.row_model.specs.declared.row.RowId.{RowId}
use Rattle.row_model.specs.declared.ops.Op.{Op}
use Rattle.row_model.specs.declared.ops.Op.TheVariants as op
use Rattle.row_model.specs.declared.calls.Call.{Call}
use Rattle.row_model.specs.declared.calls.Call.TheVariants as call
use Rattle.row_model.specs.declared.calls.Reply.{Reply}
use Rattle.row_model.specs.declared.calls.Reply.TheVariants as reply
use Rattle.order_event.specs.declared.event.Event.{Event}
use Rattle.write_set.specs.Rules.{row_parts}
use Rattle.cert_meaning.specs.Verdict.{held_by}
use Rattle.cert_meaning.specs.Fold.{state_at}
use Rattle.client_trx.specs.Live.{Live, begun, added, is_too_large, is_due, is_running, with_status, commit_of, fragment_of, fragment_sent}
use Rattle.client_trx.specs.declared.status.Status.TheVariants as status
use Rattle.row_locks.specs.declared.holder.Holder.{Holder}
use Rattle.row_locks.specs.declared.holder.Holder.TheVariants.{Session, Unit as UnitHolder}
use Rattle.row_locks.specs.Locks.{blocker}
use Rattle.node_meaning.specs.Node.{ModelNode, is_left, is_joining, rows_at, seen_rows, locks_of, set_live, end_live, send, taken_back}

-- a statement: its row, the kind of its key, and its change, which `share` lacks
pub record Statement : Type 0 where
  pub id : RowId
  pub kind : Kind
  pub change : Option Op

abbrev pub inserting : RowId → List ℕ → Statement
inserting id row = record { id = id; kind = kind.Exclusive; change = Some (op.Insert id row) }

abbrev pub updating : RowId → List (Option ℕ) → Statement
updating id change = record { id = id; kind = kind.Update; change = Some (op.Update id change) }

abbrev pub deleting : RowId → Statement
deleting id = record { id = id; kind = kind.Exclusive; change = Some (op.Delete id) }

abbrev pub sharing : RowId → Statement
sharing id = record { id = id; kind = kind.Shared; change = None }

-- what a statement meets: the greatest fragment of another open transaction that touches its key,
-- the first other holder whose locks touch it, the row as its transaction sees it, and whether the
-- transaction would grow too large
pub record Met : Type 0 where
  pub held : Option ℕ
  pub blocker : Option Holder
  pub row : Option (List ℕ)
  pub large : Bool

-- the first line that answers
abbrev pub first_line : {A : Type 0} → List (Option A) → Option A
first_line [] = None
first_line (None ∷ lines) = first_line lines
first_line (Some a ∷ lines) = Some a

abbrev pub where_true : {A : Type 0} → Bool → A → Option A
where_true true a = Some a
where_true false a = None

abbrev pub is_insert : Option Op → Bool
is_insert None = false
is_insert (Some (op.Insert id row)) = true
is_insert (Some (op.Update id change)) = false
is_insert (Some (op.Delete id)) = false

-- the least column that is named and lies behind the width; the first of the list is counted as
-- `column`
abbrev pub missing_from : ℕ → ℕ → List (Option ℕ) → Option ℕ
missing_from column width [] = None
missing_from column width (None ∷ change) = missing_from (column + 1) width change
missing_from column width (Some value ∷ change) =
    if nat_lt width column then Some column else missing_from (column + 1) width change

-- the least column that an update names and the row lacks
abbrev pub missing_column : Option Op → Option (List ℕ) → Option ℕ
missing_column None row = None
missing_column (Some (op.Insert id values)) row = None
missing_column (Some (op.Delete id)) row = None
missing_column (Some (op.Update id change)) None = None
missing_column (Some (op.Update id change)) (Some row) = missing_from 1 (length row) change

abbrev pub busy_reply : Holder → Reply
busy_reply (Session session) = reply.Busy session
busy_reply (UnitHolder number) = reply.BusyApply number

-- why a statement is refused: the first line that holds
abbrev pub refusal : Met → Option Op → Option Reply
refusal met change = first_line (
    option_map reply.HeldBy met.held
    ∷ option_map busy_reply met.blocker
    ∷ where_true (is_insert change && is_some met.row) reply.Duplicate
    ∷ where_true (not (is_insert change) && is_none met.row) reply.NoRow
    ∷ option_map reply.NoColumn (missing_column change met.row)
    ∷ where_true met.large reply.TooLarge
    ∷ [])

-- the transaction with the statement's key and change
abbrev pub extended : Live → Statement → Live
extended t st = added t (row_parts st.id) st.kind st.change

abbrev pub met_by : List Event → ModelNode → ℕ → Live → Statement → Met
met_by order n session t st = record {
  held = held_by (state_at order n.at.certified) t.trx (one_key (row_parts st.id) st.kind);
  blocker = blocker (locks_of n.live n.units) (Session session) (row_parts st.id) st.kind;
  row = get (seen_rows (rows_at order n.at.committed) (Some t)) st.id;
  large = is_too_large (extended t st);
}

abbrev pub row_reply : Option (List ℕ) → Reply
row_reply None = reply.NoRow
row_reply (Some row) = reply.Row row

-- a fragment is sent, with what was gathered since the last one
abbrev pub send_fragment : ModelNode → ℕ → Live → ModelNode
send_fragment n session t =
    set_live (send n (fragment_of t n.at.serial n.at.committed)) session (fragment_sent t)

-- a change that makes a fragment due waits for its verdict
abbrev pub changed : Bool → ModelNode → ℕ → Live → Reply × ModelNode
changed true n session t = (reply.Pending, send_fragment n session t)
changed false n session t = (reply.Done, set_live n session t)

-- a statement is accepted, and its transaction is this now: `share` answers the row
abbrev pub accepted : ModelNode → ℕ → Option (List ℕ) → Option Op → Live → Reply × ModelNode
accepted n session row None t = (row_reply row, set_live n session t)
accepted n session row (Some change) t = changed (is_due t) n session t

-- a refused statement changes nothing
abbrev pub statement_by : Option Reply → ModelNode → Reply × ModelNode → Reply × ModelNode
statement_by (Some why) n otherwise = (why, n)
statement_by None n otherwise = otherwise

abbrev pub statement : List Event → ModelNode → ℕ → Option Live → Statement → Reply × ModelNode
statement order n session None st = (reply.NoTrx, n)
statement order n session (Some t) st =
    let met = met_by order n session t st in
    statement_by (refusal met st.change) n (accepted n session met.row st.change (extended t st))

-- a transaction begins with the next begin number; its fragments have so many changes, and with 0
-- it sends none
abbrev pub begin_call : ModelNode → ℕ → ℕ → Option Live → Reply × ModelNode
begin_call n session unit None = (
  reply.Done,
  set_live (record n { at = record n.at { begin = n.at.begin + 1 } }) session
      (begun (record { member = n.at.member; begin = n.at.begin }) unit),
)
begin_call n session unit (Some t) = (reply.InTrx, n)

-- the commit is sent, with what was gathered since the last fragment
abbrev pub send_commit : ModelNode → ℕ → Live → ModelNode
send_commit n session t =
    set_live (send n (commit_of t n.at.serial n.at.committed)) session
    (with_status t status.CommitSent)

-- a transaction without a change that never sent a fragment is done at once
abbrev pub commit_call : ModelNode → ℕ → Option Live → Reply × ModelNode
commit_call n session None = (reply.NoTrx, n)
commit_call n session (Some t) =
    if length t.ops == 0 && t.sent == 0 then (reply.Committed 0, end_live n session)
    else (reply.Pending, send_commit n session t)

-- a transaction ends; where it ever sent a fragment, a rollback takes its fragments back
abbrev pub rollback_call : ModelNode → ℕ → Option Live → Reply × ModelNode
rollback_call n session None = (reply.NoTrx, n)
rollback_call n session (Some t) = (reply.RolledBack, end_live (taken_back n t) session)

abbrev pub poll_reply : Option Live → Reply
poll_reply None = reply.NoTrx
poll_reply (Some t) = reply.Running

-- the table of calls, for a session without a live transaction, or with one that is Running
abbrev pub served : List Event → ModelNode → ℕ → Option Live → Call → Reply × ModelNode
served order n session live (call.Begin unit) = begin_call n session unit live
served order n session live (call.Insert id row) = statement order n session live (inserting id row)
served order n session live (call.Update id change) =
    statement order n session live (updating id change)
served order n session live (call.Delete id) = statement order n session live (deleting id)
served order n session live (call.Share id) = statement order n session live (sharing id)
served order n session live (call.Read id) =
    (row_reply (get (seen_rows (rows_at order n.at.committed) live) id), n)
served order n session live call.Commit = commit_call n session live
served order n session live call.Rollback = rollback_call n session live
served order n session live call.Poll = (poll_reply live, n)

-- whether the session's transaction is live and not Running
abbrev pub is_pending : Option Live → Bool
is_pending None = false
is_pending (Some t) = not (is_running t.status)

-- the rules before the table
abbrev pub asked : List Event → ModelNode → ℕ → Option Live → Call → Reply × ModelNode
asked order n session live c =
    if is_pending live then (reply.Pending, n)
    else if is_left n.at.phase then (reply.Disconnected, n)
    else if is_joining n.at.phase || nat_lt n.at.committed n.at.view then (reply.NotSynced, n)
    else served order n session live c

-- a waiting answer comes first and is cleared; the call is not done
abbrev pub told_first : ModelNode → ℕ → Option Reply → Reply × ModelNode → Reply × ModelNode
told_first n session (Some waiting) otherwise =
    (waiting, record n { waiting = remove n.waiting session })
told_first n session None otherwise = otherwise

unfoldable pub client : List Event → ModelNode → ℕ → Call → Reply × ModelNode
client order n session c =
    told_first n session (get n.waiting session) (asked order n session (get n.live session) c)
