-- the model of a node: no rows, no index and no locks of its own. Its rows are those of the fold at
-- what it has committed.
use Rattle.std.specs.Prelude.{ℕ, ◌+◌, ◌==◌, nat_lt, Bool, true, false, List, [], ◌∷◌, ◌++◌, Option, Some, None, if◌then◌else◌}
use Rattle.std.specs.List.{filter, filter_map}
use Rattle.std.specs.Ordering.{nat_cmp}
use Rattle.finite_map.specs.FiniteMap.{FiniteMap, empty, insert, remove, from_entries, len}
use Rattle.key_sets.specs.Keys.{Keys}
use Rattle.row_model.specs.declared.calls.Reply.{Reply}
use Rattle.row_model.specs.Rows.{Rows, ops_on}
use Rattle.order_event.specs.declared.event.Event.{Event}
use Rattle.order_event.specs.declared.event.Message.{Message}
use Rattle.order_event.specs.declared.event.Message.TheVariants as message
use Rattle.write_set.specs.declared.write_set.WriteSet.{WriteSet}
use Rattle.write_set.specs.Spelling.{spelling}
use Rattle.cert_meaning.specs.declared.items.CommitItem.{CommitItem}
use Rattle.cert_meaning.specs.State.{commit_numbered}
use Rattle.cert_meaning.specs.Fold.{state_at}
use Rattle.client_trx.specs.Live.{Live, has_locks, rollback_due}
use Rattle.row_locks.specs.declared.holder.Holder.{Holder}
use Rattle.row_locks.specs.declared.holder.Holder.TheVariants.{Session, Unit as UnitHolder}
use Rattle.row_locks.specs.Locks.{Locks}
use Rattle.node_meaning.specs.declared.progress.Progress.{Progress}
use Rattle.node_meaning.specs.declared.progress.Phase.{Phase}
use Rattle.node_meaning.specs.declared.progress.Phase.TheVariants as phase
use Rattle.node_meaning.specs.declared.progress.Stage.{Stage}

-- a started or finished unit, and the keys of its commit
pub record ApplyUnit : Type 0 where
  pub stage : Stage
  pub keys : Keys

pub record ModelNode : Type 0 where
  pub at : Progress
  pub id : List ℕ
  -- the most that the entries of its ring of events may sum to, in bytes
  pub gcache : ℕ
  -- the number at which it took a snapshot of the state last; 0 where it took none
  pub since : ℕ
  -- messages that were sent and ordered and are not taken, oldest first
  pub ordered : List Message
  -- messages that were sent and are not ordered, oldest first
  pub outbox : List Message
  -- live transactions, by session
  pub live : FiniteMap nat_cmp Live
  -- started and finished units, by number
  pub units : FiniteMap nat_cmp ApplyUnit
  -- waiting answers, by session
  pub waiting : FiniteMap nat_cmp Reply

-- a node at its start, with a ring of so many bytes
abbrev pub start_node : ℕ → List ℕ → ℕ → ModelNode
start_node gcache id member = record {
  at =
      record {
        phase = phase.Connected;
        member = member;
        view = 1;
        taken = 0;
        certified = 0;
        committed = 0;
        serial = 1;
        begin = 1;
      };
  id = id;
  gcache = gcache;
  since = 0;
  ordered = [];
  outbox = [];
  live = empty;
  units = empty;
  waiting = empty;
}

abbrev pub is_left : Phase → Bool
is_left phase.Left = true
is_left phase.Joining = false
is_left phase.Connected = false

abbrev pub is_joining : Phase → Bool
is_joining phase.Left = false
is_joining phase.Joining = true
is_joining phase.Connected = false

abbrev pub is_connected : Phase → Bool
is_connected phase.Left = false
is_connected phase.Joining = false
is_connected phase.Connected = true

-- the committed rows
abbrev pub rows_at : List Event → ℕ → Rows
rows_at order committed = (state_at order committed).rows

-- the rows that a session sees: the committed ones, and the changes of its transaction on them
-- while that has locks
abbrev pub seen_rows : Rows → Option Live → Rows
seen_rows rows None = rows
seen_rows rows (Some t) = if has_locks t.status then ops_on t.ops rows else rows

-- the passed commits that are certified and not committed
abbrev pub ahead : List Event → ℕ → ℕ → List CommitItem
ahead order committed certified =
    filter (λ c. nat_lt committed c.number) (state_at order certified).commits

-- the one of them with this number
abbrev pub passed_at : List Event → ℕ → ℕ → ℕ → Option CommitItem
passed_at order committed certified number =
    commit_numbered number (ahead order committed certified)

-- a holder with its keys, where it has any
abbrev pub some_keys : Bool → Holder → Keys → Option (Holder × Keys)
some_keys true holder keys = if len keys == 0 then None else Some (holder, keys)
some_keys false holder keys = None

-- the lock of a session's transaction, while it has any
abbrev pub live_lock : ℕ × Live → Option (Holder × Keys)
live_lock e = some_keys (has_locks e.1.status) (Session e.0) e.1.keys

abbrev pub unit_lock : ℕ × ApplyUnit → Option (Holder × Keys)
unit_lock e = some_keys true (UnitHolder e.0) e.1.keys

-- who has which keys: transactions with locks those since their start, and units those of their
-- commits
abbrev pub locks_of : FiniteMap nat_cmp Live → FiniteMap nat_cmp ApplyUnit → Locks
locks_of live units =
    from_entries (filter_map live_lock live.entries ++ filter_map unit_lock units.entries)

abbrev pub set_live : ModelNode → ℕ → Live → ModelNode
set_live n session t = record n { live = insert n.live session t }

-- a transaction ends
abbrev pub end_live : ModelNode → ℕ → ModelNode
end_live n session = record n { live = remove n.live session }

-- a transaction ends, and its session is told so when it calls next
abbrev pub end_with : ModelNode → ℕ → Reply → ModelNode
end_with n session reply =
    record n { live = remove n.live session; waiting = insert n.waiting session reply }

-- the bytes of a write set are put at the end of the queue
abbrev pub send : ModelNode → WriteSet → ModelNode
send n w = record n {
  at = record n.at { serial = n.at.serial + 1 };
  outbox = n.outbox ++ message.Write (spelling w) ∷ [];
}

abbrev pub send_any : ModelNode → Option WriteSet → ModelNode
send_any n None = n
send_any n (Some w) = send n w

-- the rollback that the end of a transaction leaves is sent: where it ever sent a fragment, and
-- nothing of its commit
abbrev pub taken_back : ModelNode → Live → ModelNode
taken_back n t = send_any n (rollback_due t n.at.serial n.at.committed)
