-- A live transaction: its keys and changes, how far it is, and what statements, verdicts and kills
-- make of it.
use Rattle.std.specs.Prelude.{◌≡◌, ◌<◌, ℕ, ◌+◌, ◌==◌, Bool, true, false, ◌&&◌, nat_lt, List, [], length, Option, Some, None, if◌then◌else◌}
use Rattle.finite_map.specs.FiniteMap.{empty}
use Rattle.key_sets.specs.declared.kind.Kind.{Kind}
use Rattle.key_sets.specs.declared.parts.Parts.{Parts}
use Rattle.key_sets.specs.Keys.{Keys, with_key}
use Rattle.row_model.specs.declared.ops.Op.{Op}
use Rattle.row_model.specs.declared.calls.Reply.TheVariants.{DeadlockCert, DeadlockBf}
use Rattle.wsrep_base.specs.declared.ids.TrxId.{TrxId}
use Rattle.wsrep_base.specs.declared.verdict.Verdict.{Verdict}
use Rattle.wsrep_base.specs.declared.verdict.Verdict.TheVariants.{Pass, Malformed, Stranger, Repeat, Future, Stale, Broken, Conflict, Held}
use Rattle.write_set.specs.declared.write_set.WriteSet.{WriteSet}
use Rattle.client_trx.specs.declared.status.Status.{Status}
use Rattle.client_trx.specs.declared.status.Status.TheVariants.{Running, FragmentSent, CommitSent, Certified, KilledSent, Replaying}
use Rattle.client_trx.specs.declared.status.Added.{Added}
use Rattle.client_trx.specs.declared.status.Added.TheVariants.{Done, Fragment, TooLarge}
use Rattle.client_trx.specs.declared.status.Outcome.{Outcome}
use Rattle.client_trx.specs.declared.status.Outcome.TheVariants.{Lives, Ends}
use Rattle.client_trx.specs.KeyedOps.{Keyed, with_op, is_over}

-- a live transaction: its fragments have so many changes (0: it sends none), and so many are sent
pub record Live : Type 0 where
  pub trx : TrxId
  pub unit : ℕ
  pub sent : ℕ
  -- since its start
  pub keys : Keys
  pub ops : List Op
  -- since its last fragment
  pub new_keys : Keys
  pub new_ops : List Op
  pub status : Status

-- a transaction that has done nothing yet
abbrev pub begun : TrxId → ℕ → Live
begun trx unit = record {
  trx = trx;
  unit = unit;
  sent = 0;
  keys = empty;
  ops = [];
  new_keys = empty;
  new_ops = [];
  status = Running;
}

-- its keys and changes since its start
abbrev pub whole_of : Live → Keyed
whole_of t = record { keys = t.keys; ops = t.ops }

-- its keys and changes since its last fragment
abbrev pub newest_of : Live → Keyed
newest_of t = record { keys = t.new_keys; ops = t.new_ops }

-- one more key, and the change where there is one
abbrev pub added : Live → Parts → Kind → Option Op → Live
added t parts kind op = record t {
  keys = with_key t.keys parts kind;
  ops = with_op t.ops op;
  new_keys = with_key t.new_keys parts kind;
  new_ops = with_op t.new_ops op;
}

-- it has more than 4,096 keys or more than 8,192 changes
abbrev pub is_too_large : Live → Bool
is_too_large t = is_over (whole_of t)

-- it sends fragments, and has as many changes as one has
abbrev pub is_due : Live → Bool
is_due t = nat_lt 0 t.unit && t.unit == length t.new_ops

-- only a change makes a fragment due
abbrev pub told_added : Option Op → Live → Added
told_added None t = Done
told_added (Some op) t = if is_due t then Fragment else Done

-- a statement that would make it too large adds nothing
abbrev pub added_unless : Bool → Option Op → Live → Live → Added × Live
added_unless true op old new = (TooLarge, old)
added_unless false op old new = (told_added op new, new)

-- a statement's key, and its change where there is one
abbrev pub add_by : Live → Parts → Kind → Option Op → Added × Live
add_by t parts kind op =
    added_unless (is_too_large (added t parts kind op)) op t (added t parts kind op)

abbrev pub has_locks : Status → Bool
has_locks Running = true
has_locks FragmentSent = true
has_locks CommitSent = true
has_locks (Certified n) = true
has_locks KilledSent = false
has_locks (Replaying n) = false

-- statements are taken
abbrev pub is_running : Status → Bool
is_running Running = true
is_running FragmentSent = false
is_running CommitSent = false
is_running (Certified n) = false
is_running KilledSent = false
is_running (Replaying n) = false

-- a write set of it is sent and not yet certified
abbrev pub is_sent : Status → Bool
is_sent Running = false
is_sent FragmentSent = true
is_sent CommitSent = true
is_sent (Certified n) = false
is_sent KilledSent = true
is_sent (Replaying n) = false

-- the number of its commit, where that has passed
abbrev pub commit_number : Status → Option ℕ
commit_number Running = None
commit_number FragmentSent = None
commit_number CommitSent = None
commit_number (Certified n) = Some n
commit_number KilledSent = None
commit_number (Replaying n) = Some n

abbrev pub with_status : Live → Status → Live
with_status t status = record t { status = status }

-- a write set of these keys and changes, by serial, last seen and flags
abbrev pub set_from : Live → Keyed → ℕ → ℕ → ℕ → WriteSet
set_from t all serial last_seen flags = record {
  member = t.trx.member;
  serial = serial;
  begin = t.trx.begin;
  fragment = t.sent;
  flags = flags;
  last_seen = last_seen;
  keys = all.keys;
  ops = all.ops;
}

-- the write set of its keys and changes since its last fragment
abbrev pub gathered : Live → ℕ → ℕ → ℕ → WriteSet
gathered t serial last_seen flags = set_from t (newest_of t) serial last_seen flags

-- START 1 and END 2 where no fragment was sent, and else END alone
abbrev pub commit_flags : ℕ → ℕ
commit_flags sent = if sent == 0 then 3 else 2

-- the write set of its commit, by serial and last seen
abbrev pub commit_of : Live → ℕ → ℕ → WriteSet
commit_of t serial last_seen = gathered t serial last_seen (commit_flags t.sent)

-- START 1 where it is the first fragment
abbrev pub fragment_flags : ℕ → ℕ
fragment_flags sent = if sent == 0 then 1 else 0

-- the write set of its next fragment, by serial and last seen
abbrev pub fragment_of : Live → ℕ → ℕ → WriteSet
fragment_of t serial last_seen = gathered t serial last_seen (fragment_flags t.sent)

-- what a statement adds makes a fragment due, by serial and last seen
abbrev pub fragment_by : Added → Live → ℕ → ℕ → Option WriteSet
fragment_by Done t serial last_seen = None
fragment_by Fragment t serial last_seen = Some (fragment_of t serial last_seen)
fragment_by TooLarge t serial last_seen = None

-- the fragment that one more key, and the change where there is one, make due
abbrev pub due_fragment : Live → Parts → Kind → Option Op → ℕ → ℕ → Option WriteSet
due_fragment t parts kind op serial last_seen =
    let both = add_by t parts kind op in fragment_by both.0 both.1 serial last_seen

-- it can send a fragment
abbrev pub CanSendFragment : Live → Type 0
CanSendFragment t = (t.status ≡ Running) × (0 < length t.new_ops)

-- a fragment is sent: it has gathered nothing since, so a pass changes its status alone
abbrev pub fragment_sent : Live → Live
fragment_sent t = record t {
  sent = t.sent + 1;
  new_keys = empty;
  new_ops = [];
  status = FragmentSent;
}

-- the write set that takes its fragments back, ROLLBACK 4, by serial and last seen
abbrev pub rollback_of : Live → ℕ → ℕ → WriteSet
rollback_of t serial last_seen = record {
  member = t.trx.member;
  serial = serial;
  begin = t.trx.begin;
  fragment = 0;
  flags = 4;
  last_seen = last_seen;
  keys = empty;
  ops = [];
}

-- its client or a unit can end it: nothing of its commit is sent
abbrev pub is_uncommitted : Status → Bool
is_uncommitted Running = true
is_uncommitted FragmentSent = true
is_uncommitted CommitSent = false
is_uncommitted (Certified n) = false
is_uncommitted KilledSent = false
is_uncommitted (Replaying n) = false

-- the rollback that its end before its commit sends, by serial and last seen: where it ever sent a
-- fragment
abbrev pub rollback_due : Live → ℕ → ℕ → Option WriteSet
rollback_due t serial last_seen =
    if is_uncommitted t.status && nat_lt 0 t.sent
    then Some (rollback_of t serial last_seen) else None

-- the status once the write set that was sent has passed with number n
abbrev pub passed_status : ℕ → Status → Status
passed_status n Running = Running
passed_status n FragmentSent = Running
passed_status n CommitSent = Certified n
passed_status n (Certified m) = Certified m
passed_status n KilledSent = Replaying n
passed_status n (Replaying m) = Replaying m

-- what the verdict on the write set that was sent, with number n, makes of it
abbrev pub judged_by : ℕ → Verdict → Live → Outcome × Live
judged_by n Pass t = (Lives, with_status t (passed_status n t.status))
judged_by n Malformed t = (Lives, t)
judged_by n Stranger t = (Lives, t)
judged_by n Repeat t = (Lives, t)
judged_by n Future t = (Lives, t)
judged_by n Stale t = (Lives, t)
judged_by n Broken t = (Lives, t)
judged_by n (Conflict v) t = (Ends (DeadlockCert v), t)
judged_by n (Held v) t = (Ends (DeadlockCert v), t)

-- what unit n makes of a transaction in its way, by the status of that
abbrev pub killed_in : Status → ℕ → Live → Outcome × Live
killed_in Running n t = (Ends (DeadlockBf n), t)
killed_in FragmentSent n t = (Ends (DeadlockBf n), t)
killed_in CommitSent n t = (Lives, with_status t KilledSent)
killed_in (Certified m) n t = (Lives, with_status t (Replaying m))
killed_in KilledSent n t = (Lives, t)
killed_in (Replaying m) n t = (Lives, t)

-- what unit n makes of a transaction in its way
abbrev pub killed_by : ℕ → Live → Outcome × Live
killed_by n t = killed_in t.status n t
