-- the steps of one node over the order: what each is answered, and the node after it
use Rattle.std.specs.Prelude.{ℕ, zero, suc, ◌+◌, ◌-◌, ◌==◌, ◌&&◌, ◌||◌, nat_lt, Bool, true, false, not, List, [], ◌∷◌, ◌++◌, length, map, slice_get, Option, Some, None, is_some, if◌then◌else◌}
use Rattle.std.specs.List.{filter, find, fold}
use Rattle.std.specs.Str.{bytes_eq}
use Rattle.std.specs.Ordering.{nat_cmp}
use Rattle.finite_map.specs.FiniteMap.{FiniteMap, get, insert, remove}
use Rattle.wsrep_base.specs.declared.verdict.Verdict.{Verdict}
use Rattle.wsrep_base.specs.declared.verdict.Verdict.TheVariants as verdict
use Rattle.wsrep_base.specs.declared.verdict.Judged.{Judged}
use Rattle.wsrep_base.specs.declared.verdict.Judged.TheVariants as became
use Rattle.wsrep_base.specs.Trx.{greatest}
use Rattle.key_sets.specs.Keys.{Keys, touches}
use Rattle.row_model.specs.declared.calls.Reply.TheVariants as reply
use Rattle.order_event.specs.declared.event.Event.{Event}
use Rattle.order_event.specs.declared.event.Event.TheVariants as event
use Rattle.order_event.specs.declared.event.Message.{Message}
use Rattle.order_event.specs.declared.event.Message.TheVariants as message
use Rattle.order_event.specs.declared.step.Act.{Act}
use Rattle.order_event.specs.declared.step.Act.TheVariants as act
use Rattle.order_event.specs.declared.step.Answer.{Answer}
use Rattle.order_event.specs.declared.step.Answer.TheVariants as answer
use Rattle.write_set.specs.declared.write_set.WriteSet.{WriteSet}
use Rattle.write_set.specs.Reading.{decoded}
use Rattle.cert_meaning.specs.declared.items.CommitItem.{CommitItem}
use Rattle.cert_meaning.specs.Fold.{judged, state_at}
use Rattle.client_trx.specs.declared.status.Outcome.{Outcome}
use Rattle.client_trx.specs.declared.status.Outcome.TheVariants.{Lives, Ends}
use Rattle.client_trx.specs.Live.{Live, is_sent, judged_by, killed_by}
pub use Rattle.trx_replay.specs.Replay.{is_certified_at, is_replaying_at, is_local, committer_of}
use Rattle.row_locks.specs.Locks.{touching_sessions}
use Rattle.node_meaning.specs.declared.progress.Stage.{Stage}
use Rattle.node_meaning.specs.declared.progress.Stage.TheVariants.{Started, Finished}
use Rattle.node_meaning.specs.Node.{ModelNode, ApplyUnit, is_left, is_joining, is_connected, ahead, passed_at, locks_of, set_live, end_with, taken_back}
use Rattle.node_meaning.specs.Client.{client}
use Rattle.node_meaning.specs.Status.{status_step}

-- ---- sending
-- the oldest message of the outbox counts as ordered
abbrev pub first_sent : ModelNode → List Message → ModelNode
first_sent n [] = n
first_sent n (m ∷ ms) = record n { ordered = n.ordered ++ m ∷ []; outbox = ms }

abbrev pub sent_out : ModelNode → ModelNode
sent_out n = first_sent n n.outbox

-- ---- taking
abbrev pub is_write : Message → Bool
is_write (message.Write body) = true
is_write (message.Report number) = false

abbrev pub is_report : Message → Bool
is_report (message.Write body) = false
is_report (message.Report number) = true

-- without the first that passes the test
abbrev pub without_first : (Message → Bool) → List Message → List Message
without_first test [] = []
without_first test (m ∷ ms) = if test m then ms else m ∷ without_first test ms

-- whether the message is the write set with these bytes
abbrev pub is_this_write : List ℕ → Option Message → Bool
is_this_write body None = false
is_this_write body (Some (message.Write other)) = bytes_eq body other
is_this_write body (Some (message.Report number)) = false

-- the node without the message that the event is; None where the event is a write set of the node's
-- member that is not the oldest one that it had ordered
abbrev pub unqueued : ModelNode → Event → Option ModelNode
unqueued n (event.Write member body) =
    if not (member == n.at.member) then Some n
    else if is_this_write body (find is_write n.ordered)
    then Some (record n { ordered = without_first is_write n.ordered })
    else None
unqueued n (event.Report member number) =
    if member == n.at.member then Some (record n { ordered = without_first is_report n.ordered })
    else Some n
unqueued n (event.View version members) = Some n

abbrev pub took : ModelNode → Option ModelNode → Answer × ModelNode
took n None = (answer.Split, n)
took n (Some m) =
    (answer.Took (m.at.taken + 1), record m { at = record m.at { taken = m.at.taken + 1 } })

abbrev pub take_event : ModelNode → Option Event → Answer × ModelNode
take_event n None = (answer.Nothing, n)
take_event n (Some e) = took n (unqueued n e)

-- the next event of the order is taken
unfoldable pub take_step : List Event → ModelNode → Answer × ModelNode
take_step order n =
    if is_connected n.at.phase then take_event n (slice_get order n.at.taken)
    else (answer.Nothing, n)

-- ---- certifying
abbrev pub verdict_of : Judged → Verdict
verdict_of became.View = verdict.Pass
verdict_of became.Report = verdict.Pass
verdict_of became.Commit = verdict.Pass
verdict_of became.Fragment = verdict.Pass
verdict_of became.Rollback = verdict.Pass
verdict_of (became.Fail failed) = failed

-- a transaction lives on as it is now, or ends and its session is told so
abbrev pub told : ModelNode → ℕ → Outcome × Live → ModelNode
told n session (Lives, t) = set_live n session t
told n session (Ends reply, t) = end_with n session reply

-- the session of the live transaction with this begin number, and the transaction
abbrev pub session_of : FiniteMap nat_cmp Live → ℕ → Option (ℕ × Live)
session_of live begin = find (λ e. e.1.trx.begin == begin) live.entries

abbrev pub told_verdict : ModelNode → ℕ → Verdict → Option (ℕ × Live) → ModelNode
told_verdict n number v None = n
told_verdict n number v (Some e) =
    if is_sent e.1.status then told n e.0 (judged_by number v e.1) else n

abbrev pub told_own : ModelNode → ℕ → Verdict → Option WriteSet → ModelNode
told_own n number v None = n
told_own n number v (Some w) = told_verdict n number v (session_of n.live w.begin)

-- what the verdict of an event does to the transaction that sent it
abbrev pub told_event : ModelNode → ℕ → Verdict → Event → ModelNode
told_event n number v (event.Write member body) =
    if member == n.at.member then told_own n number v (decoded body) else n
told_event n number v (event.View version members) = n
told_event n number v (event.Report member reported) = n

abbrev pub certify_event : List Event → ModelNode → Option Event → Answer × ModelNode
certify_event order n None = (answer.Nothing, n)
certify_event order n (Some e) =
    let number = n.at.certified + 1 in
    let became = judged (state_at order n.at.certified) e in (
      answer.Judged number became,
      told_event (record n { at = record n.at { certified = number } }) number
          (verdict_of became) e,
    )

-- the next event that was taken is certified
unfoldable pub certify_step : List Event → ModelNode → Answer × ModelNode
certify_step order n =
    if n.at.certified == n.at.taken then (answer.Nothing, n)
    else certify_event order n (slice_get order n.at.certified)

-- ---- units
-- a unit aborts a session's transaction: that ends, and its session is told so; or it loses its
-- locks
abbrev pub ended_session : ℕ → ModelNode → ℕ → Option Live → ModelNode
ended_session number n session None = n
ended_session number n session (Some t) = told n session (killed_by number t)

abbrev pub end_killed : ℕ → ModelNode → ℕ → ModelNode
end_killed number n session = ended_session number n session (get n.live session)

-- before that, a rollback takes back the fragments of one that ends
abbrev pub sent_rollback : ModelNode → Option Live → ModelNode
sent_rollback n None = n
sent_rollback n (Some t) = taken_back n t

abbrev pub send_rollback : ModelNode → ℕ → ModelNode
send_rollback n session = sent_rollback n (get n.live session)

abbrev pub killed_session : ℕ → ModelNode → ℕ → Option Live → ModelNode
killed_session number n session live = ended_session number (sent_rollback n live) session live

abbrev pub kill_session : ℕ → ModelNode → ℕ → ModelNode
kill_session number n session = killed_session number n session (get n.live session)

-- the unit starts, and aborts the transactions whose locks touch it
abbrev pub started : ModelNode → ℕ → Keys → List ℕ → Answer × ModelNode
started n number keys victims = (
  answer.Started number victims,
  fold (kill_session number)
      (record n { units = insert n.units number (record { stage = Started; keys = keys }) })
      victims,
)

-- the passed commits before a number that touch the keys
abbrev pub touching_before : List CommitItem → ℕ → Keys → List ℕ
touching_before commits number keys =
    map (λ (c : CommitItem). c.number)
    (filter (λ c. nat_lt c.number number && touches c.keys keys) commits)

abbrev pub start_after : ModelNode → ℕ → Keys → Option ℕ → Answer × ModelNode
start_after n number keys (Some earlier) = (answer.NotYet earlier, n)
start_after n number keys None =
    started n number keys (touching_sessions (locks_of n.live n.units) keys)

abbrev pub start_unit : List Event → ModelNode → ℕ → Option CommitItem → Answer × ModelNode
start_unit order n number None = (answer.NoUnit number, n)
start_unit order n number (Some commit) =
    if is_some (get n.units number) then (answer.NoUnit number, n)
    else if is_local n.live number then (answer.Local number, n)
    else start_after n number commit.keys
    (greatest (touching_before (ahead order n.at.committed n.at.certified) number commit.keys))

unfoldable pub start_step : List Event → ModelNode → ℕ → Answer × ModelNode
start_step order n number =
    start_unit order n number (passed_at order n.at.committed n.at.certified number)

abbrev pub finish_stage : ModelNode → ℕ → Keys → Stage → Answer × ModelNode
finish_stage n number keys Started = (
  answer.Finished number,
  record n { units = insert n.units number (record { stage = Finished; keys = keys }) },
)
finish_stage n number keys Finished = (answer.NoUnit number, n)

abbrev pub finish_unit : ModelNode → ℕ → Option ApplyUnit → Answer × ModelNode
finish_unit n number None = (answer.NoUnit number, n)
finish_unit n number (Some unit) = finish_stage n number unit.keys unit.stage

unfoldable pub finish_step : ModelNode → ℕ → Answer × ModelNode
finish_step n number = finish_unit n number (get n.units number)

abbrev pub is_started_stage : Stage → Bool
is_started_stage Started = true
is_started_stage Finished = false

-- whether there is a unit that has started and not finished
abbrev pub is_started : Option ApplyUnit → Bool
is_started None = false
is_started (Some unit) = is_started_stage unit.stage

-- ---- committing
abbrev pub is_finished_stage : Stage → Bool
is_finished_stage Started = false
is_finished_stage Finished = true

abbrev pub is_finished : Option ApplyUnit → Bool
is_finished None = false
is_finished (Some unit) = is_finished_stage unit.stage

-- the transaction that commits at a number ends, and its session is told so
abbrev pub told_committed : ModelNode → ℕ → Option (ℕ × Live) → ModelNode
told_committed n number None = n
told_committed n number (Some e) = end_with n e.0 (reply.Committed number)

abbrev pub committed_next : ModelNode → ℕ → ModelNode
committed_next n number =
    told_committed
    (record n { at = record n.at { committed = number }; units = remove n.units number }) number
    (committer_of n.live number)

-- whether a number is ready: no passed commit, or a finished unit, or the commit of a live
-- Certified transaction
abbrev pub is_ready : List Event → ModelNode → ℕ → Bool
is_ready order n number =
    not (is_some (passed_at order n.at.committed n.at.certified number))
    || is_finished (get n.units number) || is_local n.live number

-- the next number that was certified is committed
unfoldable pub advance_step : List Event → ModelNode → Answer × ModelNode
advance_step order n =
    let number = n.at.committed + 1 in
    if n.at.committed == n.at.certified then (answer.Nothing, n)
    else if is_ready order n number then (answer.At number, committed_next n number)
    else (answer.NotReady number, n)

-- ---- reporting
-- a report of what is committed waits to be ordered
abbrev pub put_report : ModelNode → ModelNode
put_report n = record n { outbox = n.outbox ++ message.Report n.at.committed ∷ [] }

-- the node reports what it has committed, where it is connected and has committed the view in which
-- it entered
unfoldable pub report_step : ModelNode → Answer × ModelNode
report_step n =
    if is_left n.at.phase then (answer.Disconnected, n)
    else if is_joining n.at.phase || nat_lt n.at.committed n.at.view then (answer.NotSynced, n)
    else (answer.Reported n.at.committed, put_report n)

-- ---- all steps of one node
-- a step of a node by itself: those that order events, and those of later stages, answer NOTHING
-- here and change nothing
abbrev pub node_step : List Event → ModelNode → Act → Answer × ModelNode
node_step order n (act.Client session c) =
    let said = client order n session c in (answer.Client said.0, said.1)
node_step order n act.Take = take_step order n
node_step order n act.Certify = certify_step order n
node_step order n (act.Start number) = start_step order n number
node_step order n (act.Finish number) = finish_step n number
node_step order n act.Advance = advance_step order n
node_step order n act.Order = (answer.Nothing, n)
node_step order n act.Report = report_step n
node_step order n act.Status = status_step order n
node_step order n act.Drain = (answer.Nothing, n)
node_step order n act.Leave = (answer.Nothing, n)
node_step order n (act.Join fresh) = (answer.Nothing, n)
node_step order n (act.Transfer donor) = (answer.Nothing, n)

-- ---- draining
abbrev pub times : ℕ → (ModelNode → ModelNode) → ModelNode → ModelNode
times zero f n = n
times (suc k) f n = times k f (f n)

-- the next number is committed, its unit started and finished where it has one
abbrev pub commit_next : List Event → ModelNode → ModelNode
commit_next order n =
    let number = n.at.committed + 1 in
    (advance_step order (finish_step (start_step order n number).1 number).1).1

abbrev pub all_taken : List Event → ModelNode → ModelNode
all_taken order n = times (length order - n.at.taken) (λ m. (take_step order m).1) n

abbrev pub all_certified : List Event → ModelNode → ModelNode
all_certified order n = times (n.at.taken - n.at.certified) (λ m. (certify_step order m).1) n

abbrev pub all_committed : List Event → ModelNode → ModelNode
all_committed order n = times (n.at.certified - n.at.committed) (commit_next order) n

-- everything that is ordered is taken, certified and committed
unfoldable pub drained : List Event → ModelNode → ModelNode
drained order n = all_committed order (all_certified order (all_taken order n))
