-- A worked run: what the sessions of two nodes are told, and of which transaction. A worked course:
-- what the sessions of a node that leaves are told, and which of it had waited. And a worked run of
-- a node that leaves and joins again as a new member.
use Rattle.std.specs.Prelude.{◌≡◌, List, [], ◌∷◌, ℕ, Bool, true, false, Option, Some, None, codes, map, replicate, drop, take, slice_get, option_map}
use Rattle.std.specs.List.{AllByRecursion}
use Rattle.finite_map.specs.FiniteMap.{empty}
use Rattle.wsrep_base.specs.declared.ids.TrxId.{TrxId}
use Rattle.cert_meaning.specs.Fold.{computing_folds}
use Rattle.row_model.specs.declared.calls.Call.{Call}
use Rattle.row_model.specs.declared.calls.Call.TheVariants as call
use Rattle.row_model.specs.declared.calls.Reply.{Reply}
use Rattle.row_model.specs.declared.calls.Reply.TheVariants as reply
use Rattle.row_model.specs.declared.row.RowId.{RowId}
use Rattle.row_model.specs.Names.{is_name, padded}
use Rattle.order_event.specs.declared.event.Event.TheVariants as event
use Rattle.order_event.specs.declared.step.Step.{Step}
use Rattle.order_event.specs.declared.step.Act.{Act}
use Rattle.order_event.specs.declared.step.Act.TheVariants as act
use Rattle.order_event.specs.declared.step.Answer.{Answer}
use Rattle.order_event.specs.declared.step.Answer.TheVariants as answer
use Rattle.write_set.specs.Spelling.{spelling}
use Rattle.wsrep_base.specs.Reading.{bytes_at, number_at}
use Rattle.write_set.specs.Reading.{many_at, name_at, key_row_at, key_at, some_keys_at, keys_at, place_at, count_at, values_at, columns_at, some_columns_at, op_at, ops_at, header_at, finished, read}
use Rattle.node_meaning.specs.Client.{client}
use Rattle.node_meaning.specs.Steps.{take_step, certify_step, start_step, finish_step, advance_step, drained}
use Rattle.node_meaning.specs.Leaving.{sessions_left, left_node}
use Rattle.node_meaning.specs.Cluster.{ModelCluster, start_cluster, cluster_step, run}
use Rattle.node_laws.specs.Fits.{ActFits}
use Rattle.course_laws.specs.Courses.{Course, Happens, Does, course, AllFit, start_course}
use Rattle.answer_laws.specs.Answers.{Asker, Told, told, told_run}

-- what it unfolds
unfoldable pub computing_answers : Unit {0}
unfolding computing_folds is_name spelling bytes_at number_at many_at name_at key_row_at key_at
    some_keys_at keys_at place_at count_at values_at columns_at some_columns_at op_at ops_at
    header_at finished read client take_step certify_step start_step finish_step advance_step
    drained sessions_left left_node start_cluster cluster_step run
computing_answers = tt

abbrev pub at : ℕ → Act → Step
at node a = record { node = node; act = a }

abbrev pub calls : ℕ → Call → Step
calls node c = at node (act.Client 1 c)

abbrev pub row : RowId
row = record { table = padded (codes "acct"); row = padded (codes "a") }

-- two nodes insert one row; the first that is ordered commits
abbrev pub two_insert : List Step
two_insert =
    at 1 act.Drain
    ∷ at 2 act.Drain
    ∷ calls 1 (call.Begin 0)
    ∷ calls 1 (call.Insert row (100 ∷ []))
    ∷ calls 2 (call.Begin 0)
    ∷ calls 2 (call.Insert row (70 ∷ []))
    ∷ calls 1 call.Commit
    ∷ calls 2 call.Commit
    ∷ at 1 act.Order
    ∷ at 2 act.Order
    ∷ at 1 act.Drain
    ∷ at 2 act.Take
    ∷ at 2 act.Take
    ∷ at 2 act.Certify
    ∷ at 2 act.Certify
    ∷ calls 1 call.Poll
    ∷ calls 2 call.Poll
    ∷ calls 2 (call.Begin 0)
    ∷ calls 2 call.Commit
    ∷ []

-- the transaction of an answer, and the answer
abbrev pub of_whom : Told → Option TrxId × Reply
of_whom t = (option_map (λ (a : Asker). a.trx) t.asker, t.answer)

abbrev pub told_at : ℕ → List (Option TrxId × Reply)
told_at i = map of_whom (told_run (start_cluster 2 65536 (replicate 16 1)) i empty two_insert)

abbrev pub by : ℕ → ℕ → Option TrxId
by member begin = Some (record { member = member; begin = begin })

abbrev pub FirstCommits : Type 0
FirstCommits =
    told_at 0
    ≡ (None, reply.Done)
    ∷ (by 1 1, reply.Done)
    ∷ (by 1 1, reply.Pending)
    ∷ (by 1 1, reply.Committed 2)
    ∷ []

abbrev pub SecondFails : Type 0
SecondFails =
    told_at 1
    ≡ (None, reply.Done)
    ∷ (by 2 1, reply.Done)
    ∷ (by 2 1, reply.Pending)
    ∷ (by 2 1, reply.DeadlockCert 2)
    ∷ (by 2 1, reply.Done)
    ∷ (by 2 2, reply.Committed 0)
    ∷ []

-- ---- a node that leaves
abbrev pub other : RowId
other = record { table = padded (codes "acct"); row = padded (codes "b") }

abbrev pub asks : ℕ → Call → Happens
asks session c = Does (act.Client session c)

-- the first session commits a row, and then asks for a commit that waits to be ordered; the second
-- has an open change; the node leaves, and then leaves once more
abbrev pub leaving : List Happens
leaving =
    Does act.Drain
    ∷ asks 1 (call.Begin 0)
    ∷ asks 1 (call.Insert row (100 ∷ []))
    ∷ asks 1 call.Commit
    ∷ Does act.Drain
    ∷ asks 1 call.Poll
    ∷ asks 1 (call.Begin 0)
    ∷ asks 1 (call.Update row (Some 70 ∷ replicate 7 None))
    ∷ asks 1 call.Commit
    ∷ asks 2 (call.Begin 0)
    ∷ asks 2 (call.Insert other (5 ∷ []))
    ∷ Does act.Leave
    ∷ asks 1 call.Poll
    ∷ asks 2 call.Poll
    ∷ asks 2 (call.Begin 0)
    ∷ Does act.Leave
    ∷ []

abbrev pub leaver : Course
leaver = start_course 2 65536 (replicate 16 1) 1

-- its calls fit, so that the law of all answers speaks of it
abbrev pub LeavingFits : Type 0
LeavingFits = AllFit leaver leaving

-- the transaction of an answer, whether the answer had waited, and the answer
abbrev pub with_waiting : Told → Option TrxId × Bool × Reply
with_waiting t = (option_map (λ (a : Asker). a.trx) t.asker, t.waited, t.answer)

-- what became of the commit that was not ordered is not known; of the open change it is known, and
-- a later call is answered at once
abbrev pub LeavingTells : Type 0
LeavingTells =
    map with_waiting (told leaver empty leaving)
    ≡ (None, false, reply.Done)
    ∷ (by 1 1, false, reply.Done)
    ∷ (by 1 1, false, reply.Pending)
    ∷ (by 1 1, true, reply.Committed 2)
    ∷ (by 1 1, false, reply.Done)
    ∷ (by 1 2, false, reply.Done)
    ∷ (by 1 2, false, reply.Pending)
    ∷ (None, false, reply.Done)
    ∷ (by 1 3, false, reply.Done)
    ∷ (by 1 2, true, reply.Unknown)
    ∷ (by 1 3, true, reply.Disconnected)
    ∷ (by 1 3, false, reply.Disconnected)
    ∷ []

-- the node leaves with the third event, a view without its member, and the second leave orders
-- nothing
abbrev pub LeavesWithView : Type 0
LeavesWithView = drop 2 (course leaver leaving).order ≡ event.View 1 (2 ∷ []) ∷ []

-- ---- a node that joins again
abbrev pub calls_in : ℕ → Call → Step
calls_in session c = at 1 (act.Client session c)

abbrev pub third : RowId
third = record { table = padded (codes "acct"); row = padded (codes "c") }

-- the commit of the first session is taken, and that of the second waits to be ordered; the node
-- leaves, commits what it took, and joins again; the second session asks before it has the state
-- that it misses, and then commits as the new member
abbrev pub joining : Bool → List Step
joining fresh =
    at 1 act.Drain
    ∷ at 2 act.Drain
    ∷ calls_in 1 (call.Begin 0)
    ∷ calls_in 1 (call.Insert row (100 ∷ []))
    ∷ calls_in 1 call.Commit
    ∷ calls_in 2 (call.Begin 0)
    ∷ calls_in 2 (call.Insert other (5 ∷ []))
    ∷ at 1 act.Order
    ∷ at 1 act.Take
    ∷ calls_in 2 call.Commit
    ∷ at 1 act.Leave
    ∷ calls_in 2 call.Poll
    ∷ at 1 act.Certify
    ∷ at 1 act.Advance
    ∷ at 1 (act.Join fresh)
    ∷ calls_in 2 call.Poll
    ∷ calls_in 1 call.Poll
    ∷ at 2 act.Drain
    ∷ at 1 (act.Transfer 2)
    ∷ at 1 act.Drain
    ∷ calls_in 2 (call.Begin 0)
    ∷ calls_in 2 (call.Insert third (7 ∷ []))
    ∷ calls_in 2 call.Commit
    ∷ at 1 act.Drain
    ∷ calls_in 2 call.Poll
    ∷ []

abbrev pub joins_in : Bool → List Answer × ModelCluster
joins_in fresh = run (joining fresh) (start_cluster 2 65536 (replicate 16 1))

-- its calls fit, so that the law of all answers speaks of it
abbrev pub JoiningFits : Type 0
JoiningFits = (fresh : Bool) → AllByRecursion (λ (step : Step). ActFits step.act) (joining fresh)

-- the commit that was taken is told while the node joins, of the transaction of its former member;
-- of the one that was not taken nothing is known; and so it is whichever way it takes the state
abbrev pub JoiningTells : Type 0
JoiningTells =
    (fresh : Bool)
    → map with_waiting (told_run (start_cluster 2 65536 (replicate 16 1)) 0 empty (joining fresh))
    ≡ (None, false, reply.Done)
    ∷ (by 1 1, false, reply.Done)
    ∷ (by 1 1, false, reply.Pending)
    ∷ (None, false, reply.Done)
    ∷ (by 1 2, false, reply.Done)
    ∷ (by 1 2, false, reply.Pending)
    ∷ (by 1 2, true, reply.Unknown)
    ∷ (by 1 2, false, reply.NotSynced)
    ∷ (by 1 1, true, reply.Committed 2)
    ∷ (by 1 2, false, reply.Done)
    ∷ (by 3 1, false, reply.Done)
    ∷ (by 3 1, false, reply.Pending)
    ∷ (by 3 1, true, reply.Committed 5)
    ∷ []

-- the node leaves with the third event and enters with the fourth, as member 3
abbrev pub JoinsWithView : Type 0
JoinsWithView =
    (fresh : Bool)
    → take 2 (drop 2 (joins_in fresh).1.order)
    ≡ event.View 1 (2 ∷ []) ∷ event.View 1 (2 ∷ 3 ∷ []) ∷ []

-- where it joins fresh it takes a snapshot, and else the two views
abbrev pub TakesState : Type 0
TakesState =
    (slice_get (joins_in true).0 18 ≡ Some (answer.Sst 4))
    × (slice_get (joins_in false).0 18 ≡ Some (answer.Ist 3 4))
