-- the theorem of the whole: what every run of a cluster shows, by what its steps are answered
use Rattle.std.specs.Prelude.{◌≡◌, ◌≤◌, ◌<◌, ◌+◌, ◌-◌, ◌==◌, ◌^◌, ℕ, suc, Bool, true, false, List, [], ◌∷◌, ◌++◌, length, map, take, flat_map, slice_get, Some, None}
use Rattle.std.specs.List.{AllByRecursion}
use Rattle.finite_map.specs.FiniteMap.{empty, get}
use Rattle.wsrep_base.specs.declared.limits.TheConstants.{NUMBERS_END}
use Rattle.row_model.specs.declared.row.RowId.{RowId}
use Rattle.row_model.specs.declared.calls.Call.TheVariants as call
use Rattle.row_model.specs.declared.calls.Reply.{Reply}
use Rattle.row_model.specs.declared.calls.Reply.TheVariants as reply
use Rattle.row_model.specs.Rows.{Rows, ops_on}
use Rattle.order_event.specs.declared.event.Event.{Event}
use Rattle.order_event.specs.declared.step.Act.{Act}
use Rattle.order_event.specs.declared.step.Act.TheVariants as act
use Rattle.order_event.specs.declared.step.Answer.{Answer}
use Rattle.order_event.specs.declared.step.Answer.TheVariants as answer
use Rattle.order_event.specs.declared.step.Step.{Step}
use Rattle.undo_rows.specs.RowTable.{row_items}
use Rattle.cert_meaning.specs.declared.items.CommitItem.{CommitItem}
use Rattle.cert_meaning.specs.State.{no_events}
use Rattle.cert_meaning.specs.Fold.{state_at, judged_all}
use Rattle.node_meaning.specs.Node.{ModelNode, rows_at, seen_rows}
use Rattle.node_meaning.specs.Units.{ops_at}
use Rattle.node_meaning.specs.Client.{client}
use Rattle.node_meaning.specs.Cluster.{ModelCluster, start_cluster, run}
use Rattle.course_laws.specs.Laws.{joins}
use Rattle.node_laws.proofs.ClusterLaws.{ActFits}
use Rattle.answer_laws.specs.Answers.{Told, told_run, AreRight}
use Rattle.cluster_core.specs.State.{end_at, end_rows}

-- ---- the rows of the one fold
-- behind the first n events: the changes of the commits that passed, in their order, on no rows.
-- The changes of a commit are those of its transaction's fragments and then its own; so nothing of
-- a fragment is there before its transaction commits, nor where it never does
abbrev pub committed_rows : List Event → ℕ → Rows
committed_rows order n =
    ops_on (flat_map (λ (c : CommitItem). ops_at order c.number) (state_at order n).commits) empty

-- ---- what a node shows
-- the order has grown to this one
abbrev pub HasGrown : List Event → List Event → Type 0
HasGrown now order = (rest : List Event) × (order ≡ now ++ rest)

-- what the read of a row is answered over the rows that its session sees
abbrev pub Shows : Rows → RowId → Reply → Type 0
Shows rows id (reply.Row row) = get rows id ≡ Some row
Shows rows id reply.NoRow = get rows id ≡ None
Shows rows id other = Unit {0}

-- a node at a moment, with the order as it was then and as it is at the end
pub record ShowsCommitted (order now : List Event) (n : ModelNode) : Type 0 where
  pub grown : HasGrown now order
  pub ordered : n.at.committed ≤ length now
  -- its committed rows are those of the fold at what it has committed
  pub rows : rows_at now n.at.committed ≡ committed_rows order n.at.committed
  -- a session for which no answer waits reads these rows, with the changes of its own transaction
  -- on them while that has its locks, and with those of no other
  pub reads : (session : ℕ) (id : RowId) → get n.waiting session ≡ None
      → Shows (seen_rows (committed_rows order n.at.committed) (get n.live session)) id
      (client now n session (call.Read id)).0

-- ---- what nodes answer
-- a node's verdict on an event is that of the one fold
abbrev pub IsOfFold : List Event → Answer → Type 0
IsOfFold order (answer.Judged number became) =
    (1 ≤ number) × (slice_get (judged_all no_events order) (number - 1) ≡ Some became)
IsOfFold order other = Unit {0}

-- the reply to a session, where the step is a client's call of the node itself
abbrev pub reply_to : Bool → Act → Answer → List Reply
reply_to false a answered = []
reply_to true (act.Client session asked) (answer.Client said) = said ∷ []
reply_to true other answered = []

-- all replies to the sessions of the node at place i
abbrev pub replies : ℕ → List Step → List Answer → List Reply
replies i [] answers = []
replies i (step ∷ steps) [] = []
replies i (step ∷ steps) (answered ∷ answers) =
    reply_to (step.node - 1 == i) step.act answered ++ replies i steps answers

-- ---- the theorem
-- a run of steps from a cluster at its start
pub record Replicates (start : ModelCluster) (steps : List Step) : Type 0 where
  -- what the sessions of each node were told is right over the whole order
  pub right : (i : ℕ) → i < length start.nodes
      → AreRight (run steps start).1.order (told_run start i empty steps)
  -- and that is what their calls were answered
  pub told : (i : ℕ) → map (λ (t : Told). t.answer) (told_run start i empty steps)
      ≡ replies i steps (run steps start).0
  -- every verdict that is told is that of the one fold, so all nodes judge an event alike
  pub verdicts : AllByRecursion (IsOfFold (run steps start).1.order) (run steps start).0
  -- behind each step, the k-th, each node shows the committed rows
  pub moments : (k i : ℕ) (n : ModelNode)
      → slice_get (run (take k steps) start).1.nodes i ≡ Some n
      → ShowsCommitted (run steps start).1.order (run (take k steps) start).1.order n
  -- and so they are what the last lines tell of each node
  pub ends : (i : ℕ) (n : ModelNode) → slice_get (run steps start).1.nodes i ≡ Some n
      → (end_at (run steps start).1 (suc i) ≡ n.at.committed)
      × (end_rows (run steps start).1 (suc i)
      ≡ row_items (committed_rows (run steps start).1.order n.at.committed))

-- every run does, of fewer than 2^63 steps, whose nodes and joins are fewer than 2^32, and whose
-- calls have names in their form and values in range
abbrev pub RunsReplicate : Type 0
RunsReplicate =
    (nodes gcache : ℕ) (id : List ℕ) (steps : List Step) → nodes + joins steps < 2 ^ 32
    → length steps < NUMBERS_END
    → AllByRecursion (λ (step : Step). ActFits step.act) steps
    → Replicates (start_cluster nodes gcache id) steps
