-- when what the sessions of a node were told along its course is right
use Rattle.std.specs.Prelude.{◌≡◌, ◌≤◌, ◌<◌, ◌^◌, ◌+◌, ◌-◌, ◌==◌, ℕ, zero, suc, List, [], ◌∷◌, ◌++◌, length, slice_get, Option, Some, None, is_some, Bool, true, false}
use Rattle.std.specs.List.{AllByRecursion}
use Rattle.std.specs.Ordering.{nat_cmp}
use Rattle.finite_map.specs.FiniteMap.{FiniteMap, empty, get, insert}
use Rattle.wsrep_base.specs.declared.ids.TrxId.{TrxId}
use Rattle.wsrep_base.specs.declared.verdict.Verdict.TheVariants as verdict
use Rattle.wsrep_base.specs.declared.limits.TheConstants.{NUMBERS_END}
use Rattle.key_sets.specs.Keys.{Keys, touches}
use Rattle.row_model.specs.declared.ops.Op.{Op}
use Rattle.row_model.specs.declared.calls.Reply.{Reply}
use Rattle.row_model.specs.declared.calls.Reply.TheVariants as reply
use Rattle.order_event.specs.declared.event.Event.{Event}
use Rattle.order_event.specs.declared.event.Event.TheVariants as event
use Rattle.order_event.specs.declared.step.Act.{Act}
use Rattle.order_event.specs.declared.step.Act.TheVariants as act
use Rattle.order_event.specs.declared.step.Step.{Step}
use Rattle.write_set.specs.declared.write_set.WriteSet.{WriteSet}
use Rattle.write_set.specs.Reading.{decoded}
use Rattle.cert_meaning.specs.declared.items.CommitItem.{CommitItem}
use Rattle.cert_meaning.specs.Verdict as rules
use Rattle.cert_meaning.specs.Verdict.{trx_of, is_end, is_rollback}
use Rattle.cert_meaning.specs.Fold.{state_at}
use Rattle.client_trx.specs.Live.{Live}
use Rattle.node_meaning.specs.Node.{ModelNode}
use Rattle.node_meaning.specs.Client.{client}
use Rattle.node_meaning.specs.Cluster.{ModelCluster, start_cluster, cluster_step, run}
use Rattle.node_meaning.specs.Facts.{commit_at}
use Rattle.node_meaning.specs.Units.{ops_at}
use Rattle.node_laws.specs.Fits.{ActFits}
use Rattle.course_laws.specs.Laws.{joins}
use Rattle.course_laws.specs.Courses.{Course, Happens, Does, next, course, AllFit, start_course}

-- ---- who asks
-- a session's transaction, with its keys and changes since its start
pub record Asker : Type 0 where
  pub trx : TrxId
  pub keys : Keys
  pub ops : List Op

abbrev pub asker_of : Live → Asker
asker_of t = record { trx = t.trx; keys = t.keys; ops = t.ops }

-- the last transaction of each session, as it stood when it was last seen live
abbrev pub asked_by : List (ℕ × Live) → FiniteMap nat_cmp Asker → FiniteMap nat_cmp Asker
asked_by [] askers = askers
asked_by (e ∷ live) askers = asked_by live (insert askers e.0 (asker_of e.1))

-- what a session was told: its transaction so far, what the node had committed, whether the answer
-- had waited for its call, and the answer
pub record Told : Type 0 where
  pub asker : Option Asker
  pub committed : ℕ
  pub waited : Bool
  pub answer : Reply

-- what a step of a node tells its sessions
abbrev pub told_to : List Event → ModelNode → FiniteMap nat_cmp Asker → Act → List Told
told_to order n askers (act.Client session call) = record {
  asker = get askers session;
  committed = n.at.committed;
  waited = is_some (get n.waiting session);
  answer = (client order n session call).0;
} ∷ []
told_to order n askers other = []

abbrev pub told_by : Course → FiniteMap nat_cmp Asker → Happens → List Told
told_by c askers (Does a) = told_to c.order c.node askers a
told_by c askers other = []

-- all that the sessions of a node were told along its course
abbrev pub told : Course → FiniteMap nat_cmp Asker → List Happens → List Told
told c askers [] = []
told c askers (h ∷ happens) =
    told_by c askers h ++ told (next c h) (asked_by (next c h).node.live.entries askers) happens

-- ---- right answers
-- the event behind the first ones is this write set of the transaction
pub record IsWriteAt (order : List Event) (before : ℕ) (trx : TrxId) (w : WriteSet) : Type 0 where
  pub body : List ℕ
  pub there : slice_get order before ≡ Some (event.Write trx.member body)
  pub is : decoded body ≡ Some w
  pub of_trx : trx_of w ≡ trx

abbrev pub PassesAt : List Event → ℕ → WriteSet → Type 0
PassesAt order before w = rules.verdict (state_at order before) w.member w ≡ verdict.Pass

-- no passed commit in the order is of the transaction
abbrev pub NeverCommits : List Event → TrxId → Type 0
NeverCommits order trx =
    (k : ℕ) (c : CommitItem) → k ≤ length order → commit_at order k ≡ Some c → c.trx ≡ trx → ⊥

-- the passed commit at the number is the transaction's, with its keys and changes, and no other is
pub record StandsOnce (order : List Event) (n : ℕ) (a : Asker) : Type 0 where
  pub stands : commit_at order n ≡ Some (record { number = n; trx = a.trx; keys = a.keys })
  pub changes : ops_at order n ≡ a.ops
  pub once : (k : ℕ) (c : CommitItem) → k ≤ length order → commit_at order k ≡ Some c
      → c.trx ≡ a.trx → k ≡ n

-- no write set of the transaction is in the order
abbrev pub NothingWritten : List Event → TrxId → Type 0
NothingWritten order trx = (before : ℕ) (w : WriteSet) → IsWriteAt order before trx w → ⊥

-- event v passed as a commit or a fragment of another transaction, and its keys touch: for a commit
-- those of the whole
pub data Prevailed (order : List Event) (v : ℕ) (a : Asker) : Type 0 where
  ByCommit : (c : CommitItem) → commit_at order v ≡ Some c → (c.trx ≡ a.trx → ⊥)
      → touches c.keys a.keys ≡ true → Prevailed order v a
  ByFragment : (before : ℕ) (trx : TrxId) (w : WriteSet) → v ≡ suc before
      → IsWriteAt order before trx w → PassesAt order before w
      → is_end w ≡ false → is_rollback w ≡ false
      → (trx ≡ a.trx → ⊥) → touches w.keys a.keys ≡ true → Prevailed order v a

-- each write set of the transaction that does not pass stands behind event v
abbrev pub FailsBehind : List Event → ℕ → TrxId → Type 0
FailsBehind order v trx =
    (before : ℕ) (w : WriteSet) → IsWriteAt order before trx w
    → (PassesAt order before w → ⊥) → v ≤ before

-- an earlier write set prevailed over the transaction, which never commits
pub record IsDefeated (order : List Event) (v : ℕ) (a : Asker) : Type 0 where
  pub prevailed : Prevailed order v a
  pub behind : FailsBehind order v a.trx
  pub never : NeverCommits order a.trx

-- what an answer to the session of a transaction says of the whole order, on a node that has
-- committed so many events, where the answer had waited for its call and where not: DISCONNECTED
-- speaks of the transaction only where it had waited, and UNKNOWN never does
abbrev pub IsRight : List Event → ℕ → Asker → Bool → Reply → Type 0
IsRight order p a waited (reply.Committed zero) = NothingWritten order a.trx
IsRight order p a waited (reply.Committed (suc n)) = StandsOnce order (suc n) a × (suc n ≤ p)
IsRight order p a waited (reply.DeadlockCert v) = IsDefeated order v a
IsRight order p a waited (reply.DeadlockBf v) = IsDefeated order v a
IsRight order p a waited reply.RolledBack = NeverCommits order a.trx
IsRight order p a waited reply.Disconnected = waited ≡ true → NeverCommits order a.trx
IsRight order p a waited answer = Unit {0}

-- an answer that says nothing of a transaction
abbrev pub IsBare : Bool → Reply → Type 0
IsBare waited (reply.Committed n) = ⊥
IsBare waited (reply.DeadlockCert v) = ⊥
IsBare waited (reply.DeadlockBf v) = ⊥
IsBare waited reply.RolledBack = ⊥
IsBare waited reply.Disconnected = waited ≡ false
IsBare waited answer = Unit {0}

-- to a session that had no transaction so far it says nothing
abbrev pub IsRightTo : List Event → ℕ → Option Asker → Bool → Reply → Type 0
IsRightTo order p None waited answer = IsBare waited answer
IsRightTo order p (Some a) waited answer = IsRight order p a waited answer

abbrev pub AreRight : List Event → List Told → Type 0
AreRight order answers =
    AllByRecursion (λ (t : Told). IsRightTo order t.committed t.asker t.waited t.answer) answers

-- over the order at the end of every course from a start all answers are right, while numbers are
-- in range; the node may leave and join again as new members
abbrev pub AnswersAreRight : Type 0
AnswersAreRight =
    (nodes gcache member : ℕ) (id : List ℕ) (happens : List Happens)
    → 1 ≤ member → member ≤ nodes → member < 2 ^ 32
    → AllFit (start_course nodes gcache id member) happens → length happens < NUMBERS_END
    → length (course (start_course nodes gcache id member) happens).order ≤ NUMBERS_END
    → AreRight (course (start_course nodes gcache id member) happens).order
    (told (start_course nodes gcache id member) empty happens)

-- ---- runs of a cluster
-- what a step tells the sessions of a node, where it is that node's own
abbrev pub told_of : List Event → Option ModelNode → FiniteMap nat_cmp Asker → Bool → Act
    → List Told
told_of order None askers own a = []
told_of order (Some n) askers false a = []
told_of order (Some n) askers true a = told_to order n askers a

abbrev pub asked_of : Option ModelNode → FiniteMap nat_cmp Asker → FiniteMap nat_cmp Asker
asked_of None askers = askers
asked_of (Some n) askers = asked_by n.live.entries askers

-- all that the sessions of the node at place i were told in a run
abbrev pub told_run : ModelCluster → ℕ → FiniteMap nat_cmp Asker → List Step → List Told
told_run c i askers [] = []
told_run c i askers (step ∷ steps) =
    told_of c.order (slice_get c.nodes i) askers (step.node - 1 == i) step.act
    ++ told_run (cluster_step c step).1 i
    (asked_of (slice_get (cluster_step c step).1.nodes i) askers) steps

-- over the order at the end of every run of a cluster all answers of its nodes are right, while
-- members are in range
abbrev pub RunsAnswerRight : Type 0
RunsAnswerRight =
    (nodes gcache : ℕ) (id : List ℕ) (steps : List Step)
    → nodes + joins steps < 2 ^ 32 → length steps < NUMBERS_END
    → AllByRecursion (λ (step : Step). ActFits step.act) steps → (i : ℕ) → i < nodes
    → AreRight (run steps (start_cluster nodes gcache id)).1.order
    (told_run (start_cluster nodes gcache id) i empty steps)
