-- The moves of a model node: the edits that its steps are made of, each with what holds where it is made. A law of steps
-- is proved once over them, by cases on a move, and is said of the parts of the node that it reads: then all moves that
-- leave these alone are one case.
use Rattle.std.proofs.Common.{◌≡◌, ℕ, suc, ◌+◌, ◌≤◌, ◌<◌, Bool, true, false, cond, List, [], ◌∷◌, ◌++◌, length, Option, None, Some, refl, sym, subst}
use Rattle.std.specs.Prelude.{◌==◌, slice_get}
use Rattle.std.specs.List.{filter_map}
use Rattle.std.specs.Ordering.{nat_cmp}
use Rattle.finite_map.specs.FiniteMap.{FiniteMap, get, insert, remove}
use Rattle.wsrep_base.specs.declared.verdict.Verdict.{Verdict}
use Rattle.wsrep_base.specs.declared.verdict.Verdict.TheVariants as verdict
use Rattle.wsrep_base.specs.Trx.{greatest}
use Rattle.key_sets.specs.Keys.{touches}
use Rattle.row_model.specs.declared.calls.Reply.{Reply}
use Rattle.row_model.specs.declared.calls.Reply.TheVariants as reply
use Rattle.order_event.specs.declared.event.Event.{Event}
use Rattle.order_event.specs.declared.event.Event.TheVariants as event
use Rattle.order_event.specs.declared.event.Message.{Message}
use Rattle.write_set.specs.declared.write_set.WriteSet.{WriteSet}
use Rattle.write_set.specs.Reading.{decoded}
use Rattle.cert_meaning.specs.declared.items.CommitItem.{CommitItem}
use Rattle.cert_meaning.specs.Verdict as rules
use Rattle.cert_meaning.specs.Fold.{state_at}
use Rattle.client_trx.specs.Live.{Live, is_sent, has_locks, with_status, passed_status, rollback_due}
use Rattle.client_trx.specs.declared.status.Status.{Status}
use Rattle.client_trx.specs.declared.status.Status.TheVariants as status
use Rattle.node_meaning.specs.declared.progress.Stage.TheVariants.{Started, Finished}
use Rattle.node_meaning.specs.declared.progress.Phase.{Phase}
use Rattle.node_meaning.specs.declared.progress.Phase.TheVariants as phase
use Rattle.node_meaning.specs.Node.{ModelNode, ApplyUnit, is_left, is_joining, is_connected, set_live, end_with, send, ahead, passed_at}
use Rattle.node_meaning.specs.Client.{Statement, extended, met_by, refusal, send_fragment, send_commit}
use Rattle.node_meaning.specs.Leaving.{waits_in, told_at_leave, departed}
use Rattle.node_meaning.specs.Steps.{unqueued, session_of, is_local, touching_before, committer_of, is_ready, put_report}
use Rattle.node_meaning.specs.Facts.{ProgressInRange, IsUndecided, own_body, sent_body}
use Rattle.node_meaning.proofs.ClientFacts.{StatementFits, first}

-- ---- the nodes that moves lead to
abbrev pub with_begun : ModelNode → ℕ → ℕ → ModelNode
with_begun n s unit =
    set_live (record n { at = record n.at { begin = n.at.begin + 1 } }) s
    (first n.at.member n.at.begin unit)

abbrev pub with_ordered : ModelNode → List Message → List Message → ModelNode
with_ordered n front back = record n { ordered = n.ordered ++ front; outbox = back }

abbrev pub with_taken : ModelNode → List Message → ModelNode
with_taken n ordered =
    record n { ordered = ordered; at = record n.at { taken = n.at.taken + 1 } }

abbrev pub with_certified : ModelNode → ModelNode
with_certified n = record n { at = record n.at { certified = n.at.certified + 1 } }

abbrev pub with_unit : ModelNode → ℕ → ApplyUnit → ModelNode
with_unit n number u = record n { units = insert n.units number u }

abbrev pub with_committed : ModelNode → FiniteMap nat_cmp Live → FiniteMap nat_cmp Reply → ModelNode
with_committed n live waiting = record n {
  at = record n.at { committed = n.at.committed + 1 };
  units = remove n.units (n.at.committed + 1);
  live = live;
  waiting = waiting;
}

-- an answer waits for the session, where there is one
abbrev pub with_reply : FiniteMap nat_cmp Reply → ℕ → Option Reply → FiniteMap nat_cmp Reply
with_reply waiting s None = waiting
with_reply waiting s (Some r) = insert waiting s r

-- a transaction ends, and a write set is sent
abbrev pub ended_with : ModelNode → ℕ → WriteSet → Option Reply → ModelNode
ended_with n s w o =
    record (send n w) { live = remove n.live s; waiting = with_reply n.waiting s o }

-- ---- what holds where they are made
-- a node that has not left and does not join is connected
pub connected_from : (now : Phase) → is_left now ≡ false → is_joining now ≡ false
    → is_connected now ≡ true
connected_from phase.Left left joining = cc
connected_from phase.Joining left joining = cc
connected_from phase.Connected left joining = refl

-- the node is connected, the session has no transaction, and no answer waits for it
pub record MayBegin (n : ModelNode) (s : ℕ) : Type 0 where
  pub connected : is_connected n.at.phase ≡ true
  pub none : get n.live s ≡ None
  pub told : get n.waiting s ≡ None

-- the session has a Running transaction
pub record IsRunning (n : ModelNode) (s : ℕ) (t : Live) : Type 0 where
  pub there : get n.live s ≡ Some t
  pub running : t.status ≡ status.Running

-- what a unit makes of a status that is kept
pub data Unlocked : Status → Status → Type 0 where
  Sent : Unlocked status.CommitSent status.KilledSent
  Passed : (number : ℕ) → Unlocked (status.Certified number) (status.Replaying number)

-- the node is connected; what the event was sent as is the first of its kind in the queue, where it
-- is the node's, and leaves it
pub record LeavesQueue (n : ModelNode) (e : Event) (ordered : List Message) : Type 0 where
  pub connected : is_connected n.at.phase ≡ true
  pub queue : unqueued n e ≡ Some (record n { ordered = ordered })
  pub bodies : filter_map sent_body (n.ordered ++ n.outbox)
      ≡ filter_map (own_body n.at.member) (e ∷ []) ++ filter_map sent_body (ordered ++ n.outbox)

-- the next event is taken, and is the write set of a live transaction that waits for its verdict
pub record IsJudged (order : List Event) (n : ModelNode) (s : ℕ) (t : Live) (body : List ℕ)
    (w : WriteSet) : Type 0 where
  pub more : n.at.certified == n.at.taken ≡ false
  pub next : slice_get order n.at.certified ≡ Some (event.Write n.at.member body)
  pub is : decoded body ≡ Some w
  pub found : session_of n.live w.begin ≡ Some (s, t)
  pub there : get n.live s ≡ Some t
  pub begin : t.trx.begin ≡ w.begin
  pub waits : is_sent t.status ≡ true

-- the verdict on it
abbrev pub verdict_next : List Event → ModelNode → WriteSet → Verdict
verdict_next order n w = rules.verdict (state_at order n.at.certified) n.at.member w

-- a verdict by which an event came first
pub data CameFirst (v : ℕ) : Verdict → Type 0 where
  AsCommit : CameFirst v (verdict.Conflict v)
  AsFragment : CameFirst v (verdict.Held v)

-- the next event is taken; where it is such a write set, its verdict is one that a cluster never gives
pub record MayCertify (order : List Event) (n : ModelNode) (e : Event) : Type 0 where
  pub more : n.at.certified == n.at.taken ≡ false
  pub next : slice_get order n.at.certified ≡ Some e
  pub undecided : (s : ℕ) (t : Live) (body : List ℕ) (w : WriteSet) → IsJudged order n s t body w
      → IsUndecided (verdict_next order n w)

-- a passed commit that is certified and not committed, has no unit, is no own one, touches no earlier one and meets no lock
pub record MayStart (order : List Event) (n : ModelNode) (number : ℕ) (commit : CommitItem) : Type 0 where
  pub passed : passed_at order n.at.committed n.at.certified number ≡ Some commit
  pub fresh : get n.units number ≡ None
  pub remote : is_local n.live number ≡ false
  pub clear : greatest (touching_before (ahead order n.at.committed n.at.certified) number commit.keys)
      ≡ None
  pub free : (s : ℕ) (t : Live) → get n.live s ≡ Some t → has_locks t.status ≡ true
      → touches commit.keys t.keys ≡ false

-- the next number that is certified and not committed, which is ready
pub record MayCommit (order : List Event) (n : ModelNode) : Type 0 where
  pub more : n.at.committed == n.at.certified ≡ false
  pub ready : is_ready order n (n.at.committed + 1) ≡ true

-- only such transactions are live whose commit is taken
pub record MayLeave (n : ModelNode) : Type 0 where
  pub stay : (s : ℕ) (t : Live) → get n.live s ≡ Some t
      → told_at_leave (waits_in (n.ordered ++ n.outbox) t) t.status ≡ None

-- ---- the moves
-- what a move takes part in
pub data Kind : Type 0 where
  -- it takes the one that a step may give out: a number, a message, a transaction
  Pays : Kind
  -- it changes the units
  Works : Kind
  -- it goes with a growth of the order
  Joint : Kind
  -- none of these
  Quiet : Kind

abbrev pub cost : Kind → ℕ
cost Pays = 1
cost Works = 0
cost Joint = 0
cost Quiet = 0

-- one move; `given` is what is known of the step as a whole, such as that its call fits
pub data Move (order : List Event) (given : Type 0) (n : ModelNode) : Kind → ModelNode → Type 0 where
  -- a waiting answer is told
  Tells : (s : ℕ) → Move order given n Quiet (record n { waiting = remove n.waiting s })
  -- a transaction begins
  Begins : (s unit : ℕ) → MayBegin n s → Move order given n Pays (with_begun n s unit)
  -- it has one more key, and a change
  Extends : (s : ℕ) (t : Live) (st : Statement) → IsRunning n s t → (given → StatementFits st)
      → refusal (met_by order n s t st) st.change ≡ None
      → Move order given n Quiet (set_live n s (extended t st))
  -- a fragment of it is sent
  Streams : (s : ℕ) (t : Live) → IsRunning n s t → 0 < length t.new_ops
      → (given → ProgressInRange n.at)
      → Move order given n Pays (send_fragment n s t)
  -- its commit is sent
  Sends : (s : ℕ) (t : Live) → IsRunning n s t → (given → ProgressInRange n.at)
      → Move order given n Pays (send_commit n s t)
  -- it ends, and may leave an answer for its session
  Ends : (s : ℕ) (t : Live) (o : Option Reply) → get n.live s ≡ Some t
      → Move order given n Quiet
      (record n { live = remove n.live s; waiting = with_reply n.waiting s o })
  -- it ends so, and a rollback takes its fragments back
  TakesBack : (s : ℕ) (t : Live) (w : WriteSet) (o : Option Reply) → get n.live s ≡ Some t
      → rollback_due t n.at.serial n.at.committed ≡ Some w
      → (given → n.at.committed ≤ length order → ProgressInRange n.at)
      → Move order given n Quiet (ended_with n s w o)
  -- it loses its locks
  Unlocks : (s : ℕ) (t : Live) (to : Status) → get n.live s ≡ Some t → Unlocked t.status to
      → Move order given n Quiet (set_live n s (with_status t to))
  -- a report of what is committed waits to be ordered
  Reports : is_connected n.at.phase ≡ true → Move order given n Pays (put_report n)
  -- messages at the front of the outbox are ordered
  Orders : (front back : List Message) → n.outbox ≡ front ++ back
      → Move order given n Joint (with_ordered n front back)
  -- the node leaves, as a view without it is ordered, and its queue is lost
  Leaves : MayLeave n → Move order given n Joint (departed n)
  -- the next event is taken, and its message leaves the queue
  Takes : (e : Event) (ordered : List Message) → slice_get order n.at.taken ≡ Some e
      → LeavesQueue n e ordered → Move order given n Quiet (with_taken n ordered)
  -- the next event is certified, and changes no live transaction
  Certifies : (e : Event) → MayCertify order n e → Move order given n Quiet (with_certified n)
  -- the next event is certified, and a live transaction passes
  Passes : (s : ℕ) (t : Live) (body : List ℕ) (w : WriteSet) → IsJudged order n s t body w
      → verdict_next order n w ≡ verdict.Pass
      → Move order given n Quiet
      (set_live (with_certified n) s (with_status t (passed_status (n.at.certified + 1) t.status)))
  -- the next event is certified, and a live transaction ends, as another event came first
  Fails : (s : ℕ) (t : Live) (body : List ℕ) (w : WriteSet) (v : ℕ) → IsJudged order n s t body w
      → CameFirst v (verdict_next order n w)
      → Move order given n Quiet (end_with (with_certified n) s (reply.DeadlockCert v))
  -- a unit starts
  Starts : (number : ℕ) (commit : CommitItem) → MayStart order n number commit
      → Move order given n Works
      (with_unit n number (record { stage = Started; keys = commit.keys }))
  -- it finishes
  Finishes : (number : ℕ) (u : ApplyUnit) → get n.units number ≡ Some u → u.stage ≡ Started
      → Move order given n Works (with_unit n number (record { stage = Finished; keys = u.keys }))
  -- the next number is committed, which is no live transaction's
  Advances : MayCommit order n → committer_of n.live (n.at.committed + 1) ≡ None
      → Move order given n Works (with_committed n n.live n.waiting)
  -- the next number is committed, and a live transaction with it
  Commits : (s : ℕ) (t : Live) → MayCommit order n → get n.live s ≡ Some t
      → committer_of n.live (n.at.committed + 1) ≡ Some (s, t)
      → Move order given n Works
      (with_committed n (remove n.live s)
      (insert n.waiting s (reply.Committed (n.at.committed + 1))))

-- ---- rows of moves
-- whether a row may have a move: it changes units only where that is said, and none goes with a growth of the order
abbrev pub May : Bool → Kind → Type 0
May works Pays = Unit {0}
May works Works = works ≡ true
May works Joint = ⊥
May works Quiet = Unit {0}

-- moves lead from one node to another, and so many of them at most pay
pub data Reaches (order : List Event) (given : Type 0) (works : Bool) (n : ModelNode)
    : ℕ → ModelNode → Type 0 where
  Here : {k : ℕ} → Reaches order given works n k n
  Quietly : {k : ℕ} {m o : ModelNode} → Reaches order given works n k m
      → Move order given m Quiet o → Reaches order given works n k o
  Working : {k : ℕ} {m o : ModelNode} → works ≡ true → Reaches order given works n k m
      → Move order given m Works o → Reaches order given works n k o
  Paying : {k : ℕ} {m o : ModelNode} → Reaches order given works n k m
      → Move order given m Pays o → Reaches order given works n (suc k) o

module _ {order : List Event} {given : Type 0} {works : Bool} where
  pub one : (k : ℕ) (n m : ModelNode) → Move order given n Quiet m → Reaches order given works n k m
  one k n m move = Quietly Here move

  pub paid : (n m : ModelNode) → Move order given n Pays m → Reaches order given works n 1 m
  paid n m move = Paying {k = 0} Here move

  pub at_most : (k : ℕ) (n m : ModelNode) → Reaches order given works n 0 m → Reaches order given works n k m
  at_most k n m Here = Here
  at_most k n m (Quietly {m = mid} row move) = Quietly (at_most k n mid row) move
  at_most k n m (Working {m = mid} may row move) = Working may (at_most k n mid row) move

  -- one row behind another
  pub joined : (n m : ModelNode) (k : ℕ) (o : ModelNode) → Reaches order given works n 0 m
      → Reaches order given works m k o → Reaches order given works n k o
  joined n m k o first Here = at_most k n m first
  joined n m k o first (Quietly {m = mid} row move) = Quietly (joined n m k mid first row) move
  joined n m k o first (Working {m = mid} may row move) = Working may (joined n m k mid first row) move
  joined n m (suc k) o first (Paying {m = mid} row move) = Paying (joined n m k mid first row) move

  -- what each move keeps a row of them keeps
  pub kept : (P : ModelNode → Type 0)
      → ((n : ModelNode) (kind : Kind) (m : ModelNode) → May works kind → Move order given n kind m → P n → P m)
      → (n : ModelNode) (k : ℕ) (m : ModelNode) → Reaches order given works n k m → P n → P m
  kept P each n k m Here h = h
  kept P each n k m (Quietly {m = mid} row move) h = each mid Quiet m tt move (kept P each n k mid row h)
  kept P each n k m (Working {m = mid} may row move) h = each mid Works m may move (kept P each n k mid row h)
  kept P each n (suc k) m (Paying {m = mid} row move) h = each mid Pays m tt move (kept P each n k mid row h)

  -- either of two answers, and either of two nodes
  pub chosen : {A : Type 0} (k : ℕ) (n : ModelNode) (b : Bool) (x y : A × ModelNode)
      → (b ≡ true → Reaches order given works n k x.1) → (b ≡ false → Reaches order given works n k y.1)
      → Reaches order given works n k (cond b x y).1
  chosen k n true x y here there = here refl
  chosen k n false x y here there = there refl

  pub picked : (k : ℕ) (n : ModelNode) (b : Bool) (x y : ModelNode)
      → (b ≡ true → Reaches order given works n k x) → (b ≡ false → Reaches order given works n k y)
      → Reaches order given works n k (cond b x y)
  picked k n true x y here there = here refl
  picked k n false x y here there = there refl

  -- a row to a node that is equal
  pub to_same : (k : ℕ) (n m o : ModelNode) → o ≡ m → Reaches order given works n k m → Reaches order given works n k o
  to_same k n m o same row = subst (Reaches order given works n k) (sym same) row

-- a move that changes units
pub worked : {order : List Event} {given : Type 0} (k : ℕ) (n m : ModelNode) → Move order given n Works m
    → Reaches order given true n k m
worked k n m move = Working refl Here move
