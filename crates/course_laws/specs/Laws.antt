-- the laws of a node of a cluster over the order so far
use Rattle.std.specs.Prelude.{◌≡◌, ◌≤◌, ◌<◌, ◌^◌, ℕ, ◌+◌, ◌==◌, Bool, true, false, not, List, [], ◌∷◌, length, slice_get, Some, None, if◌then◌else◌}
use Rattle.std.specs.List.{AllByRecursion, list_any}
use Rattle.finite_map.specs.FiniteMap.{get}
use Rattle.wsrep_base.specs.declared.ids.TrxId.{TrxId}
use Rattle.wsrep_base.specs.declared.verdict.Verdict.{Verdict}
use Rattle.wsrep_base.specs.declared.verdict.Verdict.TheVariants as verdict
use Rattle.wsrep_base.specs.declared.limits.TheConstants.{NUMBERS_END}
use Rattle.order_event.specs.declared.event.Event.{Event}
use Rattle.order_event.specs.declared.event.Event.TheVariants as event
use Rattle.order_event.specs.declared.step.Act.{Act}
use Rattle.order_event.specs.declared.step.Act.TheVariants as act
use Rattle.order_event.specs.declared.step.Answer.{Answer}
use Rattle.order_event.specs.declared.step.Answer.TheVariants as answer
use Rattle.order_event.specs.declared.step.Step.{Step}
use Rattle.write_set.specs.declared.write_set.WriteSet.{WriteSet}
use Rattle.write_set.specs.Reading.{decoded}
use Rattle.cert_meaning.specs.Verdict as rules
use Rattle.cert_meaning.specs.Fold.{state_at}
use Rattle.group_order.specs.Order.{last_view}
use Rattle.client_trx.specs.Live.{Live, is_sent}
use Rattle.node_meaning.specs.Node.{ModelNode, is_left}
use Rattle.node_meaning.specs.Steps.{take_step}
use Rattle.node_meaning.specs.Cluster.{start_cluster, run}
use Rattle.node_meaning.specs.Facts.{sets_of, HasFailed}
use Rattle.node_laws.specs.InStep.{message_of, IsInStep, IsCleared}
use Rattle.node_laws.specs.Fits.{ActFits}
use Rattle.course_laws.specs.Ordered.{pending_sets}
use Rattle.course_laws.specs.Courses.{Course, Happens, AllFit, course, start_course}

-- it passes, or another came first
abbrev pub IsByConflict : Verdict → Type 0
IsByConflict verdict.Pass = Unit {0}
IsByConflict (verdict.Conflict commit) = Unit {0}
IsByConflict (verdict.Held fragment) = Unit {0}
IsByConflict other = ⊥

-- each write set of the member in the order passes, or another came first
abbrev pub OwnAreDecided : List Event → ℕ → Type 0
OwnAreDecided order member =
    (before : ℕ) (body : List ℕ) → slice_get order before ≡ Some (event.Write member body)
    → (w : WriteSet) × (decoded body ≡ Some w)
    × IsByConflict (rules.verdict (state_at order before) member w)

-- no take is split
abbrev pub NoSplit : List Event → ModelNode → Type 0
NoSplit order n = (take_step order n).0 ≡ answer.Split → ⊥

-- of a live transaction one write set is pending where it waits for a verdict, and else none
abbrev pub SentStandOnce : List Event → ModelNode → Type 0
SentStandOnce order n =
    (session : ℕ) (t : Live) → get n.live session ≡ Some t
    → length (sets_of t.trx.begin (pending_sets order n)) ≡ (if is_sent t.status then 1 else 0)

-- no write set of the node failed by a verdict that a cluster never gives
abbrev pub NoneFailed : List Event → ModelNode → Type 0
NoneFailed order n =
    (trx : TrxId) → trx.member ≡ n.at.member → HasFailed order n.at.certified trx → ⊥

-- ---- a node that leaves
-- the last view has the member exactly while its node has not left
abbrev pub IsViewed : List Event → ℕ → Bool → Type 0
IsViewed order member left = list_any (λ k. k == member) (last_view order).1 ≡ not left

-- no message of the member stands behind a view without it, from the view on in which it entered
abbrev pub NoneBehind : List Event → ℕ → ℕ → Type 0
NoneBehind order member view =
    (place behind version : ℕ) (members : List ℕ) (e : Event) → view ≤ place + 1
    → slice_get order place ≡ Some (event.View version members)
    → list_any (λ k. k == member) members ≡ false
    → place < behind → slice_get order behind ≡ Some e → message_of member e ≡ None

-- each view that it took has its member, from the one on in which that entered
abbrev pub TookItsViews : List Event → ModelNode → Type 0
TookItsViews order n =
    (place version : ℕ) (members : List ℕ) → n.at.view ≤ place + 1 → place < n.at.taken
    → slice_get order place ≡ Some (event.View version members)
    → list_any (λ k. k == n.at.member) members ≡ true

-- once it has committed all that it took nothing is live
abbrev pub EndsIdle : ModelNode → Type 0
EndsIdle n =
    n.at.taken ≡ n.at.committed → (session : ℕ) (t : Live) → get n.live session ≡ Some t → ⊥

pub record NodeLaws (order : List Event) (n : ModelNode) : Type 0 where
  pub decided : OwnAreDecided order n.at.member
  pub whole : NoSplit order n
  -- while it has not left, its messages behind what it took are those that it had ordered
  pub in_step : is_left n.at.phase ≡ false → IsInStep order n
  pub once : SentStandOnce order n
  pub none_failed : NoneFailed order n
  pub viewed : IsViewed order n.at.member (is_left n.at.phase)
  pub none_behind : NoneBehind order n.at.member n.at.view
  pub cleared : is_left n.at.phase ≡ true → IsCleared n.ordered n.outbox n.live
  pub idle : is_left n.at.phase ≡ true → EndsIdle n
  pub took : TookItsViews order n

-- a member that the node was before has left, and each write set of it in the order passes, or
-- another came first
pub record FormerLaws (order : List Event) (member : ℕ) : Type 0 where
  pub decided : OwnAreDecided order member
  pub viewed : IsViewed order member true

pub record CourseLaws (c : Course) : Type 0 where
  pub node : NodeLaws c.order c.node
  pub former : AllByRecursion (FormerLaws c.order) c.former

-- they hold at the end of every course from a start, while numbers are in range
abbrev pub CoursesAreLawful : Type 0
CoursesAreLawful =
    (nodes gcache member : ℕ) (id : List ℕ) (happens : List Happens)
    → 1 ≤ member → member ≤ nodes → member < 2 ^ 32
    → AllFit (start_course nodes gcache id member) happens → length happens < NUMBERS_END
    → length (course (start_course nodes gcache id member) happens).order ≤ NUMBERS_END
    → CourseLaws (course (start_course nodes gcache id member) happens)

-- ---- runs of a cluster
-- one for a step by which a node may join
abbrev pub joins_by : Act → ℕ
joins_by (act.Join fresh) = 1
joins_by other = 0

-- how many of the steps are such
abbrev pub joins : List Step → ℕ
joins [] = 0
joins (step ∷ steps) = joins_by step.act + joins steps

-- each write set in the order passes, or another came first, whoever sent it
abbrev pub AllAreDecided : List Event → Type 0
AllAreDecided order = (member : ℕ) → OwnAreDecided order member

-- the laws hold of every node of every run of a cluster, while its members are in range
abbrev pub RunsAreLawful : Type 0
RunsAreLawful =
    (nodes gcache : ℕ) (id : List ℕ) (steps : List Step)
    → nodes + joins steps < 2 ^ 32 → length steps < NUMBERS_END
    → AllByRecursion (λ (step : Step). ActFits step.act) steps → (i : ℕ) (n : ModelNode)
    → slice_get (run steps (start_cluster nodes gcache id)).1.nodes i ≡ Some n
    → NodeLaws (run steps (start_cluster nodes gcache id)).1.order n

-- and so every write set that any node sent, under any of its members, is decided
abbrev pub RunsDecideAll : Type 0
RunsDecideAll =
    (nodes gcache : ℕ) (id : List ℕ) (steps : List Step)
    → nodes + joins steps < 2 ^ 32 → length steps < NUMBERS_END
    → AllByRecursion (λ (step : Step). ActFits step.act) steps
    → AllAreDecided (run steps (start_cluster nodes gcache id)).1.order

-- no step of any run of a cluster answers SPLIT
abbrev pub RunsNeverSplit : Type 0
RunsNeverSplit =
    (nodes gcache : ℕ) (id : List ℕ) (steps : List Step)
    → nodes + joins steps < 2 ^ 32 → length steps < NUMBERS_END
    → AllByRecursion (λ (step : Step). ActFits step.act) steps
    → AllByRecursion (λ (a : Answer). a ≡ answer.Split → ⊥)
    (run steps (start_cluster nodes gcache id)).0
