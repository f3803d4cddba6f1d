-- A run of a cluster gives each of its nodes a course, and the laws hold of every node of every
-- run.
use Rattle.std.proofs.Common.{◌≡◌, ℕ, zero, suc, ◌+◌, ◌-◌, ◌≤◌, ◌<◌, ◌^◌, List, [], ◌∷◌, ◌++◌, length, Option, Some, None, refl, ap, sym, subst, ◌∙◌, arith, inl, inr}
use Rattle.std.specs.Prelude.{◌==◌, not, map, slice_get}
use Rattle.std.specs.List.{AllByRecursion}
use Rattle.std.specs.Option.{option_map}
use Rattle.std.proofs.lemmas.Bool.{cond_both, cases_lt}
use Rattle.std.proofs.lemmas.Option.{slice_get-map}
use Rattle.order_event.specs.declared.event.Message.{Message}
use Rattle.order_event.specs.declared.step.Act.{Act}
use Rattle.order_event.specs.declared.step.Act.TheVariants as act
use Rattle.order_event.specs.declared.step.Step.{Step}
use Rattle.order_event.specs.declared.step.Answer.{Answer}
use Rattle.group_order.specs.Order.{up_to, last_member}
use Rattle.node_meaning.specs.Node.{ModelNode, start_node, is_left, is_joining}
use Rattle.node_meaning.specs.Cluster.{ModelCluster, start_cluster, order_first, step_of, step_at, cluster_step, run}
use Rattle.node_laws.specs.Fits.{ActFits}
use Rattle.node_laws.specs.Joins.{CanJoinAll}
use Rattle.node_laws.proofs.LastMember.{last-sent, last-without, last-with, start_last}
use Rattle.node_laws.proofs.StartSound.{length-up_to}
use Rattle.course_laws.specs.Courses.{Course, Happens, course, AllFit}
use Rattle.course_laws.specs.Laws.{joins_by, joins, RunsAreLawful, RunsDecideAll}
use Rattle.course_laws.proofs.Growing.{front_get}
use Rattle.course_laws.proofs.Joining.{last_is}
pub use Rattle.course_laws.proofs.RunSteps.{set_here, StepOf, cluster_step_of}
pub use Rattle.course_laws.proofs.RunLaws.{at_node, NodeKept, RunLaws, MembersFit, run_laws_step, run_laws_start, run_laws_given, run_laws_within, idle_of, can_join, node_laws_of, step_in, course_next, apart_next}

-- ---- the greatest member rises by at most one, and only by a join
module _ (c : ModelCluster) (i : ℕ) (n : ModelNode) where
  abbrev Rises : ℕ → Answer × ModelCluster → Type 0
  Rises k done = last_member done.1.order ≤ last_member c.order + k

  first_rises : (queue : List Message) → Rises 0 (order_first c i n queue)
  first_rises [] = omega arith
  first_rises (m ∷ ms) = omega (arith, last-sent c.order n.at.member (m ∷ []))

  act_rises : (a : Act) → Rises (joins_by a) (step_of c i n a)
  act_rises act.Order = first_rises n.outbox
  act_rises act.Drain = omega (arith, last-sent c.order n.at.member n.outbox)
  act_rises act.Leave =
      cond_both (is_left n.at.phase) _ _ (Rises 0) (λ _. omega arith)
      (λ _. omega (arith, last-without c.order n.at.member))
  act_rises (act.Join fresh) =
      cond_both (not (is_left n.at.phase)) _ _ (Rises 1) (λ _. omega arith) (λ _.
      cond_both (n.at.taken == n.at.committed) _ _ (Rises 1)
      (λ _. omega (arith, last-with c.order)) (λ _. omega arith))
  act_rises (act.Transfer donor) =
      cond_both (is_joining n.at.phase) _ _ (Rises 0) (λ _. omega arith) (λ _. omega arith)
  act_rises _ = omega arith

at_rises : (c : ModelCluster) (i : ℕ) (o : Option ModelNode) (a : Act)
    → last_member (step_at c i o a).1.order ≤ last_member c.order + joins_by a
at_rises c i None a = omega arith
at_rises c i (Some n) a = act_rises c i n a

step_rises : (c : ModelCluster) (step : Step)
    → last_member (cluster_step c step).1.order ≤ last_member c.order + joins_by step.act
unfolding cluster_step
step_rises c step =
    at_rises c (step.node - 1) (slice_get c.nodes (step.node - 1)) step.act

-- ---- along a run
abbrev pub StepFits : Step → Type 0
StepFits step = ActFits step.act

module _ (most : ℕ) (c : ModelCluster) (step : Step) (steps : List Step)
    (few : most + length (step ∷ steps) ≤ 2 ^ 63)
    (room : last_member c.order + joins (step ∷ steps) < 2 ^ 32)
    (fits : AllByRecursion StepFits (step ∷ steps)) (h : RunLaws most c) where
  -- a new member is in range, as there is room for as many joins as are to come
  pub first_fits : MembersFit c step
  first_fits fresh n is there left all =
      let one : joins_by step.act ≡ 1 = ap joins_by is in omega (arith, room, one)

  pub first_room : last_member (cluster_step c step).1.order + joins steps < 2 ^ 32
  first_room = let rises = step_rises c step in omega (arith, room, rises)

  pub first_laws : RunLaws (most + 1) (cluster_step c step).1
  first_laws = run_laws_step most (omega (arith, few)) c h step fits.0 first_fits

pub run_laws : (steps : List Step) (most : ℕ) (c : ModelCluster) → most + length steps ≤ 2 ^ 63
    → last_member c.order + joins steps < 2 ^ 32 → AllByRecursion StepFits steps → RunLaws most c
    → RunLaws (most + length steps) (run steps c).1
unfolding run
run_laws [] most c few room fits h = subst (λ k. RunLaws k c) (omega arith) h
run_laws (step ∷ steps) most c few room fits h =
    subst (λ k. RunLaws k (run steps (cluster_step c step).1).1) (omega arith)
    (run_laws steps (most + 1) (cluster_step c step).1 (omega (arith, few))
    (first_room most c step steps few room fits h) fits.1
    (first_laws most c step steps few room fits h))

-- no join finds anything live
pub run_joins : (steps : List Step) (most : ℕ) (c : ModelCluster) → most + length steps ≤ 2 ^ 63
    → last_member c.order + joins steps < 2 ^ 32 → AllByRecursion StepFits steps → RunLaws most c
    → CanJoinAll steps c
run_joins [] most c few room fits h = tt
run_joins (step ∷ steps) most c few room fits h = (
  can_join most c h step (first_fits most c step steps few room fits h),
  run_joins steps (most + 1) (cluster_step c step).1 (omega (arith, few))
      (first_room most c step steps few room fits h) fits.1
      (first_laws most c step steps few room fits h),
)

-- where it leads the node at a place
pub record CourseOf (c : Course) (most : ℕ) (d : ModelCluster) (i : ℕ) : Type 0 where
  pub happens : List Happens
  pub count : length happens ≡ most
  pub fits : AllFit c happens
  pub node : ModelNode
  pub former : List ℕ
  pub there : slice_get d.nodes i ≡ Some node
  pub leads : course c happens ≡ at_node d.order node former

pub run_course : (steps : List Step) (most : ℕ) (c : ModelCluster) → most + length steps ≤ 2 ^ 63
    → last_member c.order + joins steps < 2 ^ 32 → AllByRecursion StepFits steps → RunLaws most c
    → (i : ℕ) (n : ModelNode) → slice_get c.nodes i ≡ Some n → (k : NodeKept most c i n)
    → CourseOf (at_node c.order n k.former) (length steps) (run steps c).1 i
unfolding run
run_course [] most c few room fits h i n there k = record {
  happens = [];
  count = refl;
  fits = tt;
  node = n;
  former = k.former;
  there = there;
  leads = refl;
}
run_course (step ∷ steps) most c few room fits h i n there k =
    let small : most < 2 ^ 63 = omega (arith, few) in
    let members = first_fits most c step steps few room fits h in
    let s = step_in most small c h step fits.0 members i n there k in
    let rest = run_course steps (most + 1) (cluster_step c step).1 (omega (arith, few))
    (first_room most c step steps few room fits h) fits.1
    (first_laws most c step steps few room fits h) i s.node s.there (record {
      former = s.now;
      kept = course_next most small c h step fits.0 members i n there k;
      apart = apart_next most small c h step fits.0 members i n there k;
    }) in
    record {
      happens = s.happens ∷ rest.happens;
      count = ap suc rest.count;
      fits = (s.fits, subst (λ x. AllFit x rest.happens) (sym s.leads) rest.fits);
      node = rest.node;
      former = rest.former;
      there = rest.there;
      leads = ap (λ x. course x rest.happens) s.leads ∙ rest.leads;
    }

-- ---- the start
counted : (nodes i : ℕ) → i < nodes → slice_get (up_to nodes) i ≡ Some (suc i)
counted zero i below = absurd (omega (arith, below))
counted (suc nodes) i below =
    let xs = up_to nodes in
    let count = length-up_to nodes in
    elim (cases_lt i nodes) [
      | inl first ↦
          front_get xs (suc nodes ∷ []) i (omega (arith, first, count)) ∙ counted nodes i first
      | inr behind ↦
          let here : i ≡ nodes = omega (arith, behind, below) in
          ap (slice_get (xs ++ suc nodes ∷ [])) (here ∙ sym count) ∙ last_is xs (suc nodes)
          ∙ ap (λ k. Some (suc k)) (sym here)
    ]

pub start_at : (gcache : ℕ) (id : List ℕ) (nodes i : ℕ) → i < nodes
    → slice_get (map (start_node gcache id) (up_to nodes)) i ≡ Some (start_node gcache id (suc i))
start_at gcache id nodes i below =
    slice_get-map (start_node gcache id) (up_to nodes) i
    ∙ ap (option_map (start_node gcache id)) (counted nodes i below)

-- ---- runs from the start
module _ (nodes gcache : ℕ) (id : List ℕ) (steps : List Step)
    (room : nodes + joins steps < 2 ^ 32) (few : length steps < 2 ^ 63)
    (fits : AllByRecursion StepFits steps) where
  pub start_laws : RunLaws 1 (start_cluster nodes gcache id)
  start_laws = run_laws_start nodes gcache id (omega (arith, room))

  pub start_room : last_member (start_cluster nodes gcache id).order + joins steps < 2 ^ 32
  unfolding start_cluster
  start_room = let last = start_last nodes in omega (arith, room, last)

  pub runs_kept : RunLaws (1 + length steps) (run steps (start_cluster nodes gcache id)).1
  runs_kept =
      run_laws steps 1 (start_cluster nodes gcache id) (omega (arith, few)) start_room fits
      start_laws

-- the laws hold of every node of every run
pub runs_are_lawful : RunsAreLawful
runs_are_lawful nodes gcache id steps room few fits i n there =
    node_laws_of (1 + length steps) (run steps (start_cluster nodes gcache id)).1
    (runs_kept nodes gcache id steps room few fits) i n there

-- and every write set in its order is decided
pub runs_decide_all : RunsDecideAll
runs_decide_all nodes gcache id steps room few fits =
    (runs_kept nodes gcache id steps room few fits).decided
