-- Only a take could answer SPLIT, and none does: so no step of a run answers it.
use Rattle.std.proofs.Common.{◌≡◌, ℕ, ◌+◌, ◌-◌, ◌≤◌, ◌<◌, ◌^◌, List, [], ◌∷◌, length, Option, Some, None, refl, arith}
use Rattle.std.specs.Prelude.{slice_get}
use Rattle.std.specs.List.{AllByRecursion}
use Rattle.order_event.specs.declared.step.Act.{Act}
use Rattle.order_event.specs.declared.step.Act.TheVariants as act
use Rattle.order_event.specs.declared.step.Answer.{Answer}
use Rattle.order_event.specs.declared.step.Answer.TheVariants as answer
use Rattle.order_event.specs.declared.step.Step.{Step}
use Rattle.group_order.specs.Order.{last_member}
use Rattle.node_meaning.specs.Node.{ModelNode}
use Rattle.node_meaning.specs.Steps.{certify_step, start_step, finish_step, advance_step, report_step}
use Rattle.node_meaning.specs.Cluster.{ModelCluster, start_cluster, step_of, step_at, cluster_step, run}
use Rattle.node_meaning.specs.Status.{status_step}
use Rattle.course_laws.specs.Laws.{NoSplit, joins, RunsNeverSplit}
use Rattle.course_laws.specs.RunLaws.{RunLaws}
use Rattle.course_laws.proofs.RunLaws.{node_laws_of}
use Rattle.course_laws.proofs.Runs.{StepFits, first_room, first_laws, start_room, start_laws}

-- ---- a step of the cluster
module _ (c : ModelCluster) (i : ℕ) (n : ModelNode) (whole : NoSplit c.order n) where
  step_whole : (a : Act) → (step_of c i n a).0 ≡ answer.Split → ⊥
  unfolding certify_step start_step finish_step advance_step report_step status_step
  step_whole act.Take is = whole is
  step_whole _ is = grind arith

module _ (c : ModelCluster)
    (whole : (i : ℕ) (n : ModelNode) → slice_get c.nodes i ≡ Some n → NoSplit c.order n) where
  at_whole : (i : ℕ) (o : Option ModelNode) (a : Act) → slice_get c.nodes i ≡ o
      → (step_at c i o a).0 ≡ answer.Split → ⊥
  at_whole i None a there is = cc
  at_whole i (Some n) a there is = step_whole c i n (whole i n there) a is

  cluster_whole : (step : Step) → (cluster_step c step).0 ≡ answer.Split → ⊥
  unfolding cluster_step
  cluster_whole step =
      at_whole (step.node - 1) (slice_get c.nodes (step.node - 1)) step.act refl

-- ---- a run
answers_whole : (steps : List Step) (most : ℕ) (c : ModelCluster) → most + length steps ≤ 2 ^ 63
    → last_member c.order + joins steps < 2 ^ 32 → AllByRecursion StepFits steps → RunLaws most c
    → AllByRecursion (λ (a : Answer). a ≡ answer.Split → ⊥) (run steps c).0
unfolding run
answers_whole [] most c few room fits h = tt
answers_whole (step ∷ steps) most c few room fits h = (
  cluster_whole c (λ i n there. (node_laws_of most c h i n there).whole) step,
  answers_whole steps (most + 1) (cluster_step c step).1 (omega (arith, few))
      (first_room most c step steps few room fits h) fits.1
      (first_laws most c step steps few room fits h),
)

pub runs_never_split : RunsNeverSplit
runs_never_split nodes gcache id steps room few fits =
    answers_whole steps 1 (start_cluster nodes gcache id) (omega (arith, few))
    (start_room nodes gcache id steps room few fits) fits
    (start_laws nodes gcache id steps room few fits)
