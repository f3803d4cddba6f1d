-- A run of the workload of `load`, one step after another.
use Rattle.std.proofs.Common.{◌≡◌, ◌≤◌, ℕ, ◌+◌, List, [], ◌∷◌, ◌++◌, length, ap, refl, sym, ◌∙◌, arith}
use Rattle.order_event.specs.declared.step.Answer.{Answer}
use Rattle.order_event.specs.declared.step.Step.{Step}
use Rattle.script_text.specs.Load.{load_steps}
use Rattle.script_text.proofs.LoadLaws.{load_runs, load_length}
use Rattle.report_text.specs.declared.load.LoadCounts.{LoadCounts}
use Rattle.report_text.specs.Load.{counts_of, together, counts_text}
use Rattle.report_text.proofs.CountLemmas.{count_next}
use Rattle.node_meaning.specs.Cluster.{ModelCluster, will_order, cluster_step, run}
use Rattle.node_laws.specs.Given.{given}
use Rattle.node_laws.proofs.ClusterLaws.{cluster_grows}
use Rattle.node_laws.proofs.GivenLaws.{step_given}
use Rattle.galera_run.specs.declared.workload.Workload.{Workload}
use Rattle.galera_run.specs.Load.{load_start, load_summary, nodes_sum, IsWithin, IsStepped, IsUnderWay, IsDone}

-- the events of a step are among what the cluster has given out behind it
pub orders_within : (c : ModelCluster) (step : Step) → length c.order + will_order c step ≤ given c + 1
unfolding given
orders_within c step = omega (arith, (cluster_grows c step).order, step_given c step)

run_step : (step : Step) (left : List Step) (c : ModelCluster)
    → run (step ∷ left) c ≡ ((cluster_step c step).0 ∷ (run left (cluster_step c step).1).0, (run left (cluster_step c step).1).1)
unfolding run
run_step step left c = refl

-- before the first step
from_none : (c : LoadCounts) → together (counts_of []) c ≡ c
from_none c =
    let same : (n : ℕ) → 0 + n ≡ n = λ n. omega arith in
    λ i. record {
      committed = same c.committed i;
      deadlock_cert = same c.deadlock_cert i;
      deadlock_bf = same c.deadlock_bf i;
      busy = same c.busy i;
    }

pub starts : (seed count : ℕ) (load : Workload) → count ≤ 30_000 → load.cluster.model ≡ load_start
    → load.counts ≡ counts_of [] → load.steps ≡ 0 → IsWithin load → IsUnderWay (load_steps seed count) load (load_steps seed count)
starts seed count load few model counts steps within = record {
  within = within;
  leads = record {
    steps = omega (arith, steps);
    counts = rw (counts, model) (from_none (counts_of (run (load_steps seed count) load_start).0));
    model = rw model refl;
  };
  can_run = load_runs seed count;
  few = omega (arith, load_length seed count, few);
}

-- behind a step
pub goes_on : (all : List Step) (before after : Workload) (step : Step) (left : List Step)
    → IsUnderWay all before (step ∷ left) → IsStepped before step after → IsWithin after → IsUnderWay all after left
goes_on all before after step left h done within =
    let one = cluster_step before.cluster.model step in
    let rest = run_step step left before.cluster.model in
    record {
      within = within;
      leads = record {
        steps = omega (arith, done.steps, h.leads.steps);
        counts = rw (done.counts, done.model) (count_next before.counts one.0 (run left one.1).0
            ∙ ap (λ (r : List Answer × ModelCluster). together before.counts (counts_of r.0)) (sym rest) ∙ h.leads.counts);
        model = rw done.model (ap (λ (r : List Answer × ModelCluster). r.1) (sym rest) ∙ h.leads.model);
      };
      can_run = h.can_run.1;
      few = h.few;
    }

-- behind the last step
with_none : (c : LoadCounts) → c ≡ together c (counts_of [])
with_none c =
    let same : (n : ℕ) → n ≡ n + 0 = λ n. omega arith in
    λ i. record {
      committed = same c.committed i;
      deadlock_cert = same c.deadlock_cert i;
      deadlock_bf = same c.deadlock_bf i;
      busy = same c.busy i;
    }

counted : (all : List Step) (load : Workload) → IsDone all load → load.counts ≡ counts_of (run all load_start).0
unfolding run
counted all load h = with_none load.counts ∙ h.leads.counts

pub ended : (all : List Step) (load : Workload) → IsDone all load → load.cluster.model ≡ (run all load_start).1
unfolding run
ended all load h = h.leads.model

pub all_events : (all : List Step) (load : Workload) (events : ℕ) → IsDone all load → events ≡ length load.cluster.model.order
    → events ≡ length (run all load_start).1.order
all_events all load events h is = is ∙ ap (λ (c : ModelCluster). length c.order) (ended all load h)

pub summary_is : (seed count : ℕ) (load : Workload) (events : ℕ) → IsDone (load_steps seed count) load
    → events ≡ length load.cluster.model.order
    → counts_text seed count load.counts events ++ nodes_sum load.cluster.model 3 ≡ load_summary seed count
summary_is seed count load events h is =
    let all = load_steps seed count in
    λ i. counts_text seed count (counted all load h i) (all_events all load events h is i) ++ nodes_sum (ended all load h i) 3
