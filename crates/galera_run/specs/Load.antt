-- the summary of the workload that is generated from a seed, and what a run of it promises
use Rattle.std.specs.Prelude.{◌≡◌, ◌≤◌, ℕ, ◌+◌, List, [], ◌∷◌, ◌++◌, length, flat_map, Option}
use Rattle.std.specs.List.{AllByRecursion}
use Rattle.std.specs.Io.KnownBytes.{Appends}
use Rattle.order_event.specs.declared.step.Answer.{Answer}
use Rattle.order_event.specs.declared.step.Step.{Step}
use Rattle.group_order.specs.Order.{up_to}
use Rattle.script_text.specs.Steps.{IsRunnable}
use Rattle.script_text.specs.Load.{load_header, load_steps}
use Rattle.report_text.specs.Load.{IsCountOf, counts_of, together, counts_text, sum_text}
use Rattle.node_meaning.specs.Cluster.{ModelCluster, start_cluster, cluster_step, run}
use Rattle.node_laws.specs.Given.{given}
use Rattle.cluster_core.specs.State.{end_at, end_rows}
use Rattle.galera_run.specs.declared.fault.Finished.{Finished}
use Rattle.galera_run.specs.declared.workload.Workload.{Workload}

-- the cluster that the workload runs on, at its start
abbrev pub load_start : ModelCluster
load_start = start_cluster load_header.nodes load_header.gcache load_header.id

-- the answers of all its steps, and the cluster behind them
abbrev pub load_run : ℕ → ℕ → List Answer × ModelCluster
load_run seed count = run (load_steps seed count) load_start

-- what a node shows at the end: its place, and the count and the sum of its rows
abbrev pub node_sum : ModelCluster → ℕ → List ℕ
node_sum model node = sum_text node (end_at model node) (end_rows model node)

-- what the first nodes show, in their order
abbrev pub nodes_sum : ModelCluster → ℕ → List ℕ
nodes_sum model nodes = flat_map (node_sum model) (up_to nodes)

-- what was asked for, the counts of the answers, the events, and each node's line
abbrev pub summary_text : ℕ → ℕ → List Answer × ModelCluster → List ℕ
summary_text seed count r =
    counts_text seed count (counts_of r.0) (length r.1.order) ++ nodes_sum r.1 load_header.nodes

-- the summary of so many transactions, drawn from the seed
abbrev pub load_summary : ℕ → ℕ → List ℕ
load_summary seed count = summary_text seed count (load_run seed count)

-- all steps were run, and the whole summary was written
pub record TellsLoad (seed count : ℕ) (old new : Option (List ℕ)) (done : Finished) : Type 0 where
  pub steps : done.steps ≡ length (load_steps seed count)
  pub events : done.events ≡ length (load_run seed count).1.order
  pub written : Appends old new (load_summary seed count)

-- ---- a run of the workload while steps are left

-- three nodes over a group that never failed; no count passes that of the steps
pub record IsWithin (load : Workload) : Type 0 where
  pub nodes : length load.cluster.model.nodes ≡ 3
  pub faults : load.cluster.faults ≡ 0
  pub given : given load.cluster.model ≤ load.steps + 1
  pub counts : IsCountOf load.steps load.counts

-- a step was run, and its answer counted
pub record IsStepped (before : Workload) (step : Step) (after : Workload) : Type 0 where
  pub steps : after.steps ≡ before.steps + 1
  pub counts : after.counts
      ≡ together before.counts (counts_of ((cluster_step before.cluster.model step).0 ∷ []))
  pub model : after.cluster.model ≡ (cluster_step before.cluster.model step).1

-- with the answers of the steps that are left, the counts and the cluster are those of all steps
pub record LeadsTo (all : List Step) (load : Workload) (left : List Step) : Type 0 where
  pub steps : load.steps + length left ≡ length all
  pub counts : together load.counts (counts_of (run left load.cluster.model).0)
      ≡ counts_of (run all load_start).0
  pub model : (run left load.cluster.model).1 ≡ (run all load_start).1

-- a run of some of all steps: a cluster of three nodes can make those that are left, and they are
-- few
pub record IsUnderWay (all : List Step) (load : Workload) (left : List Step) : Type 0 where
  pub within : IsWithin load
  pub leads : LeadsTo all load left
  pub can_run : AllByRecursion (IsRunnable 3) left
  pub few : length all ≤ 300_000

-- a run of all steps
abbrev pub IsDone : List Step → Workload → Type 0
IsDone all load = IsUnderWay all load []
