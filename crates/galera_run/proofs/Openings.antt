-- A cluster at its start is within its counts, and how those are when a step was done.
use Rattle.std.proofs.Common.{◌≡◌, ◌≤◌, ℕ, ◌+◌, List, length, ap, ◌∙◌, arith}
use Rattle.std.specs.Prelude.{false, nat_lt}
use Rattle.std.proofs.lemmas.Bool.Decides.{nat_tests}
use Rattle.order_event.specs.declared.step.Step.{Step}
use Rattle.node_meaning.specs.Cluster.{ModelCluster, start_cluster, will_order}
use Rattle.cluster_core.specs.State.{ClusterState}
use Rattle.node_laws.specs.Given.{given}
use Rattle.galera_run.specs.declared.line.TheConstants.{MOST_EVENTS}
use Rattle.galera_run.specs.Places.{Opened}
use Rattle.galera_run.specs.Feeding.{IsCounted}

first_events : (nodes gcache : ℕ) (id : List ℕ)
    → length (start_cluster nodes gcache id).order ≡ 1
unfolding start_cluster
first_events nodes gcache id = omega arith

-- a new cluster
pub start_counted : (o : Opened) (gcache : ℕ) (id : List ℕ)
    → o.cluster.model ≡ start_cluster o.nodes gcache id → o.cluster.faults ≡ 0
    → length o.cluster.model.nodes ≡ o.nodes → given o.cluster.model ≡ 1 → IsCounted 0 o
start_counted o gcache id start none count first =
    let events : length o.cluster.model.order ≡ 1 =
    ap (λ (c : ModelCluster). length c.order) start ∙ first_events o.nodes gcache id in
    record { nodes = count; events = omega (arith, events); faults = none; within = omega (arith, first) }

pub counted_later : (steps : ℕ) (o : Opened) → IsCounted 0 o → IsCounted steps o
counted_later steps o h = record { nodes = h.nodes; events = h.events; faults = h.faults; within = omega (arith, h.within) }

is_at_most : (m n : ℕ) → false ≡ nat_lt m n → n ≤ m
is_at_most m n e = grind (arith, nat_tests)

-- a step that was done within the limit on events
pub step_counted : (steps : ℕ) (o : Opened) (step : Step) (new : ClusterState) → IsCounted steps o
    → false ≡ nat_lt MOST_EVENTS (length o.cluster.model.order + will_order o.cluster.model step)
    → given new.model ≤ given o.cluster.model + 1 → length new.model.nodes ≡ length o.cluster.model.nodes
    → length new.model.order ≡ length o.cluster.model.order + will_order o.cluster.model step → new.faults ≡ o.cluster.faults
    → IsCounted (steps + 1) (record { nodes = o.nodes; cluster = new })
step_counted steps o step new h within grows nodes events faults = record {
  nodes = nodes ∙ h.nodes;
  events = omega (arith, events, is_at_most MOST_EVENTS (length o.cluster.model.order + will_order o.cluster.model step) within);
  faults = faults ∙ h.faults;
  within = omega (arith, grows, h.within);
}
