-- what is asked of a step by which a node joins
use Rattle.std.specs.Prelude.{◌≡◌, ◌<◌, ◌^◌, ℕ, ◌-◌, Bool, true, slice_get, Some, List, [], ◌∷◌}
use Rattle.finite_map.specs.FiniteMap.{get}
use Rattle.order_event.specs.declared.step.Step.{Step}
use Rattle.order_event.specs.declared.step.Act.TheVariants as act
use Rattle.group_order.specs.Order.{new_member}
use Rattle.client_trx.specs.Live.{Live}
use Rattle.node_meaning.specs.Node.{ModelNode, is_left}
use Rattle.node_meaning.specs.Cluster.{ModelCluster, cluster_step}

-- nothing is live at the node, and the number of the new member is within its type
pub record MayJoin (c : ModelCluster) (n : ModelNode) : Type 0 where
  pub none_live : (session : ℕ) (t : Live) → get n.live session ≡ Some t → ⊥
  pub member : new_member c.order < 2 ^ 32

-- so where a join is not refused; of other steps nothing is asked
abbrev pub CanJoin : ModelCluster → Step → Type 0
CanJoin c step =
    (fresh : Bool) (n : ModelNode) → step.act ≡ act.Join fresh
    → slice_get c.nodes (step.node - 1) ≡ Some n → is_left n.at.phase ≡ true
    → n.at.taken ≡ n.at.committed → MayJoin c n

-- at each step of a run
abbrev pub CanJoinAll : List Step → ModelCluster → Type 0
CanJoinAll [] c = Unit {0}
CanJoinAll (step ∷ steps) c = CanJoin c step × CanJoinAll steps (cluster_step c step).1
