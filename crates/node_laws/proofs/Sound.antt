-- What holds of a cluster that has made fewer than so many steps: members differ, and the order
-- knows no greater one than its views have; each node keeps its facts, is in step with the order
-- until it leaves and has nothing queued then, is at rest while it waits for a state, and no
-- session has a transaction while an answer waits for it.
use Rattle.std.proofs.Common.{◌≡◌, ℕ, ◌+◌, ◌≤◌, ◌<◌, ◌^◌, false, List, length, Some, ap, sym, ◌∙◌, arith}
use Rattle.std.specs.Prelude.{slice_get}
use Rattle.finite_map.specs.FiniteMap.{len}
use Rattle.order_event.specs.declared.event.Event.{Event}
use Rattle.group_order.specs.Order.{last_member, new_member}
use Rattle.node_meaning.specs.Node.{ModelNode, is_left}
use Rattle.node_meaning.specs.Cluster.{ModelCluster, set_at}
use Rattle.node_meaning.specs.Facts.{Facts}
use Rattle.node_laws.specs.InStep.{IsInStep}
use Rattle.node_laws.specs.Sizes.{cluster_size}
use Rattle.node_laws.proofs.Waiting.{AreIdle}
use Rattle.node_laws.proofs.Cleared.{ClearedOnceLeft}
use Rattle.node_laws.proofs.Joining.{KnowsNoneAbove, WaitsWhileJoining}
use Rattle.node_laws.proofs.ClusterGrowth.{Found, New, Old, found}

-- ---- members differ
abbrev pub Differ : List ModelNode → Type 0
Differ nodes = (i j : ℕ) (n m : ModelNode) → slice_get nodes i ≡ Some n → slice_get nodes j ≡ Some m
    → n.at.member ≡ m.at.member → i ≡ j

-- one node takes another's place, with a member that no other one has
module _ (nodes : List ModelNode) (i : ℕ) (m : ModelNode)
    (apart : (j : ℕ) (o : ModelNode) → (j ≡ i → ⊥) → slice_get nodes j ≡ Some o
    → o.at.member ≡ m.at.member → ⊥)
    (differ : Differ nodes) where
  differ_by : (j k : ℕ) (x y : ModelNode) → Found nodes i m j x → Found nodes i m k y
      → x.at.member ≡ y.at.member → j ≡ k
  differ_by j k x y (New here is) (New too as_well) one = here ∙ sym too
  differ_by j k x y (New here is) (Old beside at) one =
      absurd (apart k y beside at (sym one ∙ ap (λ (o : ModelNode). o.at.member) (sym is)))
  differ_by j k x y (Old beside at) (New here is) one =
      absurd (apart j x beside at (one ∙ ap (λ (o : ModelNode). o.at.member) (sym is)))
  differ_by j k x y (Old beside at) (Old besides too) one = differ j k x y at too one

  pub differ_new : Differ (set_at nodes i m)
  differ_new j k x y one other =
      differ_by j k x y (found nodes i m j x one) (found nodes i m k y other)

-- or with its own
pub differ_set : (nodes : List ModelNode) (i : ℕ) (n m : ModelNode) → slice_get nodes i ≡ Some n
    → m.at.member ≡ n.at.member → Differ nodes → Differ (set_at nodes i m)
differ_set nodes i n m there same differ =
    differ_new nodes i m
    (λ j o beside at is. beside (differ j i o n at there (is ∙ same))) differ

-- ---- a node, and the cluster
pub record Sound (most : ℕ) (order : List Event) (n : ModelNode) : Type 0 where
  pub facts : Facts order n
  pub in_step : is_left n.at.phase ≡ false → IsInStep order n
  pub cleared : ClearedOnceLeft n
  pub waits : WaitsWhileJoining n
  pub idle : AreIdle n.waiting n.live
  pub serial : n.at.serial + len n.live ≤ most
  pub begin : n.at.begin ≤ most
  pub member : n.at.member < 2 ^ 32
  pub known : n.at.member ≤ last_member order

pub record SoundCluster (most : ℕ) (c : ModelCluster) : Type 0 where
  pub size : cluster_size c ≤ most
  pub differ : Differ c.nodes
  pub knows : KnowsNoneAbove c.order
  pub members : last_member c.order ≤ length c.nodes + length c.order
  pub nodes : (i : ℕ) (n : ModelNode) → slice_get c.nodes i ≡ Some n → Sound most c.order n

-- the number of a new member is within its type, where nodes and steps together are
pub new_member_fits : (most : ℕ) (c : ModelCluster) → SoundCluster most c
    → length c.nodes + most + 1 < 2 ^ 32 → new_member c.order < 2 ^ 32
new_member_fits most c sound few = omega (arith, sound.members, sound.size, few)
