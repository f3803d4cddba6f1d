-- what is kept of a cluster along its run: one fact, which each step keeps
use Rattle.std.specs.Prelude.{◌≡◌, ◌<◌, ◌^◌, ℕ, ◌-◌, Bool, true, List, slice_get, Some}
use Rattle.std.specs.List.{AllByRecursion}
use Rattle.order_event.specs.declared.event.Event.{Event}
use Rattle.order_event.specs.declared.step.Step.{Step}
use Rattle.order_event.specs.declared.step.Act.TheVariants as act
use Rattle.group_order.specs.Order.{new_member}
use Rattle.node_meaning.specs.Node.{ModelNode, is_left}
use Rattle.node_meaning.specs.Cluster.{ModelCluster}
use Rattle.node_laws.proofs.Sound.{SoundCluster}
use Rattle.course_laws.specs.Courses.{Course}
use Rattle.course_laws.specs.Laws.{AllAreDecided}
use Rattle.course_laws.specs.Kept.{CourseKept}

-- a node that was these members, over the order
abbrev pub at_node : List Event → ModelNode → List ℕ → Course
at_node order n former = record { order = order; node = n; former = former }

-- what is kept of the node at a place: no other node has a member that it was
pub record NodeKept (most : ℕ) (c : ModelCluster) (i : ℕ) (n : ModelNode) : Type 0 where
  pub former : List ℕ
  pub kept : CourseKept most (at_node c.order n former)
  pub apart : (j : ℕ) (m : ModelNode) → slice_get c.nodes j ≡ Some m → (j ≡ i → ⊥)
      → AllByRecursion (λ k. m.at.member ≡ k → ⊥) former

-- of a cluster that made fewer than so many steps
pub record RunLaws (most : ℕ) (c : ModelCluster) : Type 0 where
  pub sound : SoundCluster most c
  pub nodes : (i : ℕ) (n : ModelNode) → slice_get c.nodes i ≡ Some n → NodeKept most c i n
  pub decided : AllAreDecided c.order

-- where a join is not refused its new member is in range; of other steps nothing is asked
abbrev pub MembersFit : ModelCluster → Step → Type 0
MembersFit c step =
    (fresh : Bool) (n : ModelNode) → step.act ≡ act.Join fresh
    → slice_get c.nodes (step.node - 1) ≡ Some n → is_left n.at.phase ≡ true
    → n.at.taken ≡ n.at.committed → new_member c.order < 2 ^ 32
