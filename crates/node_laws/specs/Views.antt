-- the views in the order of a cluster, and the members of its nodes
use Rattle.std.specs.Prelude.{◌≡◌, ◌≤◌, ◌<◌, ◌^◌, ℕ, ◌+◌, ◌==◌, true, false, List, [], ◌∷◌, ◌++◌, length, slice_get, Some, IsTrue, if◌then◌else◌}
use Rattle.std.specs.List.{AllByRecursion, list_any}
use Rattle.order_event.specs.declared.event.Event.{Event}
use Rattle.order_event.specs.declared.event.Event.TheVariants as event
use Rattle.order_event.specs.Spelling.{HasFewMembers, rise}
use Rattle.group_order.specs.Order.{last_view}
use Rattle.node_meaning.specs.Node.{ModelNode, is_left}
use Rattle.node_meaning.specs.Cluster.{ModelCluster}

-- the members of the nodes that have not left
abbrev pub members_in : List ModelNode → List ℕ
members_in [] = []
members_in (n ∷ ns) = if is_left n.at.phase then members_in ns else n.at.member ∷ members_in ns

-- a view has a member, or lacks it; of other events nothing is said
abbrev pub ViewHas : ℕ → Event → Type 0
ViewHas member (event.Write sender body) = Unit {0}
ViewHas member (event.View version members) = list_any (λ k. k == member) members ≡ true
ViewHas member (event.Report sender number) = Unit {0}

abbrev pub ViewLacks : ℕ → Event → Type 0
ViewLacks member (event.Write sender body) = Unit {0}
ViewLacks member (event.View version members) = list_any (λ k. k == member) members ≡ false
ViewLacks member (event.Report sender number) = Unit {0}

-- a member entered with the view of a number: each view before it lacks the member, and each from
-- that one on has it
pub record EnteredIn (order : List Event) (member view : ℕ) : Type 0 where
  pub early : List Event
  pub since : List Event
  pub parts : order ≡ early ++ since
  pub entered : length early + 1 ≡ view
  pub fits : view ≤ length order
  pub before : AllByRecursion (ViewLacks member) early
  pub after : AllByRecursion (ViewHas member) since

-- it entered so and left with some event: each view between them has the member, that event and
-- each view behind it lacks it, and what the node took lies before it
pub record LeftIn (order : List Event) (member view taken : ℕ) : Type 0 where
  pub early : List Event
  pub front : List Event
  pub back : List Event
  pub parts : order ≡ early ++ (front ++ back)
  pub entered : length early + 1 ≡ view
  pub fits : view ≤ length early + length front
  pub never : AllByRecursion (ViewLacks member) early
  pub before : AllByRecursion (ViewHas member) front
  pub after : AllByRecursion (ViewLacks member) back
  pub taken_fits : taken ≤ length early + length front

-- a node's member is in each view of the order from its own until it leaves, and in no other one
pub record IsInViews (order : List Event) (n : ModelNode) : Type 0 where
  pub stays : is_left n.at.phase ≡ false → EnteredIn order n.at.member n.at.view
  pub left : is_left n.at.phase ≡ true → LeftIn order n.at.member n.at.view n.at.taken

-- the last view has the members of the nodes that have not left, and no more; they rise, and
-- members can be counted in four bytes
pub record ViewsStand (c : ModelCluster) : Type 0 where
  pub last : (member : ℕ)
      → list_any (λ k. k == member) (last_view c.order).1
      ≡ list_any (λ k. k == member) (members_in c.nodes)
  pub as_many : length (last_view c.order).1 ≤ length (members_in c.nodes)
  pub rising : IsTrue (rise (last_view c.order).1)
  pub few : AllByRecursion HasFewMembers c.order
  pub count : length c.nodes < 2 ^ 32
  pub nodes : (i : ℕ) (n : ModelNode) → slice_get c.nodes i ≡ Some n → IsInViews c.order n
