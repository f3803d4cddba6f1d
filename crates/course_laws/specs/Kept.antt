-- what is kept of a node along its course
use Rattle.std.specs.Prelude.{◌≤◌, ◌<◌, ◌^◌, ℕ, ◌+◌, List}
use Rattle.std.specs.List.{AllByRecursion}
use Rattle.finite_map.specs.FiniteMap.{len}
use Rattle.order_event.specs.declared.event.Event.{Event}
use Rattle.group_order.specs.Order.{last_member}
use Rattle.node_meaning.specs.Node.{ModelNode, is_left}
use Rattle.course_laws.specs.Courses.{Course}
use Rattle.course_laws.specs.Laws.{OwnAreDecided, NoneBehind, IsViewed, FormerLaws}
use Rattle.course_laws.specs.Places.{Follows}

-- of the node of a member, which made fewer than so many steps
pub record Kept (member most : ℕ) (order : List Event) (n : ModelNode) : Type 0 where
  pub follows : Follows order member n
  pub decided : OwnAreDecided order member
  pub none_behind : NoneBehind order member n.at.view
  pub serial : n.at.serial + len n.live ≤ most
  pub begin : n.at.begin ≤ most

-- of a course: its node's member is in range, and is above all that the node was before
pub record CourseKept (most : ℕ) (c : Course) : Type 0 where
  pub kept : Kept c.node.at.member most c.order c.node
  pub small : c.node.at.member < 2 ^ 32
  pub viewed : IsViewed c.order c.node.at.member (is_left c.node.at.phase)
  pub known : c.node.at.member ≤ last_member c.order
  pub below : AllByRecursion (λ k. k < c.node.at.member) c.former
  pub former : AllByRecursion (FormerLaws c.order) c.former
