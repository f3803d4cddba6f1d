use Rattle.std.proofs.Common.{◌≡◌, ◌≤◌, length}
use Rattle.std.specs.List.{AllByRecursion}
use Rattle.std.specs.VecDeque.{deque_len, deque_capacity}
use Rattle.order_event.specs.Spelling.{HasFewMembers}
use Rattle.gcache_ring.specs.Held.{total, held}
use Rattle.gcache_ring.proofs.ring.drop_oldest.Given as goal

-- what is left is what decides which events are held
abbrev pub invariant-loop-left : goal.invariant-loop-left
invariant-loop-left l = record {
  held : held l.limit l.events.items ≡ held l.limit l.initial.events.items;
  used : l.left ≡ total l.events.items;
  few : AllByRecursion HasFewMembers l.events.items;
  fewer : deque_len l.events ≤ deque_len l.initial.events;
  room : deque_capacity l.events ≡ deque_capacity l.initial.events;
}

abbrev pub decreases-loop-left : goal.decreases-loop-left
decreases-loop-left l = length l.events.items
