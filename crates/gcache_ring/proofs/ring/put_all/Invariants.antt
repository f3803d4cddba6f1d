use Rattle.std.proofs.Common.{◌≡◌, ◌+◌, ◌≤◌, ◌++◌, length}
use Rattle.std.specs.List.{AllByRecursion}
use Rattle.std.specs.VecDeque.{deque_len, deque_capacity}
use Rattle.order_event.specs.Spelling.{HasFewMembers}
use Rattle.gcache_ring.specs.Held.{total, held}
use Rattle.gcache_ring.proofs.ring.put_all.Given as goal

-- what is held, and what is left to push, decide what is held in the end
abbrev pub invariant-loop-event : goal.invariant-loop-event
invariant-loop-event l = record {
  held : held l.size (l.events.items ++ l.left.items)
      ≡ held l.size (l.initial.events.items ++ l.fn.more.items);
  used : l.sum ≡ total l.events.items;
  fits : l.sum ≤ l.size;
  few : AllByRecursion HasFewMembers l.events.items;
  members : AllByRecursion HasFewMembers l.left.items;
  room : deque_len l.events + deque_len l.left ≤ deque_capacity l.events;
  fewer : length l.events.items + length l.left.items
      ≤ length l.initial.events.items + length l.fn.more.items;
}

abbrev pub decreases-loop-event : goal.decreases-loop-event
decreases-loop-event l = length l.left.items
