use Rattle.std.proofs.Common.{◌≡◌, ◌+◌, ◌*◌, ◌≤◌, ◌++◌, length, take}
use Rattle.std.specs.HashMap.{spare}
use Rattle.std.specs.VecDeque.{deque_len, deque_capacity}
use Rattle.cert_index.specs.Index.{entries_of, AreUpTo}
use Rattle.cert_index.specs.Table.{Finds}
use Rattle.cert_index.proofs.table.enter_all.Given as goal

-- the keys that were gone over are entered, and there is room for the others
abbrev pub invariant-loop-key : goal.invariant-loop-key
invariant-loop-key l = record {
  kept : l.kept.items ≡ l.fn.kept.items ++ entries_of l.number (take l.key-index l.keys);
  finds : Finds l.latest.entries l.kept.items;
  up_to : AreUpTo l.number l.kept.items;
  room : 2 * length l.keys ≤ spare l.latest + 2 * l.key-index;
  places : deque_len l.kept + length l.keys ≤ deque_capacity l.kept + l.key-index;
}
