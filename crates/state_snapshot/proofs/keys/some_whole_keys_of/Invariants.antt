use Rattle.std.proofs.Common.{◌≡◌, ◌-◌, ◌≤◌, None}
use Rattle.finite_map.specs.FiniteMap.{empty, len}
use Rattle.state_snapshot.specs.Reading.{each_at, whole_key_at, with_both}
use Rattle.state_snapshot.proofs.keys.some_whole_keys_of.Given as goal

abbrev pub invariant-loop : goal.invariant-loop
invariant-loop l = record {
  few : len l.keys ≤ l.counter;
  so_far : with_both l.keys l.whole (each_at whole_key_at (l.count - l.counter) (l.before, l.whole) l.rest)
      ≡ with_both empty l.fn.whole (each_at whole_key_at l.fn.count (None, l.fn.whole) l.fn.cursor);
}
