use Rattle.std.proofs.Common.{◌≡◌, ◌-◌, ◌≤◌, None}
use Rattle.finite_map.specs.FiniteMap.{empty, len}
use Rattle.write_set.specs.Reading.{some_keys_at, with_read}
use Rattle.write_set.proofs.keys.some_keys_of.Given as goal

abbrev pub invariant-loop : goal.invariant-loop
invariant-loop l = record {
  few : len l.keys ≤ l.counter;
  so_far : with_read l.keys (some_keys_at (l.count - l.counter) l.before l.rest) ≡ with_read empty (some_keys_at l.count None l.fn.cursor);
}
