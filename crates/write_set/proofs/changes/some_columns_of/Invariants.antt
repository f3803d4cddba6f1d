use Rattle.std.proofs.Common.{◌≡◌, ◌-◌, take}
use Rattle.write_set.specs.Reading.{some_columns_at}
use Rattle.wsrep_base.proofs.Fields.{with_front}
use Rattle.write_set.proofs.Loops.{AreUpTo}
use Rattle.write_set.proofs.changes.some_columns_of.Given as goal

abbrev pub invariant-loop : goal.invariant-loop
invariant-loop l = record {
  cells : AreUpTo l.last l.change;
  so_far : with_front (take l.last l.change) (some_columns_at (l.count - l.counter) l.last l.rest) ≡ some_columns_at l.count 0 l.fn.cursor;
}
