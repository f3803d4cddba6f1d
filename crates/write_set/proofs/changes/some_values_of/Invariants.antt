use Rattle.std.proofs.Common.{◌≡◌, ◌-◌, length, take}
use Rattle.std.specs.Int.{w64}
use Rattle.write_set.specs.Reading.{many_at, number_at}
use Rattle.wsrep_base.proofs.Fields.{with_front}
use Rattle.write_set.proofs.changes.some_values_of.Given as goal

abbrev pub invariant-loop-at : goal.invariant-loop-at
invariant-loop-at l = record {
  all : length l.cells ≡ 8;
  so_far : with_front (take l.at l.cells) (many_at (number_at w64) (l.count - l.at) l.rest) ≡ many_at (number_at w64) l.count l.fn.cursor;
}
