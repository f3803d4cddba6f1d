use Rattle.std.proofs.Common.{◌≡◌, ◌*◌, ◌^◌, ◌≤◌, take}
use Rattle.report_text.specs.Load.{first_sum}
use Rattle.report_text.proofs.load.first_sum.Given as goal

abbrev pub invariant-loop-item : goal.invariant-loop-item
invariant-loop-item l = record {
  sum : l.sum ≡ first_sum (take l.item-index l.rows);
  fits : l.sum ≤ l.item-index * 2 ^ 64;
}
