use Rattle.std.proofs.Common.{◌≡◌, take}
use Rattle.apply_unit.specs.Results.{computed}
use Rattle.apply_unit.proofs.task.do_all.Given as goal

abbrev pub invariant-loop-op : goal.invariant-loop-op
invariant-loop-op l = l.results.items ≡ computed (take l.op-index l.ops) l.initial.results.items
