use Rattle.std.proofs.Common.{◌≡◌, take}
use Rattle.ordered_monitor.proofs.monitor.copy_of.Given as goal

abbrev pub invariant-loop-at : goal.invariant-loop-at
invariant-loop-at l = l.copy.items ≡ take l.at l.states.items
