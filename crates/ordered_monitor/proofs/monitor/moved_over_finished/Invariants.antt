use Rattle.std.proofs.Common.{◌≡◌}
use Rattle.ordered_monitor.specs.Entries.{leading, moved, FinishedFit}
use Rattle.ordered_monitor.proofs.monitor.moved_over_finished.Given as goal

abbrev pub invariant-loop-window : goal.invariant-loop-window
invariant-loop-window l = record {
  same : moved l.last_left l.window.items ≡ moved l.initial.last_left l.initial.window.items;
  fits : FinishedFit l.last_left l.window.items;
}

abbrev pub decreases-loop-window : goal.decreases-loop-window
decreases-loop-window l = leading l.window.items
