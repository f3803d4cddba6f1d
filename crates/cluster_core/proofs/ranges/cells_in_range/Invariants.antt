use Rattle.std.proofs.Common.{take}
use Rattle.std.specs.List.{AllByRecursion}
use Rattle.write_set.specs.Rules.{IsCell}
use Rattle.cluster_core.proofs.ranges.cells_in_range.Given as goal

-- the cells so far fit their type
abbrev pub invariant-loop-cell : goal.invariant-loop-cell
invariant-loop-cell l = AllByRecursion IsCell (take l.cell-index l.change)
