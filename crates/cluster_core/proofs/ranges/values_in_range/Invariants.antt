use Rattle.std.proofs.Common.{◌<◌, ◌^◌, take}
use Rattle.std.specs.List.{AllByRecursion}
use Rattle.cluster_core.proofs.ranges.values_in_range.Given as goal

-- the values so far fit their type
abbrev pub invariant-loop-value : goal.invariant-loop-value
invariant-loop-value l = AllByRecursion (λ value. value < 2 ^ 64) (take l.value-index l.values)
