use Rattle.std.proofs.Common.{◌≡◌, drop}
use Rattle.write_set.specs.Rules.{uncovered_from}
use Rattle.write_set.proofs.rules.first_uncovered.Given as goal

-- the changes so far are covered
abbrev pub invariant-loop-index : goal.invariant-loop-index
invariant-loop-index l = uncovered_from 0 l.keys l.ops ≡ uncovered_from l.index l.keys (drop l.index l.ops)
