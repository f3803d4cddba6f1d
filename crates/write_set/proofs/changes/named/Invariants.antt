use Rattle.std.proofs.Common.{◌≡◌, ◌≤◌, ◌+◌, drop}
use Rattle.write_set.specs.Spelling.{named}
use Rattle.write_set.proofs.changes.named.Given as goal

-- the columns counted so far and those that are left are all that are named
abbrev pub invariant-loop-cell : goal.invariant-loop-cell
invariant-loop-cell l = (l.count + named (drop l.cell-index l.change) ≡ named l.change) × (l.count ≤ l.cell-index)
