use Rattle.std.proofs.Common.{◌≡◌, ◌+◌, ◌-◌, length, drop}
use Rattle.node_meaning.specs.Client.{missing_from}
use Rattle.node_core.proofs.refusal.missing_column.Given as goal

-- the columns that were gone over are not named, or the row has them
abbrev pub invariant-loop-at : goal.invariant-loop-at
invariant-loop-at l = (missing_from (l.at + 1) l.width (drop l.at l.change) ≡ missing_from 1 (length l.row) l.change) × (l.width ≡ length l.row)

abbrev pub decreases-loop-at : goal.decreases-loop-at
decreases-loop-at l = 8 - l.at
