use Rattle.std.proofs.Common.{◌≡◌, ◌++◌, ◌+◌, drop}
use Rattle.write_set.specs.Spelling.{columns_text, change_text}
use Rattle.write_set.proofs.changes.put_change.Given as goal

abbrev pub invariant-loop-cell : goal.invariant-loop-cell
invariant-loop-cell l =
    (l.column ≡ l.cell-index + 1) × (l.out ++ columns_text l.column (drop l.cell-index l.change) ≡ l.fn.out ++ change_text l.change)
