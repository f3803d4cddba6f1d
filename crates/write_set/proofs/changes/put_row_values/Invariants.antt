use Rattle.std.proofs.Common.{◌≡◌, ◌++◌, ◌∷◌, length, take}
use Rattle.write_set.specs.Spelling.{values_text}
use Rattle.write_set.proofs.changes.put_row_values.Given as goal

abbrev pub invariant-loop-value : goal.invariant-loop-value
invariant-loop-value l = l.out ≡ l.fn.out ++ length l.values ∷ values_text (take l.value-index l.values)
