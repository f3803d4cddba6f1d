use Rattle.std.proofs.Common.{◌≡◌, ◌≤◌, length, take}
use Rattle.script_text.proofs.ValueLemmas.{IsReadTo}
use Rattle.script_text.proofs.fields.values.Given as goal

abbrev pub invariant-loop-word : goal.invariant-loop-word
invariant-loop-word l = record {
  read : IsReadTo (take l.count l.values) l.words l.initial.words;
  most : l.count ≤ 8;
  cells : length l.values ≡ 8;
}

abbrev pub decreases-loop-word : goal.decreases-loop-word
decreases-loop-word l = length l.words
