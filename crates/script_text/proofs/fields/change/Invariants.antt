use Rattle.std.proofs.Common.{◌≡◌, ◌≤◌, length}
use Rattle.script_text.proofs.ChangeLemmas.{IsSetTo}
use Rattle.script_text.proofs.fields.change.Given as goal

abbrev pub invariant-loop-word : goal.invariant-loop-word
invariant-loop-word l = record {
  set : IsSetTo l.change l.last l.words l.initial.words;
  most : l.last ≤ 8;
  cells : length l.change ≡ 8;
}

abbrev pub decreases-loop-word : goal.decreases-loop-word
decreases-loop-word l = length l.words
