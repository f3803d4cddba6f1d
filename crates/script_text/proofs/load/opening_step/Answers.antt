use Rattle.std.proofs.Common.{sym, ◌∙◌, arith}
use Rattle.script_text.proofs.LoadLemmas.{opening_row, opening_end}
use Rattle.script_text.proofs.load.opening_step.Goals as goal

pub returns-in-4-to-67-clause-step : goal.returns-in-4-to-67-clause-step
returns-in-4-to-67-clause-step c = c.inserts.ensures ∙ sym (opening_row c.args.place (omega arith) (omega arith))

pub returns-in_default-clause-step : goal.returns-in_default-clause-step
returns-in_default-clause-step c = sym (opening_end c.args.place (omega arith))
