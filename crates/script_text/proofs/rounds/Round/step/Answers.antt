use Rattle.std.proofs.Common.{sym, arith}
use Rattle.script_text.proofs.LoadLemmas.{round_end}
use Rattle.script_text.proofs.rounds.Round.step.Goals as goal

pub returns-in_default-clause-step : goal.returns-in_default-clause-step
returns-in_default-clause-step c = sym (round_end c.args.self.now c.args.place (omega arith))
