use Rattle.std.proofs.Common.{◌∙◌, arith}
use Rattle.script_text.proofs.LoadLemmas.{account_written}
use Rattle.script_text.proofs.rounds.account.Goals as goal

pub returns : goal.returns
returns c =
    account_written _ c.as_bytes-digits.result.now c.args.number _ c.copy_from_slice.ensures.after
    (c.as_bytes-digits.ensures.value ∙ c.format.ensures.text) (omega arith) (omega arith)
