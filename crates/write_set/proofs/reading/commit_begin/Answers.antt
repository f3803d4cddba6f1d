use Rattle.std.proofs.Common.{◌∙◌}
use Rattle.write_set.proofs.WholeLaws.{begin_is}
use Rattle.write_set.proofs.reading.commit_begin.Goals as goal

pub returns-clause-of_set : goal.returns-clause-of_set
returns-clause-of_set c = λ w is. c.header_begin.ensures ∙ begin_is c.args.bytes.now w is
