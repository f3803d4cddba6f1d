use Rattle.std.proofs.Common.{ap, subst, ◌∙◌, arith}
use Rattle.write_set.specs.Reading.{Gives, read}
use Rattle.write_set.proofs.WholeLaws.{is_found, read_again}
use Rattle.write_set.proofs.reading.decode.Goals as goal

pub returns-clause-found : goal.returns-clause-found
returns-clause-found c = is_found c.args.bytes.now c.read_all.result (λ i. omega (arith, c.type_inv.bytes i)) c.read_all.ensures

pub returns-clause-only : goal.returns-clause-only
returns-clause-only c = λ w range h. subst (λ reading. Gives (λ x. x) c.read_all.result reading) (ap read h.1 ∙ read_again w range h.0) c.read_all.ensures
