use Rattle.std.proofs.Common.{arith}
use Rattle.write_set.proofs.PartLaws.{keys_found, keys_only}
use Rattle.write_set.proofs.reading.read_keys.Goals as goal

pub returns-clause-found : goal.returns-clause-found
returns-clause-found c = keys_found c.args.bytes.now c.args.at (λ i. omega (arith, c.type_inv.bytes i)) c.requires c.keys_from.result c.keys_from.ensures

pub returns-clause-only : goal.returns-clause-only
returns-clause-only c = keys_only c.args.bytes.now c.args.at (λ i. omega (arith, c.type_inv.bytes i)) c.requires c.keys_from.result c.keys_from.ensures
