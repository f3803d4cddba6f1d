use Rattle.std.proofs.Common.{arith}
use Rattle.write_set.proofs.PartLaws.{ops_found, ops_only}
use Rattle.write_set.proofs.reading.read_ops.Goals as goal

pub returns-clause-found : goal.returns-clause-found
returns-clause-found c = ops_found c.args.bytes.now c.args.at (λ i. omega (arith, c.type_inv.bytes i)) c.requires c.ops_from.result c.ops_from.ensures

pub returns-clause-only : goal.returns-clause-only
returns-clause-only c = ops_only c.args.bytes.now c.args.at (λ i. omega (arith, c.type_inv.bytes i)) c.requires c.ops_from.result c.ops_from.ensures
