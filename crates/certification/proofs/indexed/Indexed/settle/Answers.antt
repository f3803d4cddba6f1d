-- The numbers of the commits are below that of the next event too.
use Rattle.std.proofs.Common.{◌+◌, arith}
use Rattle.certification.proofs.StepLaws.{indexed-more}
use Rattle.certification.proofs.indexed.Indexed.settle.Goals as goal

pub invariant_of-self : goal.invariant_of-self
invariant_of-self c =
    indexed-more c.self.inside.number (c.self.inside.number + 1) c.self.inside.commits.items c.self.inside.index
    (omega arith) c.self.invariant
