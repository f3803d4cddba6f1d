-- The numbers of the commits are below that of the next event too.
use Rattle.std.proofs.Common.{◌+◌, arith}
use Rattle.cert_meaning.proofs.CommitLaws.{rise-more}
use Rattle.cert_meaning.proofs.state.FoldState.settle.Goals as goal

pub invariant_of-self : goal.invariant_of-self
invariant_of-self c =
    rise-more 0 c.self.inside.number (c.self.inside.number + 1) c.self.inside.commits.items (omega arith) c.self.invariant
