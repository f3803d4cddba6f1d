-- Sets that are small together have no union that is too large.
use Rattle.std.proofs.Common.{arith}
use borrow.Author.Tests.{ltb-true}
use Rattle.key_sets.proofs.UnionLemmas.{len-union-sum}
use Rattle.key_sets.proofs.key_set.KeySet.union_passes.Goals as goal

pub returns-else-most-gt-LIMIT : goal.returns-else-most-gt-LIMIT
returns-else-most-gt-LIMIT c =
    let sum = len-union-sum c.args.self.now c.args.other.now in
    (λ yes. absurd (omega (arith, ltb-true)), λ above. absurd (omega arith))
