-- An empty set has no keys.
use Rattle.std.proofs.Common.{arith}
use Rattle.finite_map.specs.FiniteMap.{len-empty}
use Rattle.key_sets.specs.declared.kind.Kind.{Kind}
use Rattle.key_sets.specs.Parts.{parts_cmp}
use Rattle.key_sets.proofs.key_set.KeySet.new.Goals as goal

pub invariant_of-result : goal.invariant_of-result
invariant_of-result c = rw c.new.ensures.items (tt, omega (arith, len-empty parts_cmp Kind))
