use Rattle.std.proofs.Common.{◌≡◌, drop}
use Rattle.key_sets.specs.Keys.{with_keys, union}
use Rattle.key_sets.proofs.key_set.KeySet.union.Given as goal

-- the keys that are left, added to those so far, make the union
abbrev pub invariant-loop-parts : goal.invariant-loop-parts
invariant-loop-parts l = with_keys l.both (drop l.parts-index l.parts-items) ≡ union l.self l.other
