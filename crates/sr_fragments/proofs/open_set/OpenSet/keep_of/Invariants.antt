use Rattle.std.proofs.Common.{◌≡◌}
use Rattle.finite_map.specs.FiniteMap.{len, retain_keys}
use Rattle.cert_meaning.specs.Fold.{is_of}
use Rattle.sr_fragments.proofs.open_set.OpenSet.keep_of.Given as goal

-- what is to be kept is kept in the end
abbrev pub invariant-loop-trx : goal.invariant-loop-trx
invariant-loop-trx l =
    retain_keys l.self (is_of l.members) ≡ retain_keys l.fn.self (is_of l.members)

abbrev pub decreases-loop-trx : goal.decreases-loop-trx
decreases-loop-trx l = len l.self
