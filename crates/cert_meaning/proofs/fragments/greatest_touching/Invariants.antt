use Rattle.std.proofs.Common.{◌≡◌, drop}
use Rattle.cert_meaning.specs.Extremes.{greater}
use Rattle.cert_meaning.specs.Verdict.{greatest_touching}
use Rattle.cert_meaning.proofs.fragments.greatest_touching.Given as goal

-- the greatest so far with that of the fragments that are left
abbrev pub invariant-loop-fragment : goal.invariant-loop-fragment
invariant-loop-fragment l =
    greater l.greatest (greatest_touching (drop l.fragment-index l.fragments) l.keys) ≡ greater l.fn.so_far (greatest_touching l.fragments l.keys)
