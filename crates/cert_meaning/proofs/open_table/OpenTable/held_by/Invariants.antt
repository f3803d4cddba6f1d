use Rattle.std.proofs.Common.{◌≡◌}
use Rattle.cert_meaning.specs.Extremes.{greater}
use Rattle.cert_meaning.specs.State.{fragments_but}
use Rattle.cert_meaning.specs.Verdict.{greatest_touching}
use Rattle.cert_meaning.proofs.OpenLemmas.{left_but}
use Rattle.cert_meaning.proofs.open_table.OpenTable.held_by.Given as goal

-- the greatest so far with that of the transactions that are left
abbrev pub invariant-loop-other : goal.invariant-loop-other
invariant-loop-other l =
    greater l.greatest (greatest_touching (left_but l.other_than l.other-iterator) l.keys) ≡ greatest_touching (fragments_but l.self l.other_than) l.keys
