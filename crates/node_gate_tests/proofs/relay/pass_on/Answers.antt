use Rattle.std.proofs.Common.{rules, ◌≡◌, [], ◌∷◌, ◌++◌, MatchResult}
use Rattle.node_gate_tests.proofs.Noted.{at_most_one}
use Rattle.node_gate_tests.proofs.relay.pass_on.Goals as goal

pub with_turn-requires-clause-adds : goal.with_turn-requires-clause-adds
with_turn-requires-clause-adds g c = λ v r v' lent gave.
    let kept : v'.seat.gate ≡ v.seat.gate = search rules in
    let grown : MatchResult r (λ _. v'.notes.items ≡ v.notes.items ++ v.number ∷ [])
    (λ _. v'.notes.items ≡ v.notes.items) = search rules in
    at_most_one _ _ _ v v' v.number r grown (tt {0}) kept
