-- A value with at most one more entry adds only what its seat may.
use Rattle.std.proofs.Common.{rules, ◌≡◌, List, [], ◌∷◌, ◌++◌, Result, Ok, Err, MatchResult}
use Rattle.node_gate.specs.Calls.{AddsOnly}

pub at_most_one : {C E M T X : Type 0} → (entries : C → List E) (mark : C → M) (may : E → Type 0) (c c' : C) (x : E) (r : Result T X)
    → MatchResult r (λ _. entries c' ≡ entries c ++ x ∷ []) (λ _. entries c' ≡ entries c)
    → may x → mark c' ≡ mark c → AddsOnly entries mark may c c'
at_most_one entries mark may c c' x (Ok _) grown can kept = record {
  added = x ∷ [];
  adds = grown;
  allowed = search rules;
  kept = kept;
}
at_most_one entries mark may c c' x (Err _) same can kept = record {
  added = [];
  adds = search rules;
  allowed = search rules;
  kept = kept;
}
