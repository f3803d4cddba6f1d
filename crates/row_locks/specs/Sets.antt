-- A function that is set at one key.
use Rattle.std.specs.Prelude.{◌≡◌, Bool, cond}

-- by the test of equal keys, `after` has the value at the key, and elsewhere what `before` has
abbrev pub SetsAt : {K X : Type 0} → (K → K → Bool) → (K → X) → K → X → (K → X) → Type 0
SetsAt {K} eq before key value after =
    (other : K) → after other ≡ cond (eq key other) value (before other)
