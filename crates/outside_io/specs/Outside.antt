-- what a call of the outside owes: how much a write takes, and that a fault is counted
use Rattle.std.specs.Prelude.{◌≡◌, ◌<◌, ◌≤◌, ℕ, ◌-◌, ◌^◌, List, length, Result, MatchResult, IfOk}

-- the last number of a counter of 64 bits, which stands still there
abbrev pub last_count : ℕ
last_count = 2 ^ 64 - 1

-- the count rose; only a counter that had come to its end stays
abbrev pub Rose : ℕ → ℕ → Type 0
Rose before now = (before ≤ now) × (before < last_count → before < now)

-- a call that is Ok leaves the count of faults, and a fault raises it
abbrev pub HasCause : {T E : Type 0} → ℕ → ℕ → Result T E → Type 0
HasCause before now result = MatchResult result (λ _. now ≡ before) (λ _. Rose before now)

-- an Ok write takes at least one byte and at most the piece
abbrev pub WritesSome : {E : Type 0} → Result ℕ E → List ℕ → Type 0
WritesSome result piece = IfOk result (λ n. (1 ≤ n) × (n ≤ length piece))
