-- what was written to a sink
use Rattle.std.specs.Prelude.{◌≡◌, ◌==◌, ◌+◌, ℕ, List, ◌++◌, length, position, Option, Some, None}
use Rattle.std.specs.Io.KnownBytes.{Appends}

-- all begins with these bytes
abbrev pub IsFrontOf : List ℕ → List ℕ → Type 0
IsFrontOf bytes all = (rest : List ℕ) × (all ≡ bytes ++ rest)

-- known bytes grow by a front of all
pub record AppendsFront (old new : Option (List ℕ)) (all : List ℕ) : Type 0 where
  pub text : List ℕ
  pub written : Appends old new text
  pub is_front : IsFrontOf text all

-- up to its first newline, and with it; all of it where there is none
abbrev pub len_to : ℕ → Option ℕ → ℕ
len_to all None = all
len_to all (Some at) = at + 1

abbrev pub first_line_len : List ℕ → ℕ
first_line_len text = len_to (length text) (position (λ b. b == 10) text)
