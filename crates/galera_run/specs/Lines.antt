-- the lines of an input
use Rattle.std.specs.Prelude.{ℕ, ◌==◌, List, [], ◌∷◌, ◌++◌, if◌then◌else◌}

-- the lines of the bytes behind a begun line, each with the newline that ends it; `last` is what
-- becomes of a line that no newline ends
abbrev pub lines_to : (List ℕ → List (List ℕ)) → List ℕ → List ℕ → List (List ℕ)
lines_to last begun [] = last begun
lines_to last begun (b ∷ bs) =
    if b == 10 then (begun ++ b ∷ []) ∷ lines_to last [] bs else lines_to last (begun ++ b ∷ []) bs

-- the last line needs no newline
abbrev pub last_line : List ℕ → List (List ℕ)
last_line [] = []
last_line (b ∷ bs) = (b ∷ bs) ∷ []

-- a line that no newline ends is none
abbrev pub no_line : List ℕ → List (List ℕ)
no_line begun = []

-- the lines of an input, each with its newline, which the last one may lack
abbrev pub lines_of : List ℕ → List (List ℕ)
lines_of bytes = lines_to last_line [] bytes

-- the lines whose newline is among the bytes
abbrev pub whole_lines : List ℕ → List (List ℕ)
whole_lines bytes = lines_to no_line [] bytes
