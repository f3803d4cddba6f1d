-- the eight cells of a row, of which the first so many have its values and the others have 0
use Rattle.std.specs.Prelude.{◌≡◌, ℕ, ◌≤◌, ◌-◌, List, ◌++◌, length, take, drop, replicate}
use Rattle.std.proofs.Common.{sym, ◌∙◌, ap}
use Rattle.std.proofs.lemmas.List.{length-take-le, take-append-drop}

pub record IsPadded (count : ℕ) (cells : List ℕ) : Type 0 where
  pub some : 1 ≤ count
  pub most : count ≤ 8
  pub cells_are : length cells ≡ 8
  pub zeros : drop count cells ≡ replicate (8 - count) 0

-- the values are as many as they were
pub count_again : (count : ℕ) (cells : List ℕ) → IsPadded count cells
    → length (take count cells) ≡ count
count_again count cells kept =
    let fits : count ≤ length cells = rw kept.cells_are kept.most in length-take-le count cells fits

-- the values, padded again, are the cells
pub values_again : (count : ℕ) (cells : List ℕ) → IsPadded count cells
    → take count cells ++ replicate (8 - length (take count cells)) 0 ≡ cells
values_again count cells kept =
    ap (λ n. take count cells ++ replicate (8 - n) 0) (count_again count cells kept)
    ∙ ap (λ zeros. take count cells ++ zeros) (sym kept.zeros)
    ∙ take-append-drop count cells
