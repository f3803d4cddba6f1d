-- Which seats there are.
use Rattle.std.specs.Prelude.{◌≡◌, ℕ, ◌+◌, Bool, true, false, List, length, count_by, Contains}
use mathlib.Core.Option.{some}
use lib.ListN.{get_elem?}

-- whether a seat is still in use, its number, how many were split off it, and the numbers of those
-- that it took in
pub record Rank : Type 0 where
  pub alive : Bool
  pub number : ℕ
  pub splits : ℕ
  pub met : List ℕ

-- The first seat has the number 0 and the k-th that was split off it the number k.
-- Each that is not in use any more was taken in by the first seat.
pub record Seats (ranks : List Rank) : Type 0 where
  pub first : Rank
  pub first_at : get_elem? ranks 0 ≡ some first
  pub given : first.splits + 1 ≡ length ranks
  pub numbered : (i : ℕ) (r : Rank) → get_elem? ranks i ≡ some r → r.alive ≡ true
      → r.number ≡ i
  pub counted : count_by (λ r. r.alive) ranks + length first.met ≡ length ranks
  pub all_met : (i : ℕ) (r : Rank) → get_elem? ranks i ≡ some r → r.alive ≡ false
      → Contains first.met i
