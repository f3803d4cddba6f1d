-- a place in the bytes: what is left from there on, and how many bytes stand before it
use Rattle.std.specs.Prelude.{ℕ, List, drop}

pub record Place : Type 0 where
  pub left : List ℕ
  pub at : ℕ

-- the place behind so many bytes
abbrev pub place_in : List ℕ → ℕ → Place
place_in bytes at = record { left = drop at bytes; at = at }
