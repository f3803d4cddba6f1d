-- numbers in bytes, the highest byte first
use Rattle.std.specs.Prelude.{ℕ, ◌+◌, List, length, take, drop, nat_le, Option, Some, None, if◌then◌else◌}
use Rattle.std.specs.Int.{Width, byte_len, from_be_bytes}

-- the number of a width whose bytes stand from a place on, if they are all there
abbrev pub number_at : Width → List ℕ → ℕ → Option ℕ
number_at w bytes at =
    if nat_le (at + byte_len w) (length bytes)
    then Some (from_be_bytes w (take (byte_len w) (drop at bytes))) else None
