-- reading fields of bytes from left to right: a value and the place behind it, or the first fault
-- that is met, of any type of faults in which a field can be cut short
use Rattle.std.specs.Prelude.{◌≡◌, ℕ, zero, suc, ◌+◌, Bool, true, false, nat_lt, List, [], ◌∷◌, length, take, drop, Result, Ok, Err, if◌then◌else◌}
use Rattle.std.specs.Int.{Width, byte_len, from_be_bytes}
use Rattle.wsrep_base.specs.Place.{Place}

infixl 10 ◌>>=◌
abbrev pub ◌>>=◌ : {A B F : Type 0} → Result A F → (A → Result B F) → Result B F
(Ok x) >>= f = f x
(Err fault) >>= f = Err fault

-- a value and the place behind it, or the first fault
abbrev pub Read : Type 0 → Type 0 → Type 0
Read F A = Result (A × Place) F

-- the fault, where the test holds
abbrev pub refuse : {F : Type 0} → Bool → F → Result (Unit {0}) F
refuse true fault = Err fault
refuse false fault = Ok tt

-- the next n bytes
unfoldable pub bytes_at : {F : Type 0} → (ℕ → F) → ℕ → Place → Read F (List ℕ)
bytes_at short n p =
    if nat_lt (length p.left) n then Err (short p.at)
    else Ok (take n p.left, record { left = drop n p.left; at = p.at + n })

-- a number of a width, the highest byte first
unfoldable pub number_at : {F : Type 0} → (ℕ → F) → Width → Place → Read F ℕ
number_at short w p = do
  bytes ← bytes_at short (byte_len w) p
  Ok (from_be_bytes w bytes.0, bytes.1)

-- so many values, one behind the other
unfoldable pub many_at : {F A : Type 0} → (Place → Read F A) → ℕ → Place → Read F (List A)
many_at one_at zero p = Ok ([], p)
many_at one_at (suc n) p = do
  one ← one_at p
  others ← many_at one_at n one.1
  Ok (one.0 ∷ others.0, others.1)

-- what a function returned, seen by a view, is what is read
abbrev pub Reads : {X Y F : Type 0} → (X → Y) → Result X F → Result Y F → Type 0
Reads view (Ok x) reading = reading ≡ Ok (view x)
Reads view (Err fault) reading = reading ≡ Err fault
