-- What small tests of numbers say.
use Rattle.std.proofs.Common.{◌≡◌, ℕ, zero, suc, ◌<◌, ◌≤◌, Bool, true, false, refl, arith}
use Rattle.std.specs.Prelude.{◌==◌, ◌||◌, not, nat_lt}
use Rattle.std.proofs.lemmas.Bool.{ltb-false, le-ltb}
use Rattle.std.proofs.lemmas.Bool.Decides.{nat_tests}

pub neither : (a b : Bool) → a || b ≡ false → (a ≡ false) × (b ≡ false)
neither true b e = absurd cc
neither false true e = absurd cc
neither false false e = (refl, refl)

pub is_not : (b : Bool) → not b ≡ false → b ≡ true
is_not true e = refl
is_not false e = absurd cc

pub is_no : (b : Bool) → not b ≡ true → b ≡ false
is_no true e = absurd cc
is_no false e = refl

pub positive : (n : ℕ) → (n == 0) ≡ false → 0 < n
positive zero e = absurd cc
positive (suc n) e = omega arith

pub some_is : (n : ℕ) → 0 < n → (n == 0) ≡ false
some_is n some = grind (arith, nat_tests)

-- a number from 1 to a limit
pub within : (limit n : ℕ) → (n == 0 || nat_lt limit n) ≡ false → (0 < n) × (n ≤ limit)
within limit n h =
    let each = neither (n == 0) (nat_lt limit n) h in
    (positive n each.0, ltb-false limit n each.1)

pub is_within : (limit n : ℕ) → 0 < n → n ≤ limit → (n == 0 || nat_lt limit n) ≡ false
is_within limit n some most = grind (arith, nat_tests)

pub above : (limit n : ℕ) → n ≤ limit → nat_lt limit n ≡ false
above limit n most = le-ltb limit n most
