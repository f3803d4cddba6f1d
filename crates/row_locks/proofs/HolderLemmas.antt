-- Holders are in a total order, and holders that tie are equal.
use Rattle.std.proofs.Common.{◌≡◌, Bool, true, cond, arith}
use Rattle.std.specs.Cmp.{IsTotalOrder, IsEquivalence, eq_by_cmp_equiv}
use Rattle.std.specs.FinMap.{IsAntisymmetric}
use Rattle.std.proofs.lemmas.Bool.Decides.{nat_tests}
use Rattle.row_locks.specs.declared.holder.Holder.{Holder}
use Rattle.row_locks.specs.Holders.{holder_cmp, same_holder}
use Rattle.row_locks.specs.LockKeys.{holder_eq}

-- a function of what a test chooses
pub cond-ap : {X Y : Type 0} (f : X → Y) (b : Bool) (x y : X)
    → f (cond b x y) ≡ cond b (f x) (f y)
cond-ap f b x y = grind arith

pub holder_total : IsTotalOrder holder_cmp
holder_total = record {
  antisymm = λ a b. grind (arith, nat_tests);
  trans = λ a b c e f. grind (arith, nat_tests);
  congr = λ a b c e. grind (arith, nat_tests);
}

pub holder_equivalence : IsEquivalence same_holder
holder_equivalence = eq_by_cmp_equiv holder_total

-- holders that tie are the same
pub holder_exact : IsAntisymmetric holder_cmp
holder_exact a b e = grind (arith, nat_tests)

pub same_holder-exact : (a b : Holder) → same_holder a b ≡ true → a ≡ b
same_holder-exact a b e = grind (arith, nat_tests)

pub same_holder-itself : (a : Holder) → same_holder a a ≡ true
same_holder-itself a = holder_equivalence.refl a

-- `==` answers as the order does
pub holder_ties : (a b : Holder) → holder_eq a b ≡ same_holder a b
holder_ties a b = grind (arith, nat_tests)

pub holder_eq-exact : (a b : Holder) → holder_eq a b ≡ true → a ≡ b
holder_eq-exact a b e = grind (arith, nat_tests)

pub holder_eq-itself : (a : Holder) → holder_eq a a ≡ true
holder_eq-itself a = grind (arith, nat_tests)
