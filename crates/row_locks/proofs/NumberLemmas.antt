-- Things numbered from 0 on at each place, after one more comes and after one is taken out.
use Rattle.std.proofs.Common.{◌≡◌, ℕ, ◌+◌, ◌<◌, Bool, true, false, ◌&&◌, cond, Option, None, Some, arith}
use Rattle.std.specs.Prelude.{is_some, nat_eq}
use Rattle.std.proofs.lemmas.Bool.Decides.{nat_tests}
use Rattle.row_locks.specs.HolderIndex.{AreNumbered}

-- the test holds of this one alone
pub record IsTestOf {A : Type 0} (a : A) (test : A → Bool) : Type 0 where
  pub exact : (b : A) → test b ≡ true → a ≡ b
  pub itself : test a ≡ true

module _ {P X : Type 0} (count c : P → ℕ) (thing t : P → ℕ → Option X) (number k : P → X → Option ℕ)
    (numbered : (r : P) → AreNumbered (count r) (thing r) (number r)) where
  -- the same by other functions
  pub numbered_along : ((r : P) → c r ≡ count r) → ((r : P) (n : ℕ) → t r n ≡ thing r n)
      → ((r : P) (x : X) → k r x ≡ number r x) → (r : P) → AreNumbered (c r) (t r) (k r)
  numbered_along counts things numbers r =
      let here = numbered r in record {
        full = λ n less. grind (arith, here.full n, counts r, things r n);
        below = λ n y e. grind (arith, here.below n y, counts r, things r n);
        there = λ n y e. grind (arith, here.there n y, things r n, numbers r y);
        back = λ n y e. grind (arith, here.back n y, things r n, numbers r y);
      }

  module _ (p : P) (is_p : P → Bool) (at_p : IsTestOf p is_p)
      (x : X) (is_x : X → Bool) (at_x : IsTestOf x is_x) where
    -- one more, with the next number
    pub numbered_more : (next : ℕ) → next ≡ count p → is_some (number p x) ≡ false
        → ((r : P) → c r ≡ cond (is_p r) (next + 1) (count r))
        → ((r : P) (n : ℕ) → t r n ≡ cond (is_p r && nat_eq next n) (Some x) (thing r n))
        → ((r : P) (y : X) → k r y ≡ cond (is_x y && is_p r) (Some next) (number r y))
        → (r : P) → AreNumbered (c r) (t r) (k r)
    numbered_more next is fresh counts things numbers r =
        let here = numbered r in let tests_p = at_p.exact r in record {
          full = λ n less. grind (arith, nat_tests, here.full n, counts r, things r n, tests_p);
          below = λ n y e. grind (arith, nat_tests, here.below n y, counts r, things r n, tests_p);
          there = λ n y e. grind (
            arith,
            nat_tests,
            here.there n y,
            things r n,
            numbers r y,
            tests_p,
            at_x.exact y,
            at_x.itself,
          );
          back = λ n y e. grind (
            arith,
            nat_tests,
            here.back n y,
            here.below n y,
            things r n,
            numbers r y,
            tests_p,
            at_x.exact y,
          );
        }

    module _ (last : ℕ) (grown : count p ≡ last + 1)
        (counts : (r : P) → c r ≡ cond (is_p r) last (count r)) where
      -- without the last
      pub numbered_less : number p x ≡ Some last
          → ((r : P) (n : ℕ) → t r n ≡ cond (is_p r && nat_eq last n) None (thing r n))
          → ((r : P) (y : X) → k r y ≡ cond (is_x y && is_p r) None (number r y))
          → (r : P) → AreNumbered (c r) (t r) (k r)
      numbered_less is things numbers r =
          let here = numbered r in let tests_p = at_p.exact r in record {
            full = λ n less. grind (arith, nat_tests, here.full n, counts r, things r n, tests_p);
            below = λ n y e. grind (
              arith,
              nat_tests,
              here.below n y,
              counts r,
              things r n,
              tests_p,
            );
            there = λ n y e. grind (
              arith,
              nat_tests,
              here.there n y,
              things r n,
              numbers r y,
              tests_p,
              at_x.exact y,
            );
            back = λ n y e. grind (
              arith,
              nat_tests,
              here.back n y,
              here.back last x,
              things r n,
              numbers r y,
              tests_p,
              at_x.itself,
            );
          }

      -- the last one has the number of the one that is taken out
      pub numbered_moved : (i : ℕ) → i < last → number p x ≡ Some i
          → (z : X) (is_z : X → Bool) → IsTestOf z is_z → thing p last ≡ Some z
          → ((r : P) (n : ℕ) → t r n
          ≡ cond (is_p r && nat_eq i n) (Some z) (cond (is_p r && nat_eq last n) None (thing r n)))
          → ((r : P) (y : X) → k r y
          ≡ cond (is_z y && is_p r) (Some i) (cond (is_x y && is_p r) None (number r y)))
          → (r : P) → AreNumbered (c r) (t r) (k r)
      numbered_moved i inside is z is_z at_z at_last things numbers r =
          let here = numbered r in let own = numbered p in let tests_p = at_p.exact r in record {
            full = λ n less. grind (arith, nat_tests, here.full n, counts r, things r n, tests_p);
            below = λ n y e. grind (
              arith,
              nat_tests,
              here.below n y,
              counts r,
              things r n,
              tests_p,
            );
            there = λ n y e. grind (
              arith,
              nat_tests,
              here.there n y,
              own.there last z,
              things r n,
              numbers r y,
              tests_p,
              at_x.exact y,
              at_z.exact y,
              at_z.itself,
            );
            back = λ n y e. grind (
              arith,
              nat_tests,
              here.back n y,
              own.back i x,
              things r n,
              numbers r y,
              tests_p,
              at_x.itself,
              at_z.exact y,
              at_z.itself,
            );
          }
