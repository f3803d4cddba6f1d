-- Letters, padded with zeros, are a name.
use Rattle.std.proofs.Common.{◌≡◌, ℕ, zero, suc, ◌+◌, ◌-◌, ◌≤◌, Bool, true, false, cond, List, [], ◌∷◌, ◌++◌, length, take, drop, replicate, refl, ap, ◌∙◌, arith}
use Rattle.std.specs.Prelude.{◌==◌, ◌&&◌, not, IsTrue}
use Rattle.std.specs.List.{list_all, prefix_len}
use Rattle.std.proofs.lemmas.Bool.Decides.{nat_tests}
use Rattle.std.proofs.lemmas.List.{take_at, drop_at}
use Rattle.row_model.specs.Names.{name_len, letters, padded, is_name}

abbrev is_some_byte : ℕ → Bool
is_some_byte b = not (b == 0)

abbrev is_zero : ℕ → Bool
is_zero b = b == 0

both : (a b : Bool) → a && b ≡ true → (a ≡ true) × (b ≡ true)
both true true e = (refl, refl)
both true false e = absurd cc
both false b e = absurd cc

and : (a b : Bool) → a ≡ true → b ≡ true → a && b ≡ true
and true true p q = refl
and true false p q = absurd cc
and false b p q = absurd cc

letter_is_some : (test : ℕ → Bool) (b : ℕ) → test 0 ≡ false → test b ≡ true → is_some_byte b ≡ true
letter_is_some test zero none h = absurd cc
letter_is_some test (suc b) none h = grind (arith, nat_tests)

letters_are_some : (test : ℕ → Bool) (xs : List ℕ) → test 0 ≡ false → list_all test xs ≡ true → list_all is_some_byte xs ≡ true
letters_are_some test [] none h = refl
letters_are_some test (x ∷ xs) none h =
    let each = both (test x) (list_all test xs) h in
    and (is_some_byte x) (list_all is_some_byte xs) (letter_is_some test x none each.0) (letters_are_some test xs none each.1)

zeros_stop : (k : ℕ) → prefix_len is_some_byte (replicate k 0) ≡ 0
zeros_stop zero = refl
zeros_stop (suc k) = refl

prefix_is : (xs : List ℕ) (k : ℕ) → list_all is_some_byte xs ≡ true → prefix_len is_some_byte (xs ++ replicate k 0) ≡ length xs
prefix_is [] k h = zeros_stop k
prefix_is (x ∷ xs) k h =
    let each = both (is_some_byte x) (list_all is_some_byte xs) h in
    ap (λ b. cond b (1 + prefix_len is_some_byte (xs ++ replicate k 0)) 0) each.0 ∙ ap (λ n. 1 + n) (prefix_is xs k each.1)
    ∙ omega arith

zeros_are : (k : ℕ) → list_all is_zero (replicate k 0) ≡ true
zeros_are zero = refl
zeros_are (suc k) = zeros_are k

is_some_length : (n : ℕ) → 1 ≤ n → not (n == 0) ≡ true
is_some_length n some = grind (arith, nat_tests)

-- one to sixteen letters, none of them zero, are a name once they are padded
pub padded_name : (test : ℕ → Bool) (word : List ℕ) → 1 ≤ length word → length word ≤ 16
    → list_all test word ≡ true → test 0 ≡ false → IsTrue (is_name test (padded word))
unfolding is_name
padded_name test word some most h none =
    let zeros = replicate (16 - length word) 0 in
    let len : name_len (padded word) ≡ length word =
    prefix_is word (16 - length word) (letters_are_some test word none h) in
    let front : letters (padded word) ≡ word =
    ap (λ n. take n (padded word)) len ∙ take_at word zeros (length word) refl in
    let back : drop (name_len (padded word)) (padded word) ≡ zeros =
    ap (λ n. drop n (padded word)) len ∙ drop_at word zeros (length word) refl in
    let named : not (name_len (padded word) == 0) ≡ true =
    ap (λ n. not (n == 0)) len ∙ is_some_length (length word) some in
    and _ _ (and _ _ named (ap (list_all test) front ∙ h)) (ap (list_all is_zero) back ∙ zeros_are (16 - length word))
