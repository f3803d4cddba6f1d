-- A number, as std's `parse` reads it where the digits are few enough.
use Rattle.std.proofs.Common.{◌≡◌, ℕ, ◌^◌, ◌<◌, ◌≤◌, true, false, List, length, None, Result, Ok, Err, arith, rules}
use Rattle.std.specs.Result.{OkIff, result_ok}
use Rattle.std.specs.Char.{is_ascii_digit}
use Rattle.std.specs.List.{list_all}
use Rattle.std.specs.Str.{IsAscii}
use Rattle.std.specs.Str.Parse.{digits_value, ParsesUnsigned}
use Rattle.std.proofs.lemmas.Bool.Decides.{nat_tests}
use Rattle.std.proofs.lemmas.Str.Ascii.{IsAscii-from_all}
use Rattle.std.proofs.lemmas.Str.Parse.{IsNumeralModel, numerals_by_value, parse_digits}
use Rattle.std.proofs.lemmas.List.Sums.{AllPass-from_list_all}
use Rattle.script_text.specs.Fields.{number_of}

abbrev AreDigits : List ℕ → Type 0
AreDigits word = list_all is_ascii_digit word ≡ true

numerals : IsNumeralModel AreDigits (digits_value 10)
numerals = numerals_by_value AreDigits (search rules)

pub number_too_long : (word : List ℕ) → 20 < length word → None ≡ number_of word
unfolding number_of
number_too_long word long = grind (arith, nat_tests)

pub number_not_digits : (word : List ℕ) → list_all is_ascii_digit word ≡ false → None ≡ number_of word
unfolding number_of
number_not_digits word fails = grind (arith, nat_tests)

pub digits_are_ascii : (word : List ℕ) → AreDigits word → IsAscii word
digits_are_ascii word digits =
    IsAscii-from_all word (λ k d below. let digit = AllPass-from_list_all is_ascii_digit word digits k d below in grind (arith, nat_tests))

number_is : {E : Type 0} (word : List ℕ) (r : Result ℕ E) → length word ≤ 20 → AreDigits word
    → OkIff r ((0 < length word) × (digits_value 10 word < 2 ^ 64)) (digits_value 10 word) → result_ok r ≡ number_of word
unfolding number_of
number_is word (Ok n) short digits h = grind (arith, nat_tests)
number_is word (Err e) short digits h = grind (arith, nat_tests)

pub number_parsed : {E : Type 0} (word : List ℕ) (r : Result ℕ E) → length word ≤ 20 → AreDigits word
    → ParsesUnsigned 64 10 word r → result_ok r ≡ number_of word
number_parsed word r short digits parsed = number_is word r short digits (parse_digits numerals 64 word r parsed digits)
