-- The values read so far, and those of the words that are left.
use Rattle.std.proofs.Common.{◌≡◌, ℕ, ◌<◌, List, [], ◌∷◌, ◌++◌, length, Option, Some, None, refl, sym, ap, ◌∙◌, arith, append_assoc, append-nil}
use Rattle.std.specs.Prelude.{option_map, option_and_then}
use Rattle.std.proofs.lemmas.Bool.Decides.{nat_tests}
use Rattle.std.proofs.lemmas.Grind.{common_steps}
use Rattle.row_model.specs.Rows.{row_of}
use Rattle.script_text.specs.Fields.{number_of, numbers_of, values_of}

-- more numbers behind these
abbrev pub behind : List ℕ → Option (List ℕ) → Option (List ℕ)
behind xs more = option_map (λ ys. xs ++ ys) more

behind-cons : (xs : List ℕ) (n : ℕ) (more : Option (List ℕ))
    → behind xs (option_and_then (λ ns. Some (n ∷ ns)) more) ≡ behind (xs ++ n ∷ []) more
behind-cons xs n None = refl
behind-cons xs n (Some ns) = ap (λ l. Some l) (sym (append_assoc xs (n ∷ []) ns))

-- What the words say from here on is what all of them say.
pub record IsReadTo (xs : List ℕ) (words all : List (List ℕ)) : Type 0 where
  pub same : behind xs (numbers_of words) ≡ numbers_of all

values_from : (xs : List ℕ) (words all : List (List ℕ)) → IsReadTo xs words all
    → option_and_then row_of (behind xs (numbers_of words)) ≡ values_of all
unfolding values_of
values_from xs words all read = ap (option_and_then row_of) read.same

pub number_fails : (xs word : List ℕ) (words rest all : List (List ℕ)) → IsReadTo xs words all
    → words ≡ word ∷ rest → None ≡ number_of word → None ≡ values_of all
unfolding numbers_of
number_fails xs word words rest all read first fails =
    let here : numbers_of words ≡ None = rw (first, ← fails) refl in
    ap (λ o. option_and_then row_of (behind xs o)) (sym here) ∙ values_from xs words all read

pub number_read : (xs : List ℕ) (n : ℕ) (word : List ℕ) (words rest all : List (List ℕ)) → IsReadTo xs words all
    → words ≡ word ∷ rest → Some n ≡ number_of word → IsReadTo (xs ++ n ∷ []) rest all
unfolding numbers_of
number_read xs n word words rest all read first is =
    let here : numbers_of words ≡ option_and_then (λ ns. Some (n ∷ ns)) (numbers_of rest) = rw (first, ← is) refl in
    record { same = sym (ap (behind xs) here ∙ behind-cons xs n (numbers_of rest)) ∙ read.same }

too_many : (xs : List ℕ) (more : Option (List ℕ)) → 8 < length xs → None ≡ option_and_then row_of (behind xs more)
too_many xs None long = refl
too_many xs (Some ys) long = grind (arith, nat_tests, common_steps)

pub too_many_values : (xs : List ℕ) (n : ℕ) (rest all : List (List ℕ)) → IsReadTo (xs ++ n ∷ []) rest all
    → length xs ≡ 8 → None ≡ values_of all
too_many_values xs n rest all read full =
    too_many (xs ++ n ∷ []) (numbers_of rest) (grind (arith, common_steps))
    ∙ values_from (xs ++ n ∷ []) rest all read

pub all_values : (xs : List ℕ) (words all : List (List ℕ)) → IsReadTo xs words all → words ≡ []
    → row_of xs ≡ values_of all
unfolding numbers_of
all_values xs words all read none =
    let here : behind xs (numbers_of words) ≡ Some xs = rw none (ap (λ l. Some l) (append-nil xs)) in
    ap (option_and_then row_of) (sym here) ∙ values_from xs words all read
