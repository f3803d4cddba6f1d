use Rattle.std.proofs.Common.{◌≡◌, ◌∙◌, rules, arith, true}
use Rattle.std.specs.Char.{is_ascii_digit}
use Rattle.std.specs.List.{list_all}
use Rattle.std.proofs.lemmas.Str.{IsUtf8-from_ascii}
use Rattle.script_text.proofs.NumberLemmas.{number_too_long, number_not_digits, number_parsed, digits_are_ascii}
use Rattle.script_text.proofs.fields.number.Goals as goal
use Rattle.script_text.proofs.fields.number.Goals.{then-word-gt-MOST_DIGITS-via-then-word-gt-MOST_DIGITS, then-word-gt-MOST_DIGITS-via-else-word-gt-MOST_DIGITS+then-not-are_digits}

pub returns-then-word-gt-MOST_DIGITS : goal.returns-then-word-gt-MOST_DIGITS
returns-then-word-gt-MOST_DIGITS c =
    elim c.then-word-gt-MOST_DIGITS.branch [
      | then-word-gt-MOST_DIGITS-via-then-word-gt-MOST_DIGITS w ↦ number_too_long _ (omega arith)
      | then-word-gt-MOST_DIGITS-via-else-word-gt-MOST_DIGITS+then-not-are_digits w ↦ number_not_digits _ (search rules)
    ]

pub returns-in-Ok : goal.returns-in-Ok
returns-in-Ok c =
    let digits : list_all is_ascii_digit c.args.word.now ≡ true = search rules in
    c.ok.ensures.value ∙ number_parsed c.args.word.now _ (omega arith) digits (rw c.in-Ok.ensures.cases.0 at c.parse.ensures.value.0)

pub returns-in-Err : goal.returns-in-Err
returns-in-Err c =
    let digits : list_all is_ascii_digit c.args.word.now ≡ true = search rules in
    absurd (c.in-Err.ensures.cases.0 (IsUtf8-from_ascii _ (digits_are_ascii _ digits)))
