-- Each step of `load` is one that a cluster of three nodes can make.
use Rattle.std.proofs.Common.{◌≡◌, length, ℕ, zero, suc, ◌+◌, ◌%◌, ◌^◌, ◌<◌, ◌≤◌, Bool, true, false, cond, List, [], ◌∷◌, ◌++◌, map, refl, ◌∙◌, arith, length-append, ◌*◌}
use Rattle.std.specs.Prelude.{◌==◌, ◌&&◌, IsTrue, codes, decimal}
use Rattle.std.specs.List.{AllByRecursion, list_all, range_with_len}
use Rattle.std.proofs.lemmas.Bool.Decides.{nat_tests}
use Rattle.std.proofs.lemmas.Fmt.{decimal_by_steps, length-decimal-le}
use Rattle.std.proofs.lemmas.List.Folds.{list_all-append}
use Rattle.row_model.specs.declared.calls.Call.{Call}
use Rattle.row_model.specs.declared.calls.Call.TheVariants as call
use Rattle.row_model.specs.Names.{place_fits, call_fits, is_table_letter, is_row_letter}
use Rattle.row_model.proofs.NameLemmas.{padded_name}
use Rattle.order_event.specs.declared.step.Act.TheVariants as act
use Rattle.order_event.specs.declared.step.Step.{Step}
use Rattle.script_text.specs.declared.rounds.Round.{Round}
use Rattle.script_text.specs.Steps.{IsRunnable}
use Rattle.script_text.specs.Load.{drawn, account, set_to, asks, does, each_does, inserts, insert_committed, opening, closing, number_at, round_of, round_steps, rounds, load_steps}

abbrev Runs : Step → Type 0
Runs = IsRunnable 3

both_run : (xs ys : List Step) → AllByRecursion Runs xs → AllByRecursion Runs ys → AllByRecursion Runs (xs ++ ys)
both_run [] ys p q = q
both_run (x ∷ xs) ys p q = (p.0, both_run xs ys p.1 q)

-- names

digits_are_letters : (n : ℕ) → n < 2 ^ 64 → list_all is_row_letter (decimal n) ≡ true
digits_are_letters n small =
    decimal_by_steps (λ m ds. list_all is_row_letter ds ≡ true)
    (λ m low. grind (arith, nat_tests))
    (λ m ds high letters. list_all-append is_row_letter ds ((48 + m % 10) ∷ []) ∙ grind (arith, nat_tests))
    n small

account_fits : (j : ℕ) → j < 64 → IsTrue (place_fits (account j))
account_fits j few =
    let table = padded_name is_table_letter (codes "acct") (omega arith) (omega arith) refl refl in
    let letters = digits_are_letters j (omega arith) in
    let short = length-decimal-le 2 j (omega arith) (omega arith) (omega arith) in
    let row = padded_name is_row_letter (114 ∷ decimal j) (omega arith) (omega arith) letters refl in
    (λ i. table i && row i)

-- steps

asks_run : (node session : ℕ) (asked : Call) → 1 ≤ node → node ≤ 3 → 1 ≤ session → session ≤ 4 → IsTrue (call_fits asked)
    → Runs (asks node session asked)
asks_run node session asked some few first last fits =
    (record { some_node = some; among_nodes = few; has_session = (first, omega arith) }, fits)

drains_run : (node : ℕ) → 1 ≤ node → node ≤ 3 → Runs (does act.Drain node)
drains_run node some few = (record { some_node = some; among_nodes = few; has_session = tt }, refl)

reports_run : (node : ℕ) → 1 ≤ node → node ≤ 3 → Runs (does act.Report node)
reports_run node some few = (record { some_node = some; among_nodes = few; has_session = tt }, refl)

rows_run : (a n : ℕ) → a + n ≤ 64 → AllByRecursion Runs (map inserts (range_with_len a n))
rows_run a zero few = tt
rows_run a (suc n) few = (
  asks_run 1 1 _ (omega arith) (omega arith) (omega arith) (omega arith) (account_fits a (omega arith)),
  rows_run (a + 1) n (omega arith),
)

three_run : (f : ℕ → Step) → ((node : ℕ) → 1 ≤ node → node ≤ 3 → Runs (f node)) → AllByRecursion Runs (map f (1 ∷ 2 ∷ 3 ∷ []))
three_run f run =
    (run 1 (omega arith) (omega arith), (run 2 (omega arith) (omega arith), (run 3 (omega arith) (omega arith), tt)))

-- parts

settled_runs : AllByRecursion Runs insert_committed
settled_runs =
    let one : 1 ≤ 1 = omega arith in
    let few : 1 ≤ 3 = omega arith in
    let commit = asks_run 1 1 call.Commit one few one (omega arith) refl in
    let poll = asks_run 1 1 call.Poll one few one (omega arith) refl in
    let second = drains_run 2 (omega arith) (omega arith) in
    let third = drains_run 3 (omega arith) (omega arith) in
    (commit, (drains_run 1 one few, (poll, (second, (third, tt)))))

opening_runs : AllByRecursion Runs opening
unfolding opening
opening_runs =
    let begin = asks_run 1 1 (call.Begin 0) (omega arith) (omega arith) (omega arith) (omega arith) refl in
    let rows = both_run (map inserts (range_with_len 0 64)) insert_committed (rows_run 0 64 (omega arith)) settled_runs in
    both_run (each_does act.Drain) (asks 1 1 (call.Begin 0) ∷ map inserts (range_with_len 0 64) ++ insert_committed)
    (three_run (does act.Drain) drains_run) (begin, rows)

closing_runs : AllByRecursion Runs closing
closing_runs =
    let drains = three_run (does act.Drain) drains_run in
    both_run (each_does act.Drain) (each_does act.Drain) drains drains

-- a round of one of three nodes and four sessions, over 64 rows
record IsWithin (r : Round) : Type 0 where
  some_node : 1 ≤ r.node
  few_nodes : r.node ≤ 3
  some_session : 1 ≤ r.session
  few_sessions : r.session ≤ 4
  first_row : r.first < 64
  second_row : r.second < 64
  some_drained : 1 ≤ r.drained
  few_drained : r.drained ≤ 3

is_drawn : (i x : ℕ) → IsWithin (round_of i x)
unfolding drawn
is_drawn i x = record {
  some_node = omega arith;
  few_nodes = omega arith;
  some_session = omega arith;
  few_sessions = omega arith;
  first_row = omega arith;
  second_row = omega arith;
  some_drained = omega arith;
  few_drained = omega arith;
}

reports_of : (b : Bool) → AllByRecursion Runs (cond b (each_does act.Report) [])
reports_of true = three_run (does act.Report) reports_run
reports_of false = tt

round_runs : (r : Round) → IsWithin r → AllByRecursion Runs (round_steps r)
round_runs r w =
    let ask : (asked : Call) → IsTrue (call_fits asked) → Runs (asks r.node r.session asked) =
    λ asked fits. asks_run r.node r.session asked w.some_node w.few_nodes w.some_session w.few_sessions fits in
    let first = account_fits r.first w.first_row in
    let second = account_fits r.second w.second_row in (
      ask call.Poll refl,
      (
        ask (call.Begin r.unit) refl,
        (
          ask (set_to r.number r.first) (λ i. first i && true),
          (
            ask (set_to r.number r.second) (λ i. second i && true),
            (
              ask call.Commit refl,
              (drains_run r.drained w.some_drained w.few_drained, reports_of (r.number % 16 == 0)),
            ),
          ),
        ),
      ),
    )

rounds_run : (i x left : ℕ) → AllByRecursion Runs (rounds i x left)
unfolding rounds
rounds_run i x zero = tt
rounds_run i x (suc left) =
    both_run (round_steps (round_of i x)) (rounds (i + 1) (number_at 6 x) left)
    (round_runs (round_of i x) (is_drawn i x)) (rounds_run (i + 1) (number_at 6 x) left)

-- a cluster of three nodes can make each step of `load`
pub load_runs : (seed count : ℕ) → AllByRecursion (IsRunnable 3) (load_steps seed count)
load_runs seed count =
    both_run (opening ++ rounds 1 seed count) closing
    (both_run opening (rounds 1 seed count) opening_runs (rounds_run 1 seed count)) closing_runs

-- how many steps there are

report_count : (b : Bool) → length (cond b (each_does act.Report) []) ≤ 3
report_count true = omega arith
report_count false = omega arith

round_length : (r : Round) → length (round_steps r) ≤ 9
round_length r = omega (arith, report_count (r.number % 16 == 0))

rounds_length : (i x left : ℕ) → length (rounds i x left) ≤ 9 * left
unfolding rounds
rounds_length i x zero = omega arith
rounds_length i x (suc left) =
    omega (
      arith,
      length-append (round_steps (round_of i x)) (rounds (i + 1) (number_at 6 x) left),
      round_length (round_of i x),
      rounds_length (i + 1) (number_at 6 x) left,
    )

opening_length : length opening ≡ 73
unfolding opening
opening_length = refl

-- a round has at most nine steps
pub load_length : (seed count : ℕ) → length (load_steps seed count) ≤ 79 + 9 * count
load_length seed count =
    omega (
      arith,
      length-append (opening ++ rounds 1 seed count) closing,
      length-append opening (rounds 1 seed count),
      opening_length,
      rounds_length 1 seed count,
    )
