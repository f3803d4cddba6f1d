-- The names and values of each step of `load` are in the ranges of their types.
use Rattle.std.proofs.Common.{◌≡◌, ℕ, zero, suc, ◌+◌, ◌-◌, ◌%◌, ◌^◌, ◌<◌, ◌≤◌, Bool, true, false, cond, List, [], ◌∷◌, ◌++◌, length, map, replicate, Some, None, refl, arith, length-append}
use Rattle.std.specs.Prelude.{◌==◌, codes, decimal}
use Rattle.std.specs.List.{AllByRecursion, range_with_len}
use Rattle.std.proofs.lemmas.Fmt.{length-decimal-le}
use Rattle.std.proofs.lemmas.List.{length-replicate}
use Rattle.row_model.specs.Names.{padded}
use Rattle.order_event.specs.declared.step.Act.TheVariants as act
use Rattle.order_event.specs.declared.step.Step.{Step}
use Rattle.write_set.specs.Rules.{place_in_range, IsCell}
use Rattle.node_laws.proofs.ClusterLaws.{ActFits}
use Rattle.script_text.specs.declared.rounds.Round.{Round}
use Rattle.script_text.specs.Steps.{IsRunnable}
use Rattle.script_text.specs.Load.{drawn, account, each_does, inserts, insert_committed, opening, closing, number_at, round_of, round_steps, rounds, load_steps}
use Rattle.script_text.proofs.LoadLaws.{load_runs}
use Rattle.galera_run.proofs.LineRanges.{InRange, both_fit}

abbrev Ranged : Step → Type 0
Ranged step = InRange step.act

both_ranged : (xs ys : List Step) → AllByRecursion Ranged xs → AllByRecursion Ranged ys
    → AllByRecursion Ranged (xs ++ ys)
both_ranged [] ys p q = q
both_ranged (x ∷ xs) ys p q = (p.0, both_ranged xs ys p.1 q)

-- ---- names
padded_length : (name : List ℕ) → length name ≤ 16 → length (padded name) ≡ 16
padded_length name most =
    omega (
      arith,
      length-append name (replicate (16 - length name) 0),
      length-replicate {A = ℕ} (16 - length name) 0,
      most,
    )

account_is : (j : ℕ) → j < 64 → place_in_range (account j)
account_is j few =
    let short = length-decimal-le 2 j (omega arith) (omega arith) (omega (arith, few)) in
    let long : length (codes "r" ++ decimal j) ≡ 1 + length (decimal j) =
    length-append (codes "r") (decimal j) in (
      padded_length (codes "acct") (omega arith),
      padded_length (codes "r" ++ decimal j) (omega (arith, long, short)),
    )

-- ---- parts
rows_are : (a n : ℕ) → a + n ≤ 64 → AllByRecursion Ranged (map inserts (range_with_len a n))
rows_are a zero few = tt
rows_are a (suc n) few = (
  (account_is a (omega (arith, few)), omega arith, omega arith, (omega arith, tt)),
  rows_are (a + 1) n (omega (arith, few)),
)

opening_is : AllByRecursion Ranged opening
unfolding opening
opening_is =
    let committed : AllByRecursion Ranged insert_committed = (tt, (tt, (tt, (tt, (tt, tt))))) in
    let rows = both_ranged (map inserts (range_with_len 0 64)) insert_committed
    (rows_are 0 64 (omega arith)) committed in
    (tt, (tt, (tt, (tt, rows))))

closing_is : AllByRecursion Ranged closing
closing_is = (tt, (tt, (tt, (tt, (tt, (tt, tt))))))

-- a round over 64 rows, with a number in range
record IsWithin (r : Round) : Type 0 where
  first_row : r.first < 64
  second_row : r.second < 64
  number : r.number < 2 ^ 64

is_drawn : (i x : ℕ) → i < 2 ^ 64 → IsWithin (round_of i x)
unfolding drawn
is_drawn i x small = record {
  first_row = omega arith;
  second_row = omega arith;
  number = small;
}

reports_of : (b : Bool) → AllByRecursion Ranged (cond b (each_does act.Report) [])
reports_of true = (tt, (tt, (tt, tt)))
reports_of false = tt

round_is : (r : Round) → IsWithin r → AllByRecursion Ranged (round_steps r)
round_is r w =
    let cells : AllByRecursion IsCell (Some r.number ∷ replicate 7 None) =
    (w.number, (tt, (tt, (tt, (tt, (tt, (tt, (tt, tt)))))))) in (
      tt,
      (
        tt,
        (
          (account_is r.first w.first_row, refl, cells),
          (
            (account_is r.second w.second_row, refl, cells),
            (tt, (tt, reports_of (r.number % 16 == 0))),
          ),
        ),
      ),
    )

rounds_are : (i x left : ℕ) → i + left ≤ 2 ^ 32 → AllByRecursion Ranged (rounds i x left)
unfolding rounds
rounds_are i x zero few = tt
rounds_are i x (suc left) few =
    both_ranged (round_steps (round_of i x)) (rounds (i + 1) (number_at 6 x) left)
    (round_is (round_of i x) (is_drawn i x (omega (arith, few))))
    (rounds_are (i + 1) (number_at 6 x) left (omega (arith, few)))

all_ranged : (seed count : ℕ) → count ≤ 30_000 → AllByRecursion Ranged (load_steps seed count)
all_ranged seed count few =
    both_ranged (opening ++ rounds 1 seed count) closing
    (both_ranged opening (rounds 1 seed count) opening_is
    (rounds_are 1 seed count (omega (arith, few)))) closing_is

-- ---- names in their form too
all_fit : (steps : List Step) → AllByRecursion (IsRunnable 3) steps → AllByRecursion Ranged steps
    → AllByRecursion (λ (step : Step). ActFits step.act) steps
all_fit [] runs ranged = tt
all_fit (step ∷ steps) runs ranged =
    (both_fit step.act runs.0.1 ranged.0, all_fit steps runs.1 ranged.1)

-- each step of `load` is one that the laws of runs take
pub load_fits : (seed count : ℕ) → count ≤ 30_000
    → AllByRecursion (λ (step : Step). ActFits step.act) (load_steps seed count)
load_fits seed count few =
    all_fit (load_steps seed count) (load_runs seed count) (all_ranged seed count few)
