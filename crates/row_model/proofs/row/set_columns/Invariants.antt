use Rattle.std.proofs.Common.{◌≡◌, ℕ, ◌++◌, List, Option, length, take, drop}
use Rattle.row_model.specs.Rows.{changed}
use Rattle.row_model.proofs.row.set_columns.Given as goal

-- the first `at` cells are set, and what is left of the change sets the others
pub record AreSet (at count : ℕ) (before cells : List ℕ) (change : List (Option ℕ)) : Type 0 where
  pub cells_are : length cells ≡ 8
  pub before_are : length before ≡ 8
  pub change_is : length change ≡ 8
  pub all : take at cells ++ changed (drop at (take count before)) (drop at change) ≡ changed (take count before) change
  pub rest : drop at cells ≡ drop at before

abbrev pub invariant-loop-at : goal.invariant-loop-at
invariant-loop-at l = AreSet l.at l.count l.initial.values l.values l.change
