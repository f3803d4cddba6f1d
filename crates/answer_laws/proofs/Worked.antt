-- The worked run and the worked course tell these answers.
use Rattle.std.proofs.Common.{refl, arith}
use Rattle.std.specs.Prelude.{[], ◌∷◌, Some, None, true, false, replicate}
use Rattle.row_model.specs.declared.calls.Call.TheVariants as call
use Rattle.node_meaning.specs.Facts.{CallInRange}
use Rattle.answer_laws.specs.Worked.{computing_answers, row, other, third, FirstCommits, SecondFails, LeavingFits, LeavingTells, LeavesWithView, JoiningFits, JoiningTells, JoinsWithView, TakesState}

first_commits : FirstCommits
unfolding computing_answers
first_commits = refl

second_fails : SecondFails
unfolding computing_answers
second_fails = refl

-- the values are in range
in_row : CallInRange (call.Insert row (100 ∷ []))
unfolding computing_answers
in_row = ((refl, refl), omega arith, omega arith, (omega arith, tt))

in_change : CallInRange (call.Update row (Some 70 ∷ replicate 7 None))
unfolding computing_answers
in_change =
    ((refl, refl), refl, (omega arith, (tt, (tt, (tt, (tt, (tt, (tt, (tt, tt)))))))))

in_other : CallInRange (call.Insert other (5 ∷ []))
unfolding computing_answers
in_other = ((refl, refl), omega arith, omega arith, (omega arith, tt))

leaving_fits : LeavingFits
unfolding computing_answers
leaving_fits = search (in_row, in_change, in_other)

leaving_tells : LeavingTells
unfolding computing_answers
leaving_tells = refl

leaves_with_view : LeavesWithView
unfolding computing_answers
leaves_with_view = refl

in_third : CallInRange (call.Insert third (7 ∷ []))
unfolding computing_answers
in_third = ((refl, refl), omega arith, omega arith, (omega arith, tt))

joining_fits : JoiningFits
unfolding computing_answers
joining_fits fresh = search (in_row, in_other, in_third)

joining_tells : JoiningTells
unfolding computing_answers
joining_tells true = refl
joining_tells false = refl

joins_with_view : JoinsWithView
unfolding computing_answers
joins_with_view true = refl
joins_with_view false = refl

takes_state : TakesState
unfolding computing_answers
takes_state = (refl, refl)
