-- One more column is set, or stays where the change does not name it.
use Rattle.std.proofs.Common.{◌≡◌, ℕ, suc, ◌+◌, ◌<◌, ◌≤◌, List, [], ◌∷◌, ◌++◌, length, take, drop, get_or, Option, None, Some, sym, ap, ◌∙◌, refl, subst, arith, add-one, append_assoc, drop-cons}
use Rattle.std.specs.Prelude.{unwrap_or}
use Rattle.std.proofs.lemmas.List.{length-take-le, get_or-take, take_more_set, drop-set-lt}
use Rattle.std.proofs.Math.Seq.{take-suc, take-suc-set}
use Rattle.row_model.specs.Rows.{changed}
use Rattle.row_model.proofs.row.set_columns.Invariants.{AreSet}
use Rattle.row_model.proofs.row.set_columns.Goals as goal
use Rattle.row_model.proofs.row.set_columns.Goals.{in-Some, in-None}

one_more : (at count : ℕ) (before cells after : List ℕ) (change : List (Option ℕ)) (c : Option ℕ)
    → at < count → count ≤ 8 → AreSet at count before cells change → get_or change at None ≡ c
    → take (suc at) after ≡ take at cells ++ unwrap_or c (get_or cells at 0) ∷ []
    → drop (suc at) after ≡ drop (suc at) cells → length after ≡ 8
    → AreSet (suc at) count before after change
one_more at count before cells after change c below most kept is takes drops long =
    let xs = take count before in
    let in_cells : at < length cells = rw kept.cells_are (omega arith) in
    let in_before : at < length before = rw kept.before_are (omega arith) in
    let in_change : at < length change = rw kept.change_is (omega arith) in
    let fits : count ≤ length before = rw kept.before_are most in
    let in_xs : at < length xs = rw (length-take-le count before fits) below in
    let ends : get_or cells at 0 ∷ drop (suc at) cells ≡ get_or before at 0 ∷ drop (suc at) before =
    sym (drop-cons cells at 0 in_cells) ∙ kept.rest ∙ drop-cons before at 0 in_before in
    let same : get_or before at 0 ≡ get_or cells at 0 = cc in
    let first : get_or xs at 0 ≡ get_or cells at 0 = get_or-take count before at 0 below ∙ same in
    let others = changed (drop (suc at) xs) (drop (suc at) change) in
    let step : changed (drop at xs) (drop at change) ≡ unwrap_or c (get_or cells at 0) ∷ others =
    ap (λ l. changed l (drop at change)) (drop-cons xs at 0 in_xs)
    ∙ ap (λ l. changed (get_or xs at 0 ∷ drop (suc at) xs) l) (drop-cons change at None in_change)
    ∙ ap (λ o. unwrap_or o (get_or xs at 0) ∷ others) is
    ∙ ap (λ v. unwrap_or c v ∷ others) first in
    record {
      cells_are = long;
      before_are = kept.before_are;
      change_is = kept.change_is;
      all = ap (λ l. l ++ others) takes ∙ append_assoc (take at cells) (unwrap_or c (get_or cells at 0) ∷ []) others
          ∙ ap (λ l. take at cells ++ l) (sym step) ∙ kept.all;
      rest = drops ∙ cc;
    }

pub loop-at-preserved : goal.loop-at-preserved
loop-at-preserved c =
    let kept = c.loop-at.invariant in
    let in_cells : c.loop-at.at < length c.loop-at.values = rw kept.cells_are (omega arith) in
    rw add-one (elim c.match-change-at.branch [
      | in-Some w ↦ one_more _ _ _ _ _ _ (Some w.in-Some.value) c.loop-at-test.true c.requires kept w.in-Some.is
          (rw w.values-is (take-suc-set c.loop-at.values c.loop-at.at w.in-Some.value in_cells))
          (rw w.values-is (drop-set-lt (suc c.loop-at.at) c.loop-at.values c.loop-at.at w.in-Some.value (omega arith)))
          c.match-change-at.array_long
      | in-None w ↦ one_more _ _ _ _ _ _ None c.loop-at-test.true c.requires kept w.in-None.is
          (rw w.values-is (take-suc c.loop-at.values c.loop-at.at 0 in_cells))
          (ap (drop (suc c.loop-at.at)) w.values-is)
          c.match-change-at.array_long
    ])
