use Rattle.std.proofs.Common.{◌≡◌, None, Some, cond, false, true, rules, arith, sym, ap, ◌∙◌}
use Rattle.std.specs.Prelude.{◌==◌}
use Rattle.std.proofs.lemmas.Bool.Decides.{nat_tests}
use Rattle.std.proofs.lemmas.List.{length-set}
use Rattle.script_text.proofs.ChangeLemmas.{none_is_set, pair_fails, column_set, column_refused, all_columns}
use Rattle.script_text.proofs.fields.change.Goals as goal
use Rattle.script_text.proofs.fields.change.Goals.{then-column-last-via-then-column-last, then-column-last-via-else-column-last+then-column-gt8}

pub returns-in_err-column : goal.returns-in_err-column
returns-in_err-column c =
    c.from_residual.ensures ∙ pair_fails _ _ _ _ _ _ c.loop-word.invariant.set c.in-Some.ensures c.in_err-column.ensures

pub returns-then-column-last : goal.returns-then-column-last
returns-then-column-last c =
    column_refused _ _ _ _ _ _ _ _ c.loop-word.invariant.set c.in-Some.ensures c.in_ok-column.ensures
    (elim c.then-column-last.branch [
      | then-column-last-via-then-column-last w ↦ grind (arith, nat_tests)
      | then-column-last-via-else-column-last+then-column-gt8 w ↦ grind (arith, nat_tests)
    ])

pub loop-word-init : goal.loop-word-init
loop-word-init c = record { set = none_is_set _; most = omega arith; cells = search rules }

pub loop-word-preserved : goal.loop-word-preserved
loop-word-preserved c = record {
  set = column_set _ _ _ _ _ _ _ _ c.loop-word.invariant.set c.in-Some.ensures c.in_ok-column.ensures (omega arith) (omega arith);
  most = omega arith;
  cells = length-set _ _ _ ∙ c.loop-word.invariant.cells;
}

pub returns-then-last-eq0 : goal.returns-then-last-eq0
returns-then-last-eq0 c =
    let none : (c.loop-word.last == 0) ≡ true = grind (arith, nat_tests) in
    sym (ap (λ b. cond b None (Some c.loop-word.change)) none)
    ∙ all_columns _ _ _ _ c.loop-word.invariant.set c.in_default.ensures.0

pub returns-else-last-eq0 : goal.returns-else-last-eq0
returns-else-last-eq0 c =
    let some : (c.loop-word.last == 0) ≡ false = grind (arith, nat_tests) in
    sym (ap (λ b. cond b None (Some c.loop-word.change)) some)
    ∙ all_columns _ _ _ _ c.loop-word.invariant.set c.in_default.ensures.0
