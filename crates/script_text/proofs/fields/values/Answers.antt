use Rattle.std.proofs.Common.{◌≡◌, ◌<◌, ◌≤◌, length, take, subst, sym, ◌∙◌, arith, length-take-le, length-set}
use Rattle.std.specs.Prelude.{ℕ, List}
use Rattle.std.proofs.lemmas.List.{take_more_set}
use Rattle.script_text.proofs.ValueLemmas.{IsReadTo, number_fails, number_read, too_many_values, all_values}
use Rattle.script_text.proofs.fields.values.Goals as goal

pub returns-in_err-value : goal.returns-in_err-value
returns-in_err-value c =
    c.from_residual.ensures
    ∙ number_fails _ _ _ _ _ c.loop-word.invariant.read c.in-Some.ensures c.in_err-value.ensures

pub returns-then-count-eq-MOST : goal.returns-then-count-eq-MOST
returns-then-count-eq-MOST c =
    let fits : c.loop-word.count ≤ length c.loop-word.values = omega (arith, c.loop-word.invariant.cells) in
    let full : length (take c.loop-word.count c.loop-word.values) ≡ 8 =
    length-take-le c.loop-word.count c.loop-word.values fits ∙ omega arith in
    too_many_values _ _ _ _
    (number_read _ _ _ _ _ _ c.loop-word.invariant.read c.in-Some.ensures c.in_ok-value.ensures) full

pub loop-word-preserved : goal.loop-word-preserved
loop-word-preserved c =
    let fits : c.loop-word.count < length c.loop-word.values = omega (arith, c.loop-word.invariant.cells) in
    let grown = take_more_set c.loop-word.values c.loop-word.count c.in_ok-value.value fits in
    record {
      read = subst (λ (l : List ℕ). IsReadTo l c.next.new.self c.args.words.now) (sym grown)
          (number_read _ _ _ _ _ _ c.loop-word.invariant.read c.in-Some.ensures c.in_ok-value.ensures);
      most = omega arith;
      cells = length-set _ _ _ ∙ c.loop-word.invariant.cells;
    }

pub returns : goal.returns
returns c =
    c.of.ensures ∙ all_values _ _ _ c.loop-word.invariant.read c.in_default.ensures.0
