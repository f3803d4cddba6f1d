use Rattle.std.proofs.Common.{arith, ◌<◌, ◌≡◌, ◌∙◌, ap, take, length, Ok}
use Rattle.std.specs.Int.{w64}
use Rattle.std.proofs.lemmas.List.{take_more_set, length-set}
use Rattle.write_set.specs.Reading.{many_at, number_at}
use Rattle.write_set.proofs.Loops.{goes_on, ends, is_done}
use Rattle.write_set.proofs.Steps.{is_fault}
use Rattle.write_set.proofs.changes.some_values_of.Goals as goal

pub returns-in-Err : goal.returns-in-Err
returns-in-Err c =
    ends (number_at w64) c.in-Err.fault (take c.loop-at.at c.loop-at.cells) c.args.count c.loop-at.at c.loop-at.rest
    (many_at (number_at w64) c.args.count c.args.cursor) c.loop-at-test.true (is_fault c.in-Err.fault _ c.in-Err.ensures) c.loop-at.invariant.so_far

pub loop-at-preserved : goal.loop-at-preserved
loop-at-preserved c =
    let cells = c.loop-at.cells in
    let at = c.loop-at.at in
    let in_cells : at < length cells = rw c.loop-at.invariant.all (omega arith) in
    rw c.from.ensures (record {
      all = length-set cells at c.in-Ok.number.0 ∙ c.loop-at.invariant.all;
      so_far = rw (take_more_set cells at c.in-Ok.number.0 in_cells) (goes_on (number_at w64) (take at cells) c.args.count at c.loop-at.rest
          c.in-Ok.number.0 c.in-Ok.number.1 (many_at (number_at w64) c.args.count c.args.cursor) c.loop-at-test.true c.in-Ok.ensures
          c.loop-at.invariant.so_far);
    })

pub returns : goal.returns
returns c =
    let ended : c.loop-at.at ≡ c.args.count = omega arith in
    is_done (number_at w64) (take c.loop-at.at c.loop-at.cells) c.args.count c.loop-at.at c.loop-at.rest
    (many_at (number_at w64) c.args.count c.args.cursor) c.loop-at-test.false c.loop-at.invariant.so_far
    ∙ ap (λ n. Ok (take n c.loop-at.cells, c.loop-at.rest)) ended
