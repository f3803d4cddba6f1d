use Rattle.std.proofs.Common.{◌≡◌, ◌<◌, ◌⊎◌, arith, inl, inr, take}
use Rattle.write_set.specs.Reading.{some_columns_at}
use Rattle.write_set.proofs.Loops.{column_ends, column_is_none, column_falls, value_ends, column_goes_on, more_empty, columns_done}
use Rattle.write_set.proofs.Steps.{is_fault}
use Rattle.write_set.proofs.changes.some_columns_of.Goals as goal
use Rattle.write_set.proofs.changes.some_columns_of.Goals.{then-column-eq0-via-then-column-eq0, then-column-eq0-via-else-column-eq0+then-column-gt8}

pub returns-in-Err : goal.returns-in-Err
returns-in-Err c =
    column_ends (take c.loop.last c.loop.change) c.args.count c.loop.counter c.loop.last c.loop.rest (some_columns_at c.args.count 0 c.args.cursor)
    c.loop-test.true c.loop.invariant.so_far c.in-Err.fault (is_fault c.in-Err.fault _ c.in-Err.ensures)

pub returns-then-column-eq0 : goal.returns-then-column-eq0
returns-then-column-eq0 c =
    let out : (c.in-Ok.number.0 ≡ 0) ⊎ (8 < c.in-Ok.number.0) = elim c.then-column-eq0.branch [
      | then-column-eq0-via-then-column-eq0 w ↦ inl w.if-column-eq0.true
      | then-column-eq0-via-else-column-eq0+then-column-gt8 w ↦ inr w.if-column-gt8.true
    ] in
    rw c.at-at.ensures.value (column_is_none (take c.loop.last c.loop.change) c.args.count c.loop.counter c.loop.last c.loop.rest (some_columns_at c.args.count 0 c.args.cursor)
    c.loop-test.true c.loop.invariant.so_far
    c.in-Ok.number.0 c.in-Ok.number.1 c.in-Ok.ensures out)

pub returns-then-column-last : goal.returns-then-column-last
returns-then-column-last c =
    rw c.at-at.ensures.value (column_falls (take c.loop.last c.loop.change) c.args.count c.loop.counter c.loop.last c.loop.rest (some_columns_at c.args.count 0 c.args.cursor)
    c.loop-test.true c.loop.invariant.so_far
    c.in-Ok.number.0 c.in-Ok.number.1 c.in-Ok.ensures (omega arith) (omega arith) c.if-column-last.true)

pub returns-in-Err-number64 : goal.returns-in-Err-number64
returns-in-Err-number64 c =
    value_ends (take c.loop.last c.loop.change) c.args.count c.loop.counter c.loop.last c.loop.rest (some_columns_at c.args.count 0 c.args.cursor)
    c.loop-test.true c.loop.invariant.so_far c.in-Err-number64.fault c.in-Ok.number.0 c.in-Ok.number.1 c.in-Ok.ensures (omega arith) (omega arith)
    (is_fault c.in-Err-number64.fault _ c.in-Err-number64.ensures)

pub loop-preserved : goal.loop-preserved
loop-preserved c =
    let column = c.in-Ok.number.0 in
    let value = c.in-Ok-number64.number.0 in
    rw c.from.ensures (record {
      cells = more_empty c.loop.last column value c.loop.change c.loop.invariant.cells c.if-column-last.false (omega arith);
      so_far = column_goes_on c.loop.change c.args.count c.loop.counter c.loop.last c.loop.rest column c.in-Ok.number.1 value
          c.in-Ok-number64.number.1 (some_columns_at c.args.count 0 c.args.cursor) c.loop-test.true c.loop.invariant.cells c.in-Ok.ensures
          c.if-column-last.false (omega arith) c.in-Ok-number64.ensures c.loop.invariant.so_far;
    })

pub returns : goal.returns
returns c =
    columns_done c.loop.change c.args.count c.loop.counter c.loop.last c.loop.rest (some_columns_at c.args.count 0 c.args.cursor)
    c.loop-test.false c.loop.invariant.cells c.loop.invariant.so_far
