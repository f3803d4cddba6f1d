use Rattle.std.proofs.Common.{◌∙◌}
use Rattle.galera_run.proofs.Writes.{sends_more, sends_front, drop_rest, front_of_part, at_err}
use Rattle.galera_run.proofs.output.write_lines.Goals as goal

pub returns-in_err-write_piece-clause-err : goal.returns-in_err-write_piece-clause-err
returns-in_err-write_piece-clause-err g c =
    at_err c.from_residual.result
    (sends_front _ _ _ _ _ c.lines.invariant.sends
    (front_of_part _ _ c.first_line_len-len.result c.lines.rest.now c.in_err-write_piece.ensures.err))

pub lines-preserved : goal.lines-preserved
lines-preserved g c = record {
  sends = rw (drop_rest c.first_line_len-len.result c.lines.rest.now)
      (sends_more _ _ _ _ _ _ c.lines.invariant.sends c.in_ok-write_piece.ensures.ok);
  faults = c.in_ok-write_piece.ensures.cause ∙ c.lines.invariant.faults;
}
