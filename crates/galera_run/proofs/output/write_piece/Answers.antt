use Rattle.std.proofs.Common.{◌∙◌}
use Rattle.galera_run.proofs.Writes.{sends_more, drop_rest}
use Rattle.galera_run.proofs.output.write_piece.Goals as goal

pub writes-preserved : goal.writes-preserved
writes-preserved g c = record {
  sends = rw (drop_rest c.in_ok-count.count c.writes.rest.now)
      (sends_more _ _ _ _ _ _ c.writes.invariant.sends c.in_ok-count.ensures.bytes);
  faults = c.in_ok-count.ensures.cause ∙ c.writes.invariant.faults;
}
