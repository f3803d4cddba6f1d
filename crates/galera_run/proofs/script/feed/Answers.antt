use Rattle.std.proofs.Common.{arith, ◌∙◌}
use Rattle.galera_run.proofs.Readings.{stops_within, feeds_more}
use Rattle.galera_run.proofs.script.feed.Goals as goal

pub returns-in-Err-clause-err : goal.returns-in-Err-clause-err
returns-in-Err-clause-err g c =
    stops_within c.args.script.now c.bytes.script c.bytes.byte-index c.args.piece.now _ _ _ c.in-Err.fault
    c.bytes-test.true c.bytes.invariant.feeds c.in-Err.ensures.err

pub bytes-preserved : goal.bytes-preserved
bytes-preserved g c = record {
  feeds = feeds_more c.args.script.now c.bytes.script c.take_byte.new.script c.bytes.byte-index c.args.piece.now _ _ _
      c.bytes-test.true c.bytes.invariant.feeds c.in_default.ensures.ok;
  sound = c.in_default.ensures.sound;
  count = omega (arith, c.in_default.ensures.count, c.bytes.invariant.count);
  faults = c.in_default.ensures.cause ∙ c.bytes.invariant.faults;
}
