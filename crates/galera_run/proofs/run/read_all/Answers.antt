use Rattle.std.proofs.Common.{◌∙◌}
use Rattle.galera_run.proofs.Sources.{reads_both, reads_stop}
use Rattle.galera_run.proofs.run.read_all.Goals as goal

pub reads-preserved : goal.reads-preserved
reads-preserved g c = record {
  reads = reads_both _ _ _ _ _ _ _ _ _ c.reads.invariant.reads c.in-Ok-true.ensures.ok;
  sound = c.in-Ok-true.ensures.sound;
  source = c.in-Ok-true.ensures.read ∙ c.reads.invariant.source;
  sink = c.in-Ok-true.ensures.write ∙ c.reads.invariant.sink;
}

pub returns-in-Ok-false-clause-ok : goal.returns-in-Ok-false-clause-ok
returns-in-Ok-false-clause-ok g c = reads_both _ _ _ _ _ _ _ _ _ c.reads.invariant.reads c.in-Ok-false.ensures.ok

pub returns-in-Err-clause-err : goal.returns-in-Err-clause-err
returns-in-Err-clause-err g c = reads_stop _ _ _ _ _ _ _ _ c.in-Err.fault c.reads.invariant.reads c.in-Err.ensures.err
