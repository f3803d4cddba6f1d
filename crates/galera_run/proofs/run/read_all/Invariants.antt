use Rattle.std.proofs.Common.{◌≡◌, ◌-◌}
use Rattle.galera_run.specs.declared.line.TheConstants.{MOST_BYTES}
use Rattle.galera_run.specs.Feeding.{IsSound, Reads, read_count}
use Rattle.galera_run.proofs.run.read_all.Given as goal

abbrev pub invariant-reads : goal.invariant-reads
invariant-reads g l = record {
  reads : Reads (g.S.Source.left l.initial.input) (g.S.Source.left l.input) l.initial.script l.script
      (g.K.Sink.written l.initial.out) (g.K.Sink.written l.out);
  sound : IsSound l.script;
  source : g.S.Source.faults l.input ≡ g.S.Source.faults l.initial.input;
  sink : g.K.Sink.faults l.out ≡ g.K.Sink.faults l.initial.out;
}

abbrev pub decreases-reads : goal.decreases-reads
decreases-reads g l = MOST_BYTES - read_count l.script
