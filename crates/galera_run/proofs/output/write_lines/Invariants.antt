use Rattle.std.proofs.Common.{◌≡◌, length}
use Rattle.galera_run.proofs.Writes.{Sends}
use Rattle.galera_run.proofs.output.write_lines.Given as goal

abbrev pub invariant-lines : goal.invariant-lines
invariant-lines g l = record {
  sends : Sends (g.K.Sink.written l.initial.out) (g.K.Sink.written l.out) l.text l.rest;
  faults : g.K.Sink.faults l.out ≡ g.K.Sink.faults l.initial.out;
}

abbrev pub decreases-lines : goal.decreases-lines
decreases-lines g l = length l.rest
