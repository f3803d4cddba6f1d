use Rattle.std.proofs.Common.{◌≡◌, length}
use Rattle.galera_run.proofs.Writes.{Sends}
use Rattle.galera_run.proofs.output.write_piece.Given as goal

abbrev pub invariant-writes : goal.invariant-writes
invariant-writes g l = record {
  sends : Sends (g.K.Sink.written l.initial.out) (g.K.Sink.written l.out) l.piece l.rest;
  faults : g.K.Sink.faults l.out ≡ g.K.Sink.faults l.initial.out;
}

abbrev pub decreases-writes : goal.decreases-writes
decreases-writes g l = length l.rest
