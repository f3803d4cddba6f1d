use Rattle.std.proofs.Common.{◌≡◌, ◌+◌, take}
use Rattle.galera_run.specs.Feeding.{IsSound, Feeds, read_count}
use Rattle.galera_run.proofs.script.feed.Given as goal

abbrev pub invariant-bytes : goal.invariant-bytes
invariant-bytes g l = record {
  feeds : Feeds l.initial.script l.script (take l.byte-index l.piece) (g.K.Sink.written l.initial.out) (g.K.Sink.written l.out);
  sound : IsSound l.script;
  count : read_count l.script ≡ read_count l.initial.script + l.byte-index;
  faults : g.K.Sink.faults l.out ≡ g.K.Sink.faults l.initial.out;
}
