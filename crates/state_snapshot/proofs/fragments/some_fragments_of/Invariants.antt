use Rattle.std.proofs.Common.{◌≡◌, ◌-◌}
use Rattle.state_snapshot.specs.Reading.{each_at, fragment_at, no_fragments}
use Rattle.wsrep_base.proofs.Fields.{with_front}
use Rattle.state_snapshot.proofs.fragments.some_fragments_of.Given as goal

abbrev pub invariant-loop : goal.invariant-loop
invariant-loop l =
    with_front l.fragments (each_at (fragment_at l.most) (l.count - l.counter) (record { least = l.least; last_seen = l.last_seen; whole = l.whole }) l.rest) ≡ each_at (fragment_at l.fn.most) l.fn.count no_fragments l.fn.cursor
