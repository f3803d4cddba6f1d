use Rattle.std.proofs.Common.{◌≡◌, ◌++◌, drop}
use Rattle.cert_meaning.specs.State.{no_events}
use Rattle.cert_meaning.specs.Fold.{judged_all}
use Rattle.cert_meaning.proofs.judging.verdicts.Given as goal

-- what became of the events so far, and what becomes of those that are left
abbrev pub invariant-loop-event : goal.invariant-loop-event
invariant-loop-event l = record {
  same : l.list ++ judged_all l.state (drop l.event-index l.events) ≡ judged_all no_events l.events;
  number : l.state.number ≡ l.event-index;
}
