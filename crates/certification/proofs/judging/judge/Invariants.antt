use Rattle.std.proofs.Common.{◌≡◌, ◌++◌, drop}
use Rattle.cert_meaning.specs.State.{no_events}
use Rattle.cert_meaning.specs.Fold.{judged_all, state_at}
use Rattle.certification.specs.Certifies.{Certifies}
use Rattle.certification.proofs.judging.judge.Given as goal

-- what became of the events so far, which are committed, and what becomes of those that are left
abbrev pub invariant-loop-event : goal.invariant-loop-event
invariant-loop-event l = record {
  number : l.number ≡ l.event-index;
  certifies : Certifies l.events l.number l.number l.part;
  same : l.list ++ judged_all (state_at l.events l.number) (drop l.number l.events) ≡ judged_all no_events l.events;
}
