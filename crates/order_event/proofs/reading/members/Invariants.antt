use Rattle.std.proofs.Common.{◌≡◌, ◌-◌, None}
use Rattle.wsrep_base.proofs.Fields.{with_front}
use Rattle.order_event.specs.Reading.{members_at}
use Rattle.order_event.proofs.reading.members.Given as goal

abbrev pub invariant-loop : goal.invariant-loop
invariant-loop l =
    with_front l.members (members_at (l.count - l.counter) l.before l.rest)
    ≡ members_at l.count None l.fn.cursor
