use Rattle.std.proofs.Common.{◌≡◌, ◌-◌, None}
use Rattle.state_snapshot.specs.Reading.{each_at, open_at}
use Rattle.wsrep_base.proofs.Fields.{with_front}
use Rattle.state_snapshot.proofs.open_trx.some_open_of.Given as goal

abbrev pub invariant-loop : goal.invariant-loop
invariant-loop l =
    with_front l.open_trx (each_at (open_at l.most l.members) (l.count - l.counter) l.last l.rest) ≡ each_at (open_at l.fn.most l.fn.members) l.fn.count None l.fn.cursor
