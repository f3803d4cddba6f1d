use Rattle.std.proofs.Common.{◌≡◌, ◌-◌}
use Rattle.state_snapshot.specs.Reading.{each_at, member_at, no_members}
use Rattle.wsrep_base.proofs.Fields.{with_front}
use Rattle.state_snapshot.proofs.members.some_members_of.Given as goal

abbrev pub invariant-loop : goal.invariant-loop
invariant-loop l =
    with_front l.members (each_at (member_at l.head) (l.count - l.counter) l.so_far l.rest) ≡ each_at (member_at l.fn.head) l.fn.count (no_members l.fn.count) l.fn.cursor
