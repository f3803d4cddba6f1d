use Rattle.std.proofs.Common.{◌≡◌, ◌-◌}
use Rattle.state_snapshot.specs.Reading.{each_at, commit_at}
use Rattle.wsrep_base.proofs.Fields.{with_front}
use Rattle.state_snapshot.proofs.commits.some_commits_of.Given as goal

abbrev pub invariant-loop : goal.invariant-loop
invariant-loop l =
    with_front l.commits (each_at (commit_at l.head.number) (l.count - l.counter) l.last l.rest) ≡ each_at (commit_at l.fn.head.number) l.fn.count l.fn.head.floor l.fn.cursor
