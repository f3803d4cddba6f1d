use Rattle.std.proofs.Common.{◌≡◌, ◌++◌}
use Rattle.std.specs.VecDeque.Iter.{deque_iter_rest}
use Rattle.certification.proofs.indexed.parts.copied.Given as goal

-- the commits so far, and those that are left
abbrev pub invariant-loop-commit : goal.invariant-loop-commit
invariant-loop-commit l = l.same ++ deque_iter_rest l.commit-iterator ≡ l.commits.items
