use Rattle.std.proofs.Common.{◌≡◌, ◌++◌, length, take}
use Rattle.std.specs.List.{flat_map}
use Rattle.std.specs.Int.{w32, to_be_bytes}
use Rattle.state_snapshot.specs.Spelling.{commit_text}
use Rattle.state_snapshot.proofs.writing.put_commits.Given as goal

abbrev pub invariant-loop-commit : goal.invariant-loop-commit
invariant-loop-commit l = l.out ≡ l.fn.out ++ (to_be_bytes w32 (length l.commits) ++ flat_map commit_text (take l.commit-index l.commits))
