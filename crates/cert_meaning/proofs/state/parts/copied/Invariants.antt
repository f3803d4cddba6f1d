use Rattle.std.proofs.Common.{◌≡◌, take}
use Rattle.cert_meaning.proofs.state.parts.copied.Given as goal

abbrev pub invariant-loop-commit : goal.invariant-loop-commit
invariant-loop-commit l = l.same ≡ take l.commit-index l.commits
