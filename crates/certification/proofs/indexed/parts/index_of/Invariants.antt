use Rattle.std.proofs.Common.{◌≡◌, take}
use Rattle.cert_index.specs.Index.{entered}
use Rattle.certification.proofs.indexed.parts.index_of.Given as goal

-- the commits that were gone over are entered
abbrev pub invariant-loop-commit : goal.invariant-loop-commit
invariant-loop-commit l = l.index ≡ entered (take l.commit-index l.commits)
