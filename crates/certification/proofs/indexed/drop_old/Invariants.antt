use Rattle.std.proofs.Common.{◌≡◌, length}
use Rattle.cert_meaning.specs.State.{Rise}
use Rattle.certification.specs.Certifies.{commits_above}
use Rattle.certification.proofs.indexed.drop_old.Given as goal

-- of what is left the same commits are above
abbrev pub invariant-loop-oldest : goal.invariant-loop-oldest
invariant-loop-oldest l = record {
  same : commits_above l.to l.commits.items ≡ commits_above l.to l.initial.commits.items;
  rise : Rise l.commits.items;
}

abbrev pub decreases-loop-oldest : goal.decreases-loop-oldest
decreases-loop-oldest l = length l.commits.items
