use Rattle.std.proofs.Common.{◌≡◌}
use Rattle.cert_meaning.specs.State.{Rise}
use Rattle.cert_meaning.specs.Search.{are_related, greatest_related}
use Rattle.cert_meaning.proofs.search.greatest_related.Given as goal

-- the greatest one is among the commits that are left, whose numbers rise
abbrev pub invariant-loop-commit : goal.invariant-loop-commit
invariant-loop-commit l = record {
  same : greatest_related (are_related l.relation) l.commit-iterator.iter.rest.now l.above l.keys
      ≡ greatest_related (are_related l.relation) l.commits l.above l.keys;
  rise : Rise l.commit-iterator.iter.rest.now;
}
