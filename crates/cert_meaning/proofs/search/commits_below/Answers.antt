use Rattle.std.proofs.Common.{rules}
use Rattle.std.specs.Prelude.{nat_lt}
use Rattle.std.proofs.lemmas.List.Sorted.{IsPartitionPoint-from_clause, IsPartitionedBy-ltb}
use Rattle.cert_meaning.specs.State.{CommitItem}
use Rattle.cert_meaning.proofs.HalvesLemmas.{never_falls, taken}
use Rattle.cert_meaning.proofs.search.commits_below.Goals as goal

-- the closure tells whether a commit's number is below the given one
pub returns : goal.returns
returns c =
    let facts = c.partition_point-count.ensures in
    let parted = IsPartitionedBy-ltb (λ (commit : CommitItem). commit.number) c.args.commits.now c.args.number
    (never_falls 0 c.requires.0 c.args.commits.now c.requires.1) in
    taken (λ (commit : CommitItem). nat_lt commit.number c.args.number) c.args.commits.now c.partition_point-count.result facts.bound
    (IsPartitionPoint-from_clause (λ (commit : CommitItem). nat_lt commit.number c.args.number) _ _ facts.partitioned parted (λ a r q k. search rules))
