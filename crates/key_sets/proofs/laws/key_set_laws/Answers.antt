use Rattle.key_sets.proofs.KeyLaws.{conflicts-symm, touches-symm, touches_from_conflicts, conflicts-union, touches-union, conflicts_from_covers}
use Rattle.key_sets.proofs.laws.key_set_laws.Goals as goal

pub returns : goal.returns
returns c = record {
  conflicts_both_ways = conflicts-symm;
  touches_both_ways = touches-symm;
  conflicts_touch = touches_from_conflicts;
  union_conflicts = conflicts-union;
  union_touches = touches-union;
  covered = conflicts_from_covers;
}
