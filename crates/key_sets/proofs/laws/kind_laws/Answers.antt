use Rattle.key_sets.proofs.KindLaws.{kinds_conflict-symm, kinds_touch-symm, touch_from_conflict, kinds_conflict-rising, kinds_touch-rising}
use Rattle.key_sets.proofs.laws.kind_laws.Goals as goal

pub returns : goal.returns
returns c = record {
  conflict_both_ways = kinds_conflict-symm;
  touch_both_ways = kinds_touch-symm;
  conflict_touches = touch_from_conflict;
  stronger_conflicts = kinds_conflict-rising;
  stronger_touches = kinds_touch-rising;
}
