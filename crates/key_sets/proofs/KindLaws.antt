-- The laws of the kinds: both relations are symmetric, a conflict is a touch, and a stronger kind meets what either meets.
use Rattle.std.proofs.Common.{◌≡◌, true, refl}
use Rattle.key_sets.specs.declared.kind.Kind.{Kind}
use Rattle.key_sets.specs.declared.kind.Kind.TheVariants.{Shared, Update, Exclusive}
use Rattle.key_sets.specs.Kinds.{kinds_conflict, kinds_touch}
use Rattle.key_sets.specs.Laws.{IsSymmetric, IsRising}

pub kinds_conflict-symm : IsSymmetric kinds_conflict
kinds_conflict-symm Shared Shared = refl
kinds_conflict-symm Shared Update = refl
kinds_conflict-symm Shared Exclusive = refl
kinds_conflict-symm Update Shared = refl
kinds_conflict-symm Update Update = refl
kinds_conflict-symm Update Exclusive = refl
kinds_conflict-symm Exclusive Shared = refl
kinds_conflict-symm Exclusive Update = refl
kinds_conflict-symm Exclusive Exclusive = refl

pub kinds_touch-symm : IsSymmetric kinds_touch
kinds_touch-symm Shared Shared = refl
kinds_touch-symm Shared Update = refl
kinds_touch-symm Shared Exclusive = refl
kinds_touch-symm Update Shared = refl
kinds_touch-symm Update Update = refl
kinds_touch-symm Update Exclusive = refl
kinds_touch-symm Exclusive Shared = refl
kinds_touch-symm Exclusive Update = refl
kinds_touch-symm Exclusive Exclusive = refl

-- kinds that conflict also touch
pub touch_from_conflict : (k l : Kind) → kinds_conflict k l ≡ true → kinds_touch k l ≡ true
touch_from_conflict Shared Shared h = h
touch_from_conflict Shared Update h = refl
touch_from_conflict Shared Exclusive h = refl
touch_from_conflict Update l h = refl
touch_from_conflict Exclusive l h = refl

pub kinds_conflict-rising : IsRising kinds_conflict
kinds_conflict-rising Shared l Shared = refl
kinds_conflict-rising Shared l Update = refl
kinds_conflict-rising Shared Shared Exclusive = refl
kinds_conflict-rising Shared Update Exclusive = refl
kinds_conflict-rising Shared Exclusive Exclusive = refl
kinds_conflict-rising Update Shared Shared = refl
kinds_conflict-rising Update Shared Update = refl
kinds_conflict-rising Update Shared Exclusive = refl
kinds_conflict-rising Update Update Shared = refl
kinds_conflict-rising Update Update Update = refl
kinds_conflict-rising Update Update Exclusive = refl
kinds_conflict-rising Update Exclusive Shared = refl
kinds_conflict-rising Update Exclusive Update = refl
kinds_conflict-rising Update Exclusive Exclusive = refl
kinds_conflict-rising Exclusive l other = refl

pub kinds_touch-rising : IsRising kinds_touch
kinds_touch-rising Shared l Shared = refl
kinds_touch-rising Shared Shared Update = refl
kinds_touch-rising Shared Update Update = refl
kinds_touch-rising Shared Exclusive Update = refl
kinds_touch-rising Shared Shared Exclusive = refl
kinds_touch-rising Shared Update Exclusive = refl
kinds_touch-rising Shared Exclusive Exclusive = refl
kinds_touch-rising Update Shared other = refl
kinds_touch-rising Update Update other = refl
kinds_touch-rising Update Exclusive other = refl
kinds_touch-rising Exclusive l other = refl
