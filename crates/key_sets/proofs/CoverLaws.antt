-- Which rows a set covers: of a union those of its parts, and two sets that cover one row conflict.
use Rattle.std.proofs.Common.{◌≡◌, ℕ, Bool, true, false, ◌||◌, cond, ◌⊎◌, inl, inr, List, Option, None, Some, refl, ap, ◌∙◌}
use Rattle.finite_map.specs.FiniteMap.{get}
use Rattle.key_sets.specs.declared.kind.Kind.{Kind}
use Rattle.key_sets.specs.declared.kind.Kind.TheVariants.{Shared, Update, Exclusive}
use Rattle.key_sets.specs.declared.parts.Parts.{Parts}
use Rattle.key_sets.specs.Kinds.{kinds_conflict, joined}
use Rattle.key_sets.specs.Parts.{table_of}
use Rattle.key_sets.specs.Keys.{Keys, conflicts, with_key, one_key, union}
use Rattle.key_sets.specs.Laws.{CoversConflict}
use Rattle.key_sets.specs.Meeting.{Has, Meets, is_exclusive, is_change, covers}
use Rattle.key_sets.proofs.KindLaws.{kinds_conflict-symm}
use Rattle.key_sets.proofs.PartsLemmas.{same_parts-itself}
use Rattle.key_sets.proofs.MeetLemmas.{met}
use Rattle.key_sets.proofs.UnionLemmas.{get-union}
use Rattle.key_sets.proofs.UnionLaws.{get-one_key, with_key-union}

is_change-joined : (o p : Option Kind) → is_change (joined o p) ≡ is_change o || is_change p
is_change-joined None None = refl
is_change-joined None (Some l) = refl
is_change-joined (Some Shared) None = refl
is_change-joined (Some Update) None = refl
is_change-joined (Some Exclusive) None = refl
is_change-joined (Some Shared) (Some l) = refl
is_change-joined (Some Update) (Some Shared) = refl
is_change-joined (Some Update) (Some Update) = refl
is_change-joined (Some Update) (Some Exclusive) = refl
is_change-joined (Some Exclusive) (Some l) = refl

is_exclusive-joined : (o p : Option Kind) → is_exclusive (joined o p) ≡ is_exclusive o || is_exclusive p
is_exclusive-joined None None = refl
is_exclusive-joined None (Some l) = refl
is_exclusive-joined (Some Shared) None = refl
is_exclusive-joined (Some Update) None = refl
is_exclusive-joined (Some Exclusive) None = refl
is_exclusive-joined (Some Shared) (Some l) = refl
is_exclusive-joined (Some Update) (Some Shared) = refl
is_exclusive-joined (Some Update) (Some Update) = refl
is_exclusive-joined (Some Update) (Some Exclusive) = refl
is_exclusive-joined (Some Exclusive) (Some l) = refl

mixed : (a b c d : Bool) → (a || b) || (c || d) ≡ (a || c) || (b || d)
mixed true b c d = refl
mixed false true true d = refl
mixed false true false d = refl
mixed false false c d = refl

-- a union covers what one of its parts covers
pub covers-union : (a b : Keys) (p : Parts) → covers (union a b) p ≡ covers a p || covers b p
covers-union a b p =
    (λ i. (ap is_change (get-union a b p) ∙ is_change-joined (get a p) (get b p)) i
    || (ap is_exclusive (get-union a b (table_of p)) ∙ is_exclusive-joined (get a (table_of p)) (get b (table_of p))) i)
    ∙ mixed (is_change (get a p)) (is_change (get b p)) (is_exclusive (get a (table_of p))) (is_exclusive (get b (table_of p)))

pub covers-with_key : (a : Keys) (p : Parts) (k : Kind) (q : Parts)
    → covers (with_key a p k) q ≡ covers a q || covers (one_key p k) q
covers-with_key a p k q = ap (λ keys. covers keys q) (with_key-union a p k) ∙ covers-union a (one_key p k) q

-- a key of kind update or exclusive covers its row
pub covers_one_key : (p : Parts) (k : Kind) → is_change (Some k) ≡ true → covers (one_key p k) p ≡ true
covers_one_key p k h =
    ap (λ o. is_change o || is_exclusive (get (one_key p k) (table_of p)))
    (get-one_key p k p ∙ ap (λ b. cond b (Some k) None) (same_parts-itself p))
    ∙ ap (λ b. b || is_exclusive (get (one_key p k) (table_of p))) h

-- kinds that change meet each other, and an exclusive key of the table meets each key of a row
changes_conflict : (k l : Kind) → is_change (Some k) ≡ true → is_change (Some l) ≡ true → kinds_conflict k l ≡ true
changes_conflict Shared l h g = cc
changes_conflict Update Shared h g = cc
changes_conflict Update Update h g = refl
changes_conflict Update Exclusive h g = refl
changes_conflict Exclusive l h g = refl

exclusive_conflicts : (k l : Kind) → is_exclusive (Some l) ≡ true → kinds_conflict k l ≡ true
exclusive_conflicts Shared Exclusive g = refl
exclusive_conflicts Update Exclusive g = refl
exclusive_conflicts Exclusive Exclusive g = refl
exclusive_conflicts k Shared g = cc
exclusive_conflicts k Update g = cc

some_change : (o : Option Kind) → is_change o ≡ true → (k : Kind) × (o ≡ Some k) × (is_change (Some k) ≡ true)
some_change None h = cc
some_change (Some k) h = (k, refl, h)

some_exclusive : (o : Option Kind) → is_exclusive o ≡ true → (k : Kind) × (o ≡ Some k) × (is_exclusive (Some k) ≡ true)
some_exclusive None h = cc
some_exclusive (Some k) h = (k, refl, h)

-- what a set has that covers a row
either_cover : (b c : Bool) → b || c ≡ true → (b ≡ true) ⊎ (c ≡ true)
either_cover true c h = inl refl
either_cover false c h = inr h

module _ (a b : Keys) (p : Parts) (name : List ℕ) (is_row : p.row ≡ Some name) where
  row_has : (keys : Keys) (k : Kind) → get keys p ≡ Some k → Has keys (table_of p) Shared
  row_has keys k has = inr (record {
    row = p;
    name = name;
    row_kind = k;
    has = has;
    is_row = is_row;
    at = refl;
    shared = refl;
  })

  cover_both : (is_change (get a p) ≡ true) ⊎ (is_exclusive (get a (table_of p)) ≡ true)
      → (is_change (get b p) ≡ true) ⊎ (is_exclusive (get b (table_of p)) ≡ true) → Meets kinds_conflict a b
  cover_both (inl one) (inl other) =
      let k = some_change (get a p) one in
      let l = some_change (get b p) other in
      record { at = p; one = k.0; other = l.0; has_one = inl k.1; has_other = inl l.1; passes = changes_conflict k.0 l.0 k.2 l.2 }
  cover_both (inl one) (inr other) =
      let k = some_change (get a p) one in
      let l = some_exclusive (get b (table_of p)) other in
      record { at = table_of p; one = Shared; other = l.0; has_one = row_has a k.0 k.1; has_other = inl l.1; passes = exclusive_conflicts Shared l.0 l.2 }
  cover_both (inr one) (inl other) =
      let k = some_exclusive (get a (table_of p)) one in
      let l = some_change (get b p) other in
      record { at = table_of p; one = k.0; other = Shared; has_one = inl k.1; has_other = row_has b l.0 l.1; passes = kinds_conflict-symm k.0 Shared ∙ exclusive_conflicts Shared k.0 k.2 }
  cover_both (inr one) (inr other) =
      let k = some_exclusive (get a (table_of p)) one in
      let l = some_exclusive (get b (table_of p)) other in
      record { at = table_of p; one = k.0; other = l.0; has_one = inl k.1; has_other = inl l.1; passes = exclusive_conflicts k.0 l.0 l.2 }

  from_covers : covers a p ≡ true → covers b p ≡ true → conflicts a b ≡ true
  from_covers one other =
      met kinds_conflict a b (cover_both (either_cover (is_change (get a p)) _ one) (either_cover (is_change (get b p)) _ other))

-- two sets that cover one row conflict
pub conflicts_from_covers : CoversConflict
conflicts_from_covers = from_covers
