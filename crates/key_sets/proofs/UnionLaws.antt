-- The union of two key sets: it meets what either meets, and either may come first.
use Rattle.std.proofs.Common.{◌≡◌, ◌≤◌, Bool, true, false, ◌||◌, cond, ◌⊎◌, inl, inr, Option, None, Some, refl, sym, ap, subst, ◌∙◌}
use Rattle.finite_map.specs.FiniteMap.{get, len, empty, get-empty, get-insert, same_map}
use Rattle.key_sets.specs.declared.kind.Kind.{Kind}
use Rattle.key_sets.specs.declared.kind.Kind.TheVariants.{Shared, Update, Exclusive}
use Rattle.key_sets.specs.declared.parts.Parts.{Parts}
use Rattle.key_sets.specs.Kinds.{raised, joined, stronger}
use Rattle.key_sets.specs.Parts.{parts_cmp, same_parts}
use Rattle.key_sets.specs.Keys.{Keys, meet, with_key, one_key, union}
use Rattle.key_sets.specs.Meeting.{Has, HasRow}
use Rattle.key_sets.specs.Laws.{IsRising}
use Rattle.key_sets.proofs.ListLemmas.{same_answer}
use Rattle.key_sets.proofs.PartsLemmas.{parts_total, parts_exact, same_parts-exact}
use Rattle.key_sets.proofs.WithKey.{get-with_key}
use Rattle.key_sets.proofs.UnionLemmas.{get-union, len-with_keys-le}
use Rattle.key_sets.proofs.MeetLemmas.{from_meet, met}

stronger-symm : (k l : Kind) → stronger k l ≡ stronger l k
stronger-symm Shared Shared = refl
stronger-symm Shared Update = refl
stronger-symm Shared Exclusive = refl
stronger-symm Update Shared = refl
stronger-symm Update Update = refl
stronger-symm Update Exclusive = refl
stronger-symm Exclusive Shared = refl
stronger-symm Exclusive Update = refl
stronger-symm Exclusive Exclusive = refl

joined-symm : (o p : Option Kind) → joined o p ≡ joined p o
joined-symm None None = refl
joined-symm None (Some l) = refl
joined-symm (Some k) None = refl
joined-symm (Some k) (Some l) = ap Some (stronger-symm k l)

-- either set may come first
pub union-symm : (a b : Keys) → union a b ≡ union b a
union-symm a b = same_map parts_total parts_exact _ _ (λ q.
    get-union a b q ∙ joined-symm (get a q) (get b q) ∙ sym (get-union b a q))

-- a union has at least as many keys as each of its parts
pub len-union-left : (a b : Keys) → len a ≤ len (union a b)
len-union-left a b = len-with_keys-le a b.entries

pub len-union-right : (a b : Keys) → len b ≤ len (union a b)
len-union-right a b = subst (λ (keys : Keys). len b ≤ len keys) (union-symm b a) (len-union-left b a)

-- the union with an empty set
pub union-empty : (a : Keys) → union a empty ≡ a
union-empty a = same_map parts_total parts_exact _ _ (λ q.
    get-union a empty q ∙ ap (joined (get a q)) (get-empty parts_cmp q))

-- what a set of one key has
pub get-one_key : (p : Parts) (k : Kind) (q : Parts) → get (one_key p k) q ≡ cond (same_parts q p) (Some k) None
get-one_key p k q = get-insert parts_total empty p k q ∙ ap (cond (same_parts q p) (Some k)) (get-empty parts_cmp q)

added : (a : Keys) (p : Parts) (k : Kind) (q : Parts) (b : Bool) → same_parts q p ≡ b
    → cond b (Some (raised (get a p) k)) (get a q) ≡ joined (get a q) (cond b (Some k) None)
added a p k q true same = ap (λ r. Some (raised (get a r) k)) (sym (same_parts-exact q p same))
added a p k q false same = refl

-- to add a key is to join with the set of that key
pub with_key-union : (a : Keys) (p : Parts) (k : Kind) → with_key a p k ≡ union a (one_key p k)
with_key-union a p k = same_map parts_total parts_exact _ _ (λ q.
    get-with_key a p k q ∙ added a p k q (same_parts q p) refl
    ∙ ap (joined (get a q)) (sym (get-one_key p k q)) ∙ sym (get-union a (one_key p k) q))

either_true : (b c : Bool) → b || c ≡ true → (b ≡ true) ⊎ (c ≡ true)
either_true true c h = inl refl
either_true false c h = inr h

true_left : (b c : Bool) → b ≡ true → b || c ≡ true
true_left true c h = refl
true_left false c h = cc

true_right : (b c : Bool) → c ≡ true → b || c ≡ true
true_right true c h = refl
true_right false c h = h

-- a kind there that passes
abbrev PassesAt : (Kind → Kind → Bool) → Option Kind → Kind → Type 0
PassesAt test o other = (k : Kind) × (o ≡ Some k) × (test k other ≡ true)

module _ (test : Kind → Kind → Bool) (rising : IsRising test) where
  of_joined : (o p : Option Kind) (k other : Kind) → joined o p ≡ Some k → test k other ≡ true
      → PassesAt test o other ⊎ PassesAt test p other
  of_joined o None k other is h = inl (k, is, h)
  of_joined None (Some l) k other is h = inr (k, is, h)
  of_joined (Some m) (Some l) k other is h =
      let kinds : stronger m l ≡ k = cc in
      elim (either_true (test m other) (test l other) (sym (rising m l other) ∙ ap (λ n. test n other) kinds ∙ h)) [
        | inl first ↦ inl (m, refl, first)
        | inr second ↦ inr (l, refl, second)
      ]

  in_joined_left : (m : Kind) (p : Option Kind) (other : Kind) → test m other ≡ true → PassesAt test (joined (Some m) p) other
  in_joined_left m None other h = (m, refl, h)
  in_joined_left m (Some l) other h =
      (stronger m l, refl, rising m l other ∙ true_left (test m other) (test l other) h)

  in_joined_right : (o : Option Kind) (l other : Kind) → test l other ≡ true → PassesAt test (joined o (Some l)) other
  in_joined_right None l other h = (l, refl, h)
  in_joined_right (Some m) l other h =
      (stronger m l, refl, rising m l other ∙ true_right (test m other) (test l other) h)

-- the row's key is in the one set or in the other
some_joined : (o p : Option Kind) (k : Kind) → joined o p ≡ Some k
    → ((m : Kind) × (o ≡ Some m)) ⊎ ((l : Kind) × (p ≡ Some l))
some_joined o None k is = inl (k, is)
some_joined o (Some l) k is = inr (l, refl)

joined_some_left : (m : Kind) (p : Option Kind) → (k : Kind) × (joined (Some m) p ≡ Some k)
joined_some_left m None = (m, refl)
joined_some_left m (Some l) = (stronger m l, refl)

joined_some_right : (o : Option Kind) (l : Kind) → (k : Kind) × (joined o (Some l) ≡ Some k)
joined_some_right o l = (raised o l, refl)

at_row : (a : Keys) {b : Keys} {q : Parts} {k : Kind} (r : HasRow b q k) (m : Kind) → get a r.row ≡ Some m → HasRow a q k
at_row a r m has = record {
  row = r.row;
  name = r.name;
  row_kind = m;
  has = has;
  is_row = r.is_row;
  at = r.at;
  shared = r.shared;
}

module _ (test : Kind → Kind → Bool) (rising : IsRising test) (a b c : Keys) where
  meets_at : (keys : Keys) (at : Parts) (k other : Kind) → Has keys at k → Has c at other → test k other ≡ true
      → meet test keys c ≡ true
  meets_at keys at k other has there h =
      met test keys c (record { at = at; one = k; other = other; has_one = has; has_other = there; passes = h })

  either_meets : (at : Parts) (k other : Kind) → Has (union a b) at k → Has c at other → test k other ≡ true
      → (meet test a c ≡ true) ⊎ (meet test b c ≡ true)
  either_meets at k other (inl has) there h =
      elim (of_joined test rising (get a at) (get b at) k other (sym (get-union a b at) ∙ has) h) [
        | inl one ↦ inl (meets_at a at one.0 other (inl one.1) there one.2)
        | inr one ↦ inr (meets_at b at one.0 other (inl one.1) there one.2)
      ]
  either_meets at k other (inr r) there h =
      elim (some_joined (get a r.row) (get b r.row) r.row_kind (sym (get-union a b r.row) ∙ r.has)) [
        | inl one ↦ inl (meets_at a at k other (inr (at_row a r one.0 one.1)) there h)
        | inr one ↦ inr (meets_at b at k other (inr (at_row b r one.0 one.1)) there h)
      ]

  left_meets : (at : Parts) (k other : Kind) → Has a at k → Has c at other → test k other ≡ true
      → meet test (union a b) c ≡ true
  left_meets at k other (inl has) there h =
      let one = in_joined_left test rising k (get b at) other h in
      meets_at (union a b) at one.0 other (inl (get-union a b at ∙ ap (λ o. joined o (get b at)) has ∙ one.1)) there one.2
  left_meets at k other (inr r) there h =
      let one = joined_some_left r.row_kind (get b r.row) in
      meets_at (union a b) at k other
      (inr (at_row (union a b) r one.0 (get-union a b r.row ∙ ap (λ o. joined o (get b r.row)) r.has ∙ one.1))) there h

  right_meets : (at : Parts) (k other : Kind) → Has b at k → Has c at other → test k other ≡ true
      → meet test (union a b) c ≡ true
  right_meets at k other (inl has) there h =
      let one = in_joined_right test rising (get a at) k other h in
      meets_at (union a b) at one.0 other (inl (get-union a b at ∙ ap (joined (get a at)) has ∙ one.1)) there one.2
  right_meets at k other (inr r) there h =
      let one = joined_some_right (get a r.row) r.row_kind in
      meets_at (union a b) at k other
      (inr (at_row (union a b) r one.0 (get-union a b r.row ∙ ap (joined (get a r.row)) r.has ∙ one.1))) there h

  -- a union meets a set where one of its parts does
  pub meet-union : meet test (union a b) c ≡ meet test a c || meet test b c
  meet-union =
      same_answer _ _
      (λ h. let m = from_meet test (union a b) c h in
      elim (either_meets m.at m.one m.other m.has_one m.has_other m.passes) [
        | inl first ↦ true_left (meet test a c) (meet test b c) first
        | inr second ↦ true_right (meet test a c) (meet test b c) second
      ])
      (λ h. elim (either_true (meet test a c) (meet test b c) h) [
        | inl first ↦ let m = from_meet test a c first in left_meets m.at m.one m.other m.has_one m.has_other m.passes
        | inr second ↦ let m = from_meet test b c second in right_meets m.at m.one m.other m.has_one m.has_other m.passes
      ])
