-- The laws of key sets that other crates cite: who meets whom, what a union meets, and which rows a set covers.
pub use Rattle.key_sets.proofs.KindLaws.{kinds_conflict-symm, kinds_touch-symm, touch_from_conflict, kinds_conflict-rising, kinds_touch-rising}
pub use Rattle.key_sets.proofs.PartsLemmas.{parts_total, parts_exact, parts_equivalence, same_parts-exact, same_parts-itself}
pub use Rattle.key_sets.proofs.Apart.{get_from_in, in_from_get}
pub use Rattle.key_sets.proofs.MeetLemmas.{from_meet, met, meet-symm}
pub use Rattle.key_sets.proofs.WithKey.{get-with_key, len-with_key, with_key-within}
pub use Rattle.key_sets.proofs.UnionLemmas.{get-with_keys, get-union, with_keys-none, with_keys-cons, len-with_keys, len-with_keys-le, len-union-sum}
pub use Rattle.key_sets.proofs.UnionLaws.{union-symm, union-empty, len-union-left, len-union-right, get-one_key, with_key-union, meet-union}
pub use Rattle.key_sets.proofs.CoverLaws.{covers-union, covers-with_key, covers_one_key, conflicts_from_covers}
use Rattle.std.proofs.Common.{◌≡◌, Bool, true, false, ◌||◌, inl, inr, sym, ap, ◌∙◌, true≢false}
use Rattle.finite_map.specs.FiniteMap.{empty, get-empty}
use Rattle.key_sets.specs.declared.kind.Kind.{Kind}
use Rattle.key_sets.specs.declared.parts.Parts.{Parts}
use Rattle.key_sets.specs.Kinds.{kinds_conflict, kinds_touch}
use Rattle.key_sets.specs.Parts.{parts_cmp}
use Rattle.key_sets.specs.Keys.{Keys, meet, conflicts, touches, with_key, one_key, union}
use Rattle.key_sets.specs.Meeting.{Has}
use Rattle.key_sets.specs.Laws.{IsRising}
use Rattle.key_sets.proofs.ListLemmas.{same_answer}

-- sets that conflict do so both ways, and also touch
pub conflicts-symm : (a b : Keys) → conflicts a b ≡ conflicts b a
conflicts-symm = meet-symm kinds_conflict kinds_conflict-symm

pub touches-symm : (a b : Keys) → touches a b ≡ touches b a
touches-symm = meet-symm kinds_touch kinds_touch-symm

pub touches_from_conflicts : (a b : Keys) → conflicts a b ≡ true → touches a b ≡ true
touches_from_conflicts a b h =
    let m = from_meet kinds_conflict a b h in
    met kinds_touch a b (record {
      at = m.at;
      one = m.one;
      other = m.other;
      has_one = m.has_one;
      has_other = m.has_other;
      passes = touch_from_conflict m.one m.other m.passes;
    })

-- a union conflicts with, or touches, what one of its parts does
pub conflicts-union : (a b c : Keys) → conflicts (union a b) c ≡ conflicts a c || conflicts b c
conflicts-union = meet-union kinds_conflict kinds_conflict-rising

pub touches-union : (a b c : Keys) → touches (union a b) c ≡ touches a c || touches b c
touches-union = meet-union kinds_touch kinds_touch-rising

-- a key that is added meets what it meets alone
pub meet-with_key : (test : Kind → Kind → Bool) → IsRising test → (a : Keys) (p : Parts) (k : Kind) (b : Keys)
    → meet test (with_key a p k) b ≡ meet test a b || meet test (one_key p k) b
meet-with_key test rising a p k b =
    ap (λ keys. meet test keys b) (with_key-union a p k) ∙ meet-union test rising a (one_key p k) b

-- the empty set has no kind anywhere
not_in_empty : {A : Type 0} (p : Parts) (k : Kind) → Has empty p k → A
not_in_empty p k (inl has) = let none = get-empty {X = Kind} parts_cmp p in cc
not_in_empty p k (inr r) = let has = r.has in let none = get-empty {X = Kind} parts_cmp r.row in cc

pub meet-empty : (test : Kind → Kind → Bool) (a : Keys) → meet test empty a ≡ false
meet-empty test a =
    same_answer _ _ (λ h. let m = from_meet test empty a h in not_in_empty m.at m.one m.has_one) (λ no. absurd (true≢false (sym no)))

pub touches-empty : (a : Keys) → touches empty a ≡ false
touches-empty = meet-empty kinds_touch
