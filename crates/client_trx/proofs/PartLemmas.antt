-- A part of a transaction is no larger than the whole, also with one more key and change on both.
use Rattle.std.proofs.Common.{◌≡◌, ℕ, ◌≤◌, Bool, true, false, cond, List, [], ◌∷◌, length, Option, None, Some, refl, sym, ap, ◌∙◌, arith, length-append}
use Rattle.std.specs.Prelude.{◌||◌, nat_lt, is_none, IfSome, option_map}
use Rattle.std.specs.FinMap.Entries.{find}
use Rattle.std.proofs.lemmas.Bool.Decides.{nat_tests}
use Rattle.finite_map.specs.FiniteMap.{get, len, get-entries}
use Rattle.key_sets.specs.declared.kind.Kind.{Kind}
use Rattle.key_sets.specs.declared.parts.Parts.{Parts}
use Rattle.key_sets.specs.Kinds.{raised}
use Rattle.key_sets.specs.Parts.{parts_cmp, same_parts}
use Rattle.key_sets.specs.Keys.{Keys, LIMIT}
use Rattle.key_sets.proofs.PartsLemmas.{same_parts-itself}
use Rattle.key_sets.proofs.WithKey.{get-with_key}
use Rattle.key_sets.proofs.Apart.{Apart-entries}
use Rattle.key_sets.proofs.UnionLemmas.{new_parts, len-with_keys}
use Rattle.key_sets.proofs.UnionLaws.{len-union-right}
use Rattle.row_model.specs.declared.ops.Op.{Op}
use Rattle.client_trx.specs.KeyedOps.{Keyed, with_op, with_change, is_over, IsPart}
use Rattle.client_trx.proofs.FitLemmas.{neither}

-- ---- a set whose parts are among those of another has no more keys

first_lacks : (b : Bool) (k : Kind) (o : Option Kind) → cond b (Some k) o ≡ None → o ≡ None
first_lacks true k o h = cc
first_lacks false k o h = h

has_first : (e : Parts × Kind) (es : List (Parts × Kind)) (o : Option Kind)
    → (o ≡ None → find parts_cmp e.0 (e ∷ es) ≡ None) → is_none o ≡ false
has_first e es (Some k) among = refl
has_first e es None among =
    let found = ap (λ b. cond b (Some e.1) (find parts_cmp e.0 es)) (sym (same_parts-itself e.0)) ∙ among refl in
    absurd cc

none_new : (keys : Keys) (es : List (Parts × Kind)) → ((q : Parts) → get keys q ≡ None → find parts_cmp q es ≡ None)
    → length (new_parts keys es) ≡ 0
none_new keys [] among = refl
none_new keys (e ∷ es) among =
    ap (λ b. length (cond b (e.0 ∷ new_parts keys es) (new_parts keys es))) (has_first e es (get keys e.0) (among e.0))
    ∙ none_new keys es (λ q none. first_lacks (same_parts q e.0) e.1 (find parts_cmp q es) (among q none))

len-among : (keys part : Keys) → ((q : Parts) → get keys q ≡ None → get part q ≡ None) → len part ≤ len keys
len-among keys part among =
    let grown = len-with_keys keys part.entries (Apart-entries part) in
    let none = none_new keys part.entries (λ q none. sym (get-entries part q) ∙ among q none) in
    let more = len-union-right keys part in
    omega arith

-- ---- parts of a transaction

below : (n m limit : ℕ) → n ≤ m → nat_lt limit m ≡ false → nat_lt limit n ≡ false
below n m limit less h = grind (arith, nat_tests)

neither_or : (a b : Bool) → a ≡ false → b ≡ false → a || b ≡ false
neither_or a b p q = ap (λ x. x || b) p ∙ q

-- a part of what has room has room
pub part_not_over : (whole part : Keyed) → IsPart whole part → is_over whole ≡ false → is_over part ≡ false
part_not_over whole part kept room =
    let few = neither _ _ room in
    neither_or _ _ (below (len part.keys) (len whole.keys) LIMIT (len-among whole.keys part.keys kept.keys) few.0)
    (below (length part.ops) (length whole.ops) 8192 kept.ops few.1)

same_lack : (b : Bool) (k l : Kind) (o p : Option Kind) → (o ≡ None → p ≡ None) → cond b (Some k) o ≡ None
    → cond b (Some l) p ≡ None
same_lack true k l o p among h = cc
same_lack false k l o p among h = among h

no_more_ops : (whole part : List Op) (o : Option Op) → length part ≤ length whole
    → length (with_op part o) ≤ length (with_op whole o)
no_more_ops whole part None less = less
no_more_ops whole part (Some o) less = grind (arith, length-append)

-- with one more key and change on both, it is still a part
pub part_more : (whole part : Keyed) (p : Parts) (k : Kind) (o : Option Op) → IsPart whole part
    → IsPart (with_change whole p k o) (with_change part p k o)
part_more whole part p k o kept = record {
  keys = λ q none. get-with_key part.keys p k q
      ∙ same_lack (same_parts q p) (raised (get whole.keys p) k) (raised (get part.keys p) k) (get whole.keys q) (get part.keys q)
      (kept.keys q) (sym (get-with_key whole.keys p k q) ∙ none);
  ops = no_more_ops whole.ops part.ops o kept.ops;
}

-- what is added to a part has room there
pub room_in_part : (whole : Keyed) (newest : Option Keyed) (p : Parts) (k : Kind) (o : Option Op)
    → IfSome newest (λ part. IsPart whole part) → is_over (with_change whole p k o) ≡ false
    → IfSome newest (λ part. is_over (with_change part p k o) ≡ false)
room_in_part whole None p k o kept room = tt
room_in_part whole (Some part) p k o kept room =
    part_not_over (with_change whole p k o) (with_change part p k o) (part_more whole part p k o kept) room

parts_more : (whole : Keyed) (newest : Option Keyed) (p : Parts) (k : Kind) (o : Option Op)
    → IfSome newest (λ part. IsPart whole part)
    → IfSome (option_map (λ part. with_change part p k o) newest) (λ part. IsPart (with_change whole p k o) part)
parts_more whole None p k o kept = tt
parts_more whole (Some part) p k o kept = part_more whole part p k o kept

-- with one more key and change on both, it is still a part
pub part_grown : (whole after : Keyed) (newest more : Option Keyed) (p : Parts) (k : Kind) (o : Option Op)
    → IfSome newest (λ part. IsPart whole part) → more ≡ option_map (λ part. with_change part p k o) newest
    → after ≡ with_change whole p k o → IfSome more (λ part. IsPart after part)
part_grown whole after newest more p k o kept more_is after_is =
    rw (more_is, after_is) (parts_more whole newest p k o kept)
