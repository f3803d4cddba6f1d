-- The members of a view: one of them leaves, and who is among them.
use Rattle.std.proofs.Common.{◌≡◌, ℕ, zero, suc, ◌+◌, ◌≤◌, ◌<◌, Bool, true, false, cond, List, [], ◌∷◌, ◌++◌, length, Option, None, Some, refl, ap, sym, ◌∙◌, arith, eq-eqb, ltb-true, lt-ltb}
use Rattle.std.specs.Prelude.{◌==◌, ◌||◌, ◌&&◌, not, nat_lt, slice_get, map}
use Rattle.std.specs.List.{AllByRecursion, list_any}
use Rattle.std.proofs.lemmas.Bool.{or_parts, and_parts}
use Rattle.std.proofs.lemmas.Option.{same_Some}
use Rattle.order_event.specs.Spelling.{is_above, rise_from, rise}
use Rattle.group_order.specs.Order.{all_but, up_to}
use Rattle.node_meaning.specs.Node.{ModelNode, is_left, start_node}
use Rattle.node_meaning.specs.Cluster.{set_at}
use Rattle.node_laws.specs.Views.{members_in}
use Rattle.node_laws.proofs.SetLists.{equal, unequal, all_push}

-- whether a member is among some
abbrev pub is_among : ℕ → List ℕ → Bool
is_among member members = list_any (λ k. k == member) members

either : (b : Bool) {rest : Bool} → rest ≡ true → b || rest ≡ true
either true rest = refl
either false rest = rest

-- ---- all but one
module _ (gone : ℕ) where
  pub but_fewer : (ms : List ℕ) → length (all_but gone ms) ≤ length ms
  but_fewer [] = omega arith
  but_fewer (m ∷ ms) = by (m == gone) (but_fewer ms)
    where
      by : (b : Bool) → length (all_but gone ms) ≤ length ms
          → length (cond (not b) (m ∷ all_but gone ms) (all_but gone ms)) ≤ length (m ∷ ms)
      by true rest = omega (arith, rest)
      by false rest = omega (arith, rest)

  -- it is not among them
  pub but_lacks : (ms : List ℕ) → is_among gone (all_but gone ms) ≡ false
  but_lacks [] = refl
  but_lacks (m ∷ ms) = by (m == gone) refl (but_lacks ms)
    where
      by : (b : Bool) → m == gone ≡ b → is_among gone (all_but gone ms) ≡ false
          → is_among gone (cond (not b) (m ∷ all_but gone ms) (all_but gone ms)) ≡ false
      by true is rest = rest
      by false is rest = ap (λ b. b || is_among gone (all_but gone ms)) is ∙ rest

  -- and another one is where it was
  pub but_other : (member : ℕ) → (member ≡ gone → ⊥) → (ms : List ℕ)
      → is_among member (all_but gone ms) ≡ is_among member ms
  but_other member differs [] = refl
  but_other member differs (m ∷ ms) = by (m == gone) refl (but_other member differs ms)
    where
      by : (b : Bool) → m == gone ≡ b → is_among member (all_but gone ms) ≡ is_among member ms
          → is_among member (cond (not b) (m ∷ all_but gone ms) (all_but gone ms))
          ≡ m == member || is_among member ms
      by true is rest =
          rest ∙ ap (λ b. b || is_among member ms)
          (sym (unequal m member (λ same. differs (sym same ∙ equal m gone is))))
      by false is rest = ap (λ b. m == member || b) rest

  -- where it is among them, it is one of them
  pub but_one : (ms : List ℕ) → is_among gone ms ≡ true → length (all_but gone ms) + 1 ≤ length ms
  but_one [] among = cc
  but_one (m ∷ ms) among = by (m == gone) among (but_fewer ms) (but_one ms)
    where
      by : (b : Bool) → b || is_among gone ms ≡ true → length (all_but gone ms) ≤ length ms
          → (is_among gone ms ≡ true → length (all_but gone ms) + 1 ≤ length ms)
          → length (cond (not b) (m ∷ all_but gone ms) (all_but gone ms)) + 1 ≤ length (m ∷ ms)
      by true is fewer rest = omega (arith, fewer)
      by false is fewer rest = let one = rest is in omega (arith, one)

  -- where it is not among them, all stay
  pub but_absent : (ms : List ℕ) → is_among gone ms ≡ false → all_but gone ms ≡ ms
  but_absent [] none = refl
  but_absent (m ∷ ms) none =
      let both = or_parts (m == gone) (is_among gone ms) none in
      ap (λ b. cond (not b) (m ∷ all_but gone ms) (all_but gone ms)) both.0
      ∙ ap (λ rest. m ∷ rest) (but_absent ms both.1)

-- ---- rising members
above_later : (before : Option ℕ) (m k : ℕ) → is_above before m ≡ true → m < k
    → is_above before k ≡ true
above_later None m k above below = refl
above_later (Some b) m k above below =
    let less = ltb-true b m above in lt-ltb b k (omega (arith, less, below))

rise_lower : (before : Option ℕ) (m : ℕ) (ms : List ℕ) → is_above before m ≡ true
    → rise_from (Some m) ms ≡ true → rise_from before ms ≡ true
rise_lower before m [] above rest = refl
rise_lower before m (k ∷ ms) above rest =
    let both = and_parts (nat_lt m k) (rise_from (Some k) ms) rest in
    (λ i. above_later before m k above (ltb-true m k both.0) i && both.1 i)

pub but_rises : (gone : ℕ) (before : Option ℕ) (ms : List ℕ) → rise_from before ms ≡ true
    → rise_from before (all_but gone ms) ≡ true
but_rises gone before [] rises = refl
but_rises gone before (m ∷ ms) rises =
    let both = and_parts (is_above before m) (rise_from (Some m) ms) rises in
    by (m == gone) both.0 (but_rises gone (Some m) ms both.1)
  where
    by : (b : Bool) → is_above before m ≡ true → rise_from (Some m) (all_but gone ms) ≡ true
        → rise_from before (cond (not b) (m ∷ all_but gone ms) (all_but gone ms)) ≡ true
    by true above rest = rise_lower before m (all_but gone ms) above rest
    by false above rest = (λ i. above i && rest i)

-- ---- one more at the end
module _ (new : ℕ) where
  pub among_new : (ms : List ℕ) → is_among new (ms ++ new ∷ []) ≡ true
  among_new [] = ap (λ b. b || false) (eq-eqb new new refl)
  among_new (m ∷ ms) = either (m == new) (among_new ms)

  pub among_more : (member : ℕ) (ms : List ℕ) → is_among member ms ≡ true
      → is_among member (ms ++ new ∷ []) ≡ true
  among_more member [] among = cc
  among_more member (m ∷ ms) among = by (m == member) among (among_more member ms)
    where
      by : (b : Bool) → b || is_among member ms ≡ true
          → (is_among member ms ≡ true → is_among member (ms ++ new ∷ []) ≡ true)
          → b || is_among member (ms ++ new ∷ []) ≡ true
      by true is rest = refl
      by false is rest = rest is

  pub among_other : (member : ℕ) → (new ≡ member → ⊥) → (ms : List ℕ)
      → is_among member (ms ++ new ∷ []) ≡ is_among member ms
  among_other member differs [] = ap (λ b. b || false) (unequal new member differs)
  among_other member differs (m ∷ ms) =
      ap (λ b. m == member || b) (among_other member differs ms)

pub rise_push : (before : Option ℕ) (ms : List ℕ) (k : ℕ) → is_above before k ≡ true
    → AllByRecursion (λ m. m < k) ms → rise_from before ms ≡ true
    → rise_from before (ms ++ k ∷ []) ≡ true
rise_push before [] k above below rises = (λ i. above i && true)
rise_push before (m ∷ ms) k above below rises =
    let both = and_parts (is_above before m) (rise_from (Some m) ms) rises in
    (λ i. both.0 i && rise_push (Some m) ms k (lt-ltb m k below.0) below.1 both.1 i)

-- ---- the first so many numbers
pub up_to_below : (n k : ℕ) → n < k → AllByRecursion (λ m. m < k) (up_to n)
up_to_below zero k below = tt
up_to_below (suc n) k below =
    all_push (λ m. m < k) (up_to n) (suc n) (up_to_below n k (omega (arith, below))) below

pub up_to_rises : (n : ℕ) → rise (up_to n) ≡ true
up_to_rises zero = refl
up_to_rises (suc n) =
    rise_push None (up_to n) (suc n) refl (up_to_below n (suc n) (omega arith)) (up_to_rises n)

-- ---- the members of nodes
pub among_at : (ms : List ℕ) (i m : ℕ) → slice_get ms i ≡ Some m → is_among m ms ≡ true
among_at [] i m there = cc
among_at (x ∷ xs) zero m there =
    ap (λ b. b || is_among m xs) (eq-eqb x m (same_Some x m there))
among_at (x ∷ xs) (suc i) m there = either (x == m) (among_at xs i m there)

pub members_at_start : (gcache : ℕ) (id ms : List ℕ)
    → members_in (map (start_node gcache id) ms) ≡ ms
members_at_start gcache id [] = refl
members_at_start gcache id (m ∷ ms) = ap (λ rest. m ∷ rest) (members_at_start gcache id ms)

pub members_fewer : (nodes : List ModelNode) → length (members_in nodes) ≤ length nodes
members_fewer [] = omega arith
members_fewer (x ∷ xs) = by (is_left x.at.phase) (members_fewer xs)
  where
    by : (b : Bool) → length (members_in xs) ≤ length xs
        → length (cond b (members_in xs) (x.at.member ∷ members_in xs)) ≤ length (x ∷ xs)
    by true rest = omega (arith, rest)
    by false rest = omega (arith, rest)

-- one that has not left is among them
pub has_member : (nodes : List ModelNode) (i : ℕ) (n : ModelNode) → slice_get nodes i ≡ Some n
    → is_left n.at.phase ≡ false → is_among n.at.member (members_in nodes) ≡ true
has_member [] i n there stays = cc
has_member (x ∷ xs) zero n there stays =
    let same : x ≡ n = same_Some x n there in
    ap (λ (o : ModelNode). is_among n.at.member
    (cond (is_left o.at.phase) (members_in xs) (o.at.member ∷ members_in xs))) same
    ∙ ap (λ b. is_among n.at.member (cond b (members_in xs) (n.at.member ∷ members_in xs))) stays
    ∙ ap (λ b. b || is_among n.at.member (members_in xs)) (eq-eqb n.at.member n.at.member refl)
has_member (x ∷ xs) (suc i) n there stays =
    by (is_left x.at.phase) (x.at.member == n.at.member) (has_member xs i n there stays) refl
  where
    by : (b same : Bool) → is_among n.at.member (members_in xs) ≡ true
        → x.at.member == n.at.member ≡ same
        → is_among n.at.member (cond b (members_in xs) (x.at.member ∷ members_in xs)) ≡ true
    by true same rest is = rest
    by false true rest is = ap (λ b. b || is_among n.at.member (members_in xs)) is
    by false false rest is = ap (λ b. b || is_among n.at.member (members_in xs)) is ∙ rest

-- a number that is no such one's is not
pub lacks_member : (member : ℕ) (nodes : List ModelNode)
    → ((i : ℕ) (n : ModelNode) → slice_get nodes i ≡ Some n → is_left n.at.phase ≡ false
    → n.at.member ≡ member → ⊥)
    → is_among member (members_in nodes) ≡ false
lacks_member member [] none = refl
lacks_member member (x ∷ xs) none =
    by (is_left x.at.phase) refl (lacks_member member xs (λ i n there. none (suc i) n there))
  where
    by : (b : Bool) → is_left x.at.phase ≡ b → is_among member (members_in xs) ≡ false
        → is_among member (cond b (members_in xs) (x.at.member ∷ members_in xs)) ≡ false
    by true is rest = rest
    by false is rest =
        ap (λ b. b || is_among member (members_in xs))
        (unequal x.at.member member (none 0 x refl is))
        ∙ rest

-- ---- one node takes another's place
pub members_same : (nodes : List ModelNode) (i : ℕ) (n m : ModelNode) → slice_get nodes i ≡ Some n
    → is_left m.at.phase ≡ is_left n.at.phase → m.at.member ≡ n.at.member
    → members_in (set_at nodes i m) ≡ members_in nodes
members_same [] i n m there phase member = refl
members_same (x ∷ xs) zero n m there phase member =
    let same : x ≡ n = same_Some x n there in
    (λ i. cond (phase i) (members_in xs) (member i ∷ members_in xs))
    ∙ ap (λ (o : ModelNode). cond (is_left o.at.phase) (members_in xs)
    (o.at.member ∷ members_in xs)) (sym same)
members_same (x ∷ xs) (suc i) n m there phase member =
    ap (λ rest. cond (is_left x.at.phase) rest (x.at.member ∷ rest))
    (members_same xs i n m there phase member)

-- and one that has left a node that had not
pub members_left : (nodes : List ModelNode) (i : ℕ) (n m : ModelNode) → slice_get nodes i ≡ Some n
    → is_left n.at.phase ≡ false → is_left m.at.phase ≡ true
    → ((j : ℕ) (o : ModelNode) → slice_get nodes j ≡ Some o → o.at.member ≡ n.at.member → j ≡ i)
    → members_in (set_at nodes i m) ≡ all_but n.at.member (members_in nodes)
members_left [] i n m there stays left alone = cc
members_left (x ∷ xs) zero n m there stays left alone =
    let same : x ≡ n = same_Some x n there in
    let lacks = lacks_member n.at.member xs
    (λ j o at _ is. absurd (omega (arith, alone (suc j) o at is))) in
    ap (λ b. cond b (members_in xs) (m.at.member ∷ members_in xs)) left
    ∙ sym (but_absent n.at.member (members_in xs) lacks)
    ∙ sym (
    ap (λ (o : ModelNode). all_but n.at.member
    (cond (is_left o.at.phase) (members_in xs) (o.at.member ∷ members_in xs))) same
    ∙ ap (λ b. all_but n.at.member (cond b (members_in xs) (n.at.member ∷ members_in xs))) stays
    ∙ ap (λ b. cond (not b) (n.at.member ∷ all_but n.at.member (members_in xs))
    (all_but n.at.member (members_in xs))) (eq-eqb n.at.member n.at.member refl))
members_left (x ∷ xs) (suc i) n m there stays left alone =
    by (is_left x.at.phase)
    (unequal x.at.member n.at.member (λ same. absurd (omega (arith, alone 0 x refl same))))
    (members_left xs i n m there stays left
    (λ j o at same. omega (arith, alone (suc j) o at same)))
  where
    by : (b : Bool) → x.at.member == n.at.member ≡ false
        → members_in (set_at xs i m) ≡ all_but n.at.member (members_in xs)
        → cond b (members_in (set_at xs i m)) (x.at.member ∷ members_in (set_at xs i m))
        ≡ all_but n.at.member (cond b (members_in xs) (x.at.member ∷ members_in xs))
    by true other rest = rest
    by false other rest =
        ap (λ ms. x.at.member ∷ ms) rest
        ∙ ap (λ b. cond (not b) (x.at.member ∷ all_but n.at.member (members_in xs))
        (all_but n.at.member (members_in xs))) (sym other)

-- how many they are
abbrev pub stays_as : ModelNode → ℕ
stays_as n = cond (is_left n.at.phase) 0 1

pub members_count : (nodes : List ModelNode) (i : ℕ) (n m : ModelNode) → slice_get nodes i ≡ Some n
    → length (members_in (set_at nodes i m)) + stays_as n ≡ length (members_in nodes) + stays_as m
members_count [] i n m there = cc
members_count (x ∷ xs) zero n m there =
    let same : stays_as x ≡ stays_as n = ap stays_as (same_Some x n there) in
    let before = counted x xs in
    let after = counted m xs in
    omega (arith, same, before, after)
  where
    counted : (y : ModelNode) (ys : List ModelNode)
        → length (members_in (y ∷ ys)) ≡ length (members_in ys) + stays_as y
    counted y ys = by (is_left y.at.phase)
      where
        by : (b : Bool) → length (cond b (members_in ys) (y.at.member ∷ members_in ys))
            ≡ length (members_in ys) + cond b 0 1
        by true = omega arith
        by false = omega arith
members_count (x ∷ xs) (suc i) n m there =
    by (is_left x.at.phase) (members_count xs i n m there)
  where
    by : (b : Bool)
        → length (members_in (set_at xs i m)) + stays_as n ≡ length (members_in xs) + stays_as m
        → length (cond b (members_in (set_at xs i m)) (x.at.member ∷ members_in (set_at xs i m)))
        + stays_as n
        ≡ length (cond b (members_in xs) (x.at.member ∷ members_in xs)) + stays_as m
    by true rest = rest
    by false rest = omega (arith, rest)

-- one that had left is there again with another member
pub members_joined : (member : ℕ) (nodes : List ModelNode) (i : ℕ) (n m : ModelNode)
    → slice_get nodes i ≡ Some n → is_left n.at.phase ≡ true → is_left m.at.phase ≡ false
    → (m.at.member ≡ member → ⊥)
    → is_among member (members_in (set_at nodes i m)) ≡ is_among member (members_in nodes)
members_joined member [] i n m there left stays differs = cc
members_joined member (x ∷ xs) zero n m there left stays differs =
    let same : x ≡ n = same_Some x n there in
    ap (λ b. is_among member (cond b (members_in xs) (m.at.member ∷ members_in xs))) stays
    ∙ ap (λ b. b || is_among member (members_in xs)) (unequal m.at.member member differs)
    ∙ sym (ap (λ b. is_among member (cond b (members_in xs) (x.at.member ∷ members_in xs)))
    (ap (λ (o : ModelNode). is_left o.at.phase) same ∙ left))
members_joined member (x ∷ xs) (suc i) n m there left stays differs =
    by (is_left x.at.phase) (members_joined member xs i n m there left stays differs)
  where
    by : (b : Bool)
        → is_among member (members_in (set_at xs i m)) ≡ is_among member (members_in xs)
        → is_among member
        (cond b (members_in (set_at xs i m)) (x.at.member ∷ members_in (set_at xs i m)))
        ≡ is_among member (cond b (members_in xs) (x.at.member ∷ members_in xs))
    by true rest = rest
    by false rest = ap (λ b. x.at.member == member || b) rest
