-- The marks of a spot, and the greatest of them of another transaction.
use Rattle.std.proofs.Common.{◌≡◌, ℕ, zero, suc, ◌+◌, ◌≤◌, ◌<◌, Bool, true, false, cond, ◌&&◌, List, Option, Some, None, refl, sym, ap, subst, ◌∙◌, arith}
use Rattle.std.specs.Prelude.{nat_eq, nat_lt, not, ◌==◌}
use Rattle.std.specs.declared.cmp.Ordering.{Ordering}
use Rattle.std.specs.declared.cmp.Ordering.TheVariants.{Less, Equal, Greater}
use Rattle.std.specs.Ordering.{is_eq, is_gt, is_lt, nat_cmp, ordering_reverse, ordering_then}
use Rattle.std.specs.Cmp.{IsTotalOrder, eq_by_cmp_equiv}
use Rattle.std.specs.BTreeMap.Range.{IsLeBy, IsLtBy}
use Rattle.std.proofs.lemmas.Bool.{ltb-false, ltb-true, lt-ltb}
use Rattle.std.proofs.Common.{eqb-true}
use Rattle.std.proofs.lemmas.Cmp.{nat_cmp_total, on_total, then_total, tied_itself}
use Rattle.wsrep_base.specs.declared.ids.TrxId.{TrxId}
use Rattle.wsrep_base.specs.Trx.{trx_cmp, same_trx}
use Rattle.key_sets.specs.Parts.{parts_cmp}
use Rattle.key_sets.proofs.PartsLemmas.{parts_total, parts_exact}
use Rattle.sr_fragments.specs.declared.spot.Spot.{Spot}
use Rattle.sr_fragments.specs.declared.spot.Place.{Place}
use Rattle.sr_fragments.specs.declared.spot.Mark.{Mark}
use Rattle.sr_fragments.specs.Spots.{mark_cmp, mark_end, mark_first, mark_of, no_trx, place_at, rank_of}
use Rattle.sr_fragments.specs.HeldIndex.{has_in, is_number, IsGreatestMark, IsLatestBut, IsMarked, IsTopBut}
use Rattle.sr_fragments.proofs.MarkLemmas.{number_itself, number_same}
use Rattle.cert_meaning.proofs.TrxLemmas.{trx_exact, trx_ties, trx_total}

pub mark_total : IsTotalOrder mark_cmp
mark_total =
    then_total (on_total (λ (m : Mark). m.parts) parts_total)
    (then_total (on_total (λ (m : Mark). m.rank) nat_cmp_total)
    (then_total (on_total (λ (m : Mark). m.number) nat_cmp_total)
    (on_total (λ (m : Mark). m.trx) trx_total)))

-- ---- comparisons
is_false : (b : Bool) → (b ≡ true → ⊥) → b ≡ false
is_false true f = absurd (f refl)
is_false false f = refl

is_none : (o : Option ℕ) → ((n : ℕ) → o ≡ Some n → ⊥) → o ≡ None
is_none None f = refl
is_none (Some n) f = absurd (f n refl)

is_equal : (o : Ordering) → is_eq o ≡ true → o ≡ Equal
is_equal Less e = cc
is_equal Equal e = refl
is_equal Greater e = cc

less : (m n : ℕ) → nat_cmp m n ≡ Less → m < n
less m n e = by (nat_lt m n) (m == n) refl e
  where
    by : (b c : Bool) → nat_lt m n ≡ b → cond b Less (cond c Equal Greater) ≡ Less → m < n
    by true c is e = ltb-true m n is
    by false true is e = cc
    by false false is e = cc

not_greater : (m n : ℕ) → is_gt (nat_cmp m n) ≡ false → m ≤ n
not_greater m n e = by (nat_lt m n) (m == n) refl refl e
  where
    by : (b c : Bool) → nat_lt m n ≡ b → (m == n) ≡ c
        → is_gt (cond b Less (cond c Equal Greater)) ≡ false → m ≤ n
    by true c is same e = let low = ltb-true m n is in omega (arith, low)
    by false true is same e = let here = eqb-true m n same in omega (arith, here)
    by false false is same e = cc

not_less : (m n : ℕ) → is_lt (nat_cmp m n) ≡ false → n ≤ m
not_less m n e = by (nat_lt m n) refl e
  where
    by : (b : Bool) → nat_lt m n ≡ b → is_lt (cond b Less (cond (m == n) Equal Greater)) ≡ false
        → n ≤ m
    by true is e = cc
    by false is e = ltb-false m n is

zero_first : (n : ℕ) → is_gt (nat_cmp 0 n) ≡ false
zero_first zero = refl
zero_first (suc n) =
    ap (λ b. is_gt (cond b Less (cond (0 == suc n) Equal Greater))) (lt-ltb 0 (suc n) (omega arith))

none_before : (n : ℕ) → nat_cmp n 0 ≡ Less → ⊥
none_before n e = let low = less n 0 e in omega (arith, low)

-- what is not after in both of two orders, or before by them
not_after : (o p : Ordering) → is_gt o ≡ false → is_gt p ≡ false → is_gt (ordering_then o p) ≡ false
not_after Less p e f = refl
not_after Equal p e f = f
not_after Greater p e f = e

first_not_after : (o p : Ordering) → is_gt (ordering_then o p) ≡ false → is_gt o ≡ false
first_not_after Less p e = refl
first_not_after Equal p e = refl
first_not_after Greater p e = e

second_not_after : (o p : Ordering) → o ≡ Equal → is_gt (ordering_then o p) ≡ false
    → is_gt p ≡ false
second_not_after o p tie e = ap (λ q. is_gt (ordering_then q p)) (sym tie) ∙ e

first_before : (o p : Ordering) → ordering_then o p ≡ Less → (o ≡ Equal → p ≡ Less → ⊥) → o ≡ Less
first_before Less p e f = refl
first_before Equal p e f = absurd (f refl e)
first_before Greater p e f = cc

second_before : (o p : Ordering) → o ≡ Equal → ordering_then o p ≡ Less → p ≡ Less
second_before o p tie e = ap (λ q. ordering_then q p) (sym tie) ∙ e

second_tie : (o p : Ordering) → ordering_then o p ≡ Equal → p ≡ Equal
second_tie Less p e = cc
second_tie Equal p e = e
second_tie Greater p e = cc

first_not_before : (o p : Ordering) → is_lt (ordering_then o p) ≡ false → is_lt o ≡ false
first_not_before Less p e = e
first_not_before Equal p e = refl
first_not_before Greater p e = refl

between : (o p back : Ordering) → back ≡ ordering_reverse o → is_gt o ≡ false → (back ≡ Greater → ⊥)
    → o ≡ Equal
between Less p back e f not = absurd (not e)
between Equal p back e f not = refl
between Greater p back e f not = cc

not_greater_then : (o p : Ordering) → ordering_then o p ≡ Less → o ≡ Greater → ⊥
not_greater_then o p e f = let g = ap (λ q. ordering_then q p) f in cc

-- ---- the marks of a spot
rank_step : (b : Bool) → nat_cmp (rank_of b) (rank_of b + 1) ≡ Less
rank_step true = refl
rank_step false = refl

pub cmp_at : (spot : Spot) (t u : TrxId) (m n : ℕ)
    → mark_cmp (mark_of (place_at spot t) m) (mark_of (place_at spot u) n)
    ≡ ordering_then (nat_cmp m n) (trx_cmp t u)
cmp_at spot t u m n =
    λ i. ordering_then (tied_itself parts_total spot.parts i)
    (ordering_then (tied_itself nat_cmp_total (rank_of spot.changing) i)
    (ordering_then (nat_cmp m n) (trx_cmp t u)))

-- they are from the first on
pub from_first : (spot : Spot) (t : TrxId) (n : ℕ)
    → IsLeBy mark_cmp (mark_first spot) (mark_of (place_at spot t) n)
from_first spot t n =
    ap is_gt (cmp_at spot no_trx t 0 n)
    ∙ not_after (nat_cmp 0 n) (trx_cmp no_trx t) (zero_first n)
    (not_after (nat_cmp 0 t.member) (nat_cmp 0 t.begin) (zero_first t.member) (zero_first t.begin))

-- and before the end
pub to_end : (spot : Spot) (t : TrxId) (n : ℕ)
    → IsLtBy mark_cmp (mark_of (place_at spot t) n) (mark_end spot)
to_end spot t n =
    λ i. ordering_then (tied_itself parts_total spot.parts i)
    (ordering_then (rank_step spot.changing i) (ordering_then (nat_cmp n 0) (trx_cmp t no_trx)))

pub first_to_end : (spot : Spot) → IsLeBy mark_cmp (mark_first spot) (mark_end spot)
first_to_end spot = ap is_gt (to_end spot no_trx 0)

-- and no others are
pub at_spot : (spot : Spot) (m : Mark) → IsLeBy mark_cmp (mark_first spot) m
    → IsLtBy mark_cmp m (mark_end spot)
    → m ≡ mark_of (place_at spot m.trx) m.number
at_spot spot m from to =
    let r = rank_of spot.changing in
    let low = ordering_then (nat_cmp r m.rank)
    (ordering_then (nat_cmp 0 m.number) (trx_cmp no_trx m.trx)) in
    let high = ordering_then (nat_cmp m.rank (r + 1))
    (ordering_then (nat_cmp m.number 0) (trx_cmp m.trx no_trx)) in
    let tie : parts_cmp spot.parts m.parts ≡ Equal =
    between (parts_cmp spot.parts m.parts) low (parts_cmp m.parts spot.parts)
    (parts_total.antisymm m.parts spot.parts)
    (first_not_after (parts_cmp spot.parts m.parts) low from)
    (not_greater_then (parts_cmp m.parts spot.parts) high to) in
    let parts : spot.parts ≡ m.parts = parts_exact spot.parts m.parts tie in
    let back : parts_cmp m.parts spot.parts ≡ Equal = parts_total.antisymm m.parts spot.parts
    ∙ ap ordering_reverse tie in
    let least : r ≤ m.rank =
    not_greater r m.rank (first_not_after (nat_cmp r m.rank) _
    (second_not_after (parts_cmp spot.parts m.parts) low tie from)) in
    let most : m.rank < r + 1 =
    less m.rank (r + 1) (first_before (nat_cmp m.rank (r + 1))
    (ordering_then (nat_cmp m.number 0) (trx_cmp m.trx no_trx))
    (second_before (parts_cmp m.parts spot.parts) high back to)
    (λ same before. none_before m.number
    (first_before (nat_cmp m.number 0) (trx_cmp m.trx no_trx) before
    (λ same before. none_before m.trx.member
    (first_before (nat_cmp m.trx.member 0) (nat_cmp m.trx.begin 0) before
    (λ same before. none_before m.trx.begin before)))))) in
    let rank : m.rank ≡ r = omega (arith, least, most) in
    λ i. record { parts = sym parts i; rank = rank i; number = m.number; trx = m.trx }

-- one that is not below another has no lesser number
not_above : (spot : Spot) (t u : TrxId) (m n : ℕ)
    → is_lt (mark_cmp (mark_of (place_at spot t) m) (mark_of (place_at spot u) n)) ≡ false → n ≤ m
not_above spot t u m n e =
    not_less m n (first_not_before (nat_cmp m n) (trx_cmp t u)
    (ap is_lt (sym (cmp_at spot t u m n)) ∙ e))

-- and is above it, where it is another's
above_other : (spot : Spot) (t u : TrxId) (m n : ℕ) → same_trx t u ≡ false
    → is_lt (mark_cmp (mark_of (place_at spot t) m) (mark_of (place_at spot u) n)) ≡ false
    → IsLtBy mark_cmp (mark_of (place_at spot u) n) (mark_of (place_at spot t) m)
above_other spot t u m n other e =
    mark_total.antisymm (mark_of (place_at spot u) n) (mark_of (place_at spot t) m)
    ∙ by (mark_cmp (mark_of (place_at spot t) m) (mark_of (place_at spot u) n)) refl e
  where
    apart : mark_cmp (mark_of (place_at spot t) m) (mark_of (place_at spot u) n) ≡ Equal → ⊥
    apart tie =
        let same = ap is_eq (second_tie (nat_cmp m n) (trx_cmp t u)
        (sym (cmp_at spot t u m n) ∙ tie)) in cc

    by : (o : Ordering) → mark_cmp (mark_of (place_at spot t) m) (mark_of (place_at spot u) n) ≡ o
        → is_lt o ≡ false
        → ordering_reverse o ≡ Less
    by Less is e = cc
    by Equal is e = absurd (apart is)
    by Greater is e = refl

is_number-some : (n : ℕ) (o : Option ℕ) → is_number n o ≡ true → o ≡ Some n
is_number-some n None e = cc
is_number-some n (Some m) e = ap Some (number_same m n e)

same_some : (m n : ℕ) → Some m ≡ Some n → m ≡ n
same_some m n e = cc

module _ (marks : List Mark) (latest : Place → Option ℕ) (marked : IsMarked marks latest)
    (spot : Spot) (trx : TrxId) where
  number_at : (m : Mark) → IsLeBy mark_cmp (mark_first spot) m → IsLtBy mark_cmp m (mark_end spot)
      → has_in marks m ≡ true
      → latest (place_at spot m.trx) ≡ Some m.number
  number_at m from to has =
      is_number-some m.number (latest (place_at spot m.trx))
      (sym (marked (place_at spot m.trx) m.number)
      ∙ ap (has_in marks) (sym (at_spot spot m from to)) ∙ has)

  mark_there : (t : TrxId) (n : ℕ) → latest (place_at spot t) ≡ Some n
      → has_in marks (mark_of (place_at spot t) n) ≡ true
  mark_there t n is = marked (place_at spot t) n ∙ ap (is_number n) is ∙ number_itself n

  -- no mark is there
  pub top-none : IsGreatestMark marks (mark_first spot) (mark_end spot) None
      → IsLatestBut latest spot trx None
  top-none none t other =
      is_none (latest (place_at spot t)) (λ n is.
      let there = mark_there t n is in
      let gone = none (mark_of (place_at spot t) n) (from_first spot t n) (to_end spot t n) in
      cc)

  module _ (last : Mark) (top : IsGreatestMark marks (mark_first spot) (mark_end spot) (Some last))
    where
      last_is : last ≡ mark_of (place_at spot last.trx) last.number
      last_is = at_spot spot last top.0 top.1

      -- none is above the last
      upmost : (t : TrxId) (n : ℕ) → latest (place_at spot t) ≡ Some n
          → is_lt (mark_cmp (mark_of (place_at spot last.trx) last.number)
          (mark_of (place_at spot t) n)) ≡ false
      upmost t n is =
          ap (λ m. is_lt (mark_cmp m (mark_of (place_at spot t) n))) (sym last_is)
          ∙ top.3 (mark_of (place_at spot t) n) (from_first spot t n) (to_end spot t n)
          (mark_there t n is)

      -- the last is another's
      pub top-first : same_trx trx last.trx ≡ false → IsTopBut latest spot trx last.number
      top-first other = record {
        of = last.trx;
        other = other;
        has = number_at last top.0 top.1 top.2;
        most = λ t n apart is. not_above spot last.trx t last.number n (upmost t n is);
      }

      module _ (own : same_trx trx last.trx ≡ true) where
        is_own : trx ≡ last.trx
        is_own = trx_exact trx last.trx (is_equal (trx_cmp trx last.trx) own)

        -- another's is below the last
        below : (t : TrxId) (n : ℕ) → same_trx trx t ≡ false → latest (place_at spot t) ≡ Some n
            → IsLtBy mark_cmp (mark_of (place_at spot t) n) last
        below t n apart is =
            ap (mark_cmp (mark_of (place_at spot t) n)) last_is
            ∙ above_other spot last.trx t last.number n
            (ap (λ u. same_trx u t) (sym is_own) ∙ apart)
            (upmost t n is)

        -- it is its own, and there is no other
        pub top-only : IsGreatestMark marks (mark_first spot) last None
            → IsLatestBut latest spot trx None
        top-only none t apart =
            is_none (latest (place_at spot t)) (λ n is.
            let there = mark_there t n is in
            let gone = none (mark_of (place_at spot t) n) (from_first spot t n)
            (below t n apart is) in
            cc)

        -- or the one before it is the greatest of another
        pub top-second : (next : Mark) → IsGreatestMark marks (mark_first spot) last (Some next)
            → IsTopBut latest spot trx next.number
        top-second next second = record {
          of = next.trx;
          other = is_false (same_trx trx next.trx) apart;
          has = next_number;
          most = λ t n apart is.
              not_above spot next.trx t next.number n
              (ap (λ m. is_lt (mark_cmp m (mark_of (place_at spot t) n))) (sym next_is)
              ∙ second.3 (mark_of (place_at spot t) n) (from_first spot t n) (below t n apart is)
              (mark_there t n is));
        }
          where
            to : IsLtBy mark_cmp next (mark_end spot)
            to = mark_total.trans next last (mark_end spot) second.1 top.1

            next_is : next ≡ mark_of (place_at spot next.trx) next.number
            next_is = at_spot spot next second.0 to

            next_number : latest (place_at spot next.trx) ≡ Some next.number
            next_number = number_at next second.0 to second.2

            apart : same_trx trx next.trx ≡ true → ⊥
            apart e =
                let here : last.trx ≡ next.trx = sym is_own
                ∙ trx_exact trx next.trx (is_equal (trx_cmp trx next.trx) e) in
                let same : last.number ≡ next.number =
                same_some last.number next.number
                (sym (number_at last top.0 top.1 top.2) ∙ ap (λ t. latest (place_at spot t)) here
                ∙ next_number) in
                let marks_same : next ≡ last =
                next_is ∙ (λ i. mark_of (place_at spot (sym here i)) (sym same i)) ∙ sym last_is in
                let tie = sym (ap (mark_cmp next) (sym marks_same) ∙ tied_itself mark_total next) in
                let before = second.1 in
                cc

-- ---- as the code finds them
pub greatest-as : (marks : List Mark) (from first end to : Mark) (found top : Option Mark)
    → from ≡ first → end ≡ to
    → found ≡ top → IsGreatestMark marks from end found → IsGreatestMark marks first to top
greatest-as marks from first end to found top at_first at_end at_top greatest =
    subst (λ (m : Mark). IsGreatestMark marks m to top) at_first
    (subst (λ (m : Mark). IsGreatestMark marks from m top) at_end
    (subst (λ (o : Option Mark). IsGreatestMark marks from end o) at_top greatest))

pub none-as : (latest : Place → Option ℕ) (spot : Spot) (trx : TrxId) (o : Option ℕ) → o ≡ None
    → IsLatestBut latest spot trx None → IsLatestBut latest spot trx o
none-as latest spot trx o is none =
    subst (λ (found : Option ℕ). IsLatestBut latest spot trx found) (sym is) none

not_true : (b : Bool) → not b ≡ true → b ≡ false
not_true true e = cc
not_true false e = refl

not_false : (b : Bool) → not b ≡ false → b ≡ true
not_false true e = refl
not_false false e = cc

pub other_trx : (t u : TrxId) → not (nat_eq t.member u.member && nat_eq t.begin u.begin) ≡ true
    → same_trx u t ≡ false
other_trx t u e = (eq_by_cmp_equiv trx_total).symm u t ∙ sym (trx_ties t u) ∙ not_true _ e

pub own_trx : (t u : TrxId) → not (nat_eq t.member u.member && nat_eq t.begin u.begin) ≡ false
    → same_trx u t ≡ true
own_trx t u e = (eq_by_cmp_equiv trx_total).symm u t ∙ sym (trx_ties t u) ∙ not_false _ e
