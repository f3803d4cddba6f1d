-- Marks and places: which are the same, and what is marked after an edit.
use Rattle.std.proofs.Common.{◌≡◌, ℕ, zero, suc, ◌+◌, ◌<◌, length, take, get_or, Bool, true, false, cond, ◌||◌, ◌&&◌, List, [], ◌∷◌, Option, Some, None, refl, sym, ap, ◌∙◌}
use Rattle.std.specs.Prelude.{not, nat_eq, T}
use Rattle.std.specs.Bool.{beq}
use Rattle.std.specs.Cmp.{first_so, second_so, both_tied, unsigned_ties, nat_eq_equiv}
use Rattle.std.specs.Ordering.{is_eq, nat_cmp}
use Rattle.std.proofs.Math.Dec.{eqb→eq}
use Rattle.std.proofs.lemmas.List.Folds.{list_any_at, list_any_more}
use Rattle.wsrep_base.specs.declared.ids.TrxId.{TrxId}
use Rattle.key_sets.specs.Parts.{parts_eq, parts_same}
use Rattle.key_sets.proofs.PartsLemmas.{parts_eq-same, same_parts-itself}
use Rattle.sr_fragments.specs.declared.spot.Place.{Place}
use Rattle.sr_fragments.specs.Spots.{mark_cmp, mark_of, rank_of}
use Rattle.sr_fragments.specs.HeldIndex.{is_in, is_number, is_replaced, place_eq}
use Rattle.cert_meaning.proofs.TrxLemmas.{trx_ties}

-- ---- equal numbers and places
pub number_same : (m n : ℕ) → nat_eq m n ≡ true → m ≡ n
number_same m n e = eqb→eq m n (by (nat_eq m n) e)
  where
    by : (b : Bool) → b ≡ true → T b
    by true e = tt
    by false e = cc

pub differs : (m n : ℕ) → (m ≡ n → ⊥) → nat_eq m n ≡ false
differs m n apart = by (nat_eq m n) refl
  where
    by : (b : Bool) → nat_eq m n ≡ b → nat_eq m n ≡ false
    by true e = absurd (apart (number_same m n e))
    by false e = e

pub number_itself : (n : ℕ) → nat_eq n n ≡ true
number_itself n = nat_eq_equiv.refl n

same_bool : (a b : Bool) → beq a b ≡ true → a ≡ b
same_bool true true e = refl
same_bool true false e = cc
same_bool false true e = cc
same_bool false false e = refl

itself_bool : (a : Bool) → beq a a ≡ true
itself_bool true = refl
itself_bool false = refl

pub trx_same : (t u : TrxId) → (nat_eq t.member u.member && nat_eq t.begin u.begin) ≡ true → t ≡ u
trx_same t u e =
    let members = number_same t.member u.member (first_so _ _ e) in
    let begins = number_same t.begin u.begin (second_so (nat_eq t.member u.member) _ e) in
    λ i. record { member = members i; begin = begins i }

pub place_same : (p q : Place) → place_eq p q ≡ true → p ≡ q
place_same p q e =
    let spots = first_so _ _ e in
    let trxs = trx_same p.trx q.trx
    (second_so (parts_eq p.spot.parts q.spot.parts && beq p.spot.changing q.spot.changing) _
    e) in
    let parts = parts_same p.spot.parts q.spot.parts (first_so _ _ spots) in
    let changing = same_bool p.spot.changing q.spot.changing
    (second_so (parts_eq p.spot.parts q.spot.parts) _ spots) in
    λ i. record { spot = record { parts = parts i; changing = changing i }; trx = trxs i }

both : (a b : Bool) → a ≡ true → b ≡ true → a && b ≡ true
both a b e f = λ i. (ap (λ c. c && b) e ∙ f) i

pub place_itself : (p : Place) → place_eq p p ≡ true
place_itself p =
    both (parts_eq p.spot.parts p.spot.parts && beq p.spot.changing p.spot.changing)
    (nat_eq p.trx.member p.trx.member && nat_eq p.trx.begin p.trx.begin)
    (both (parts_eq p.spot.parts p.spot.parts) (beq p.spot.changing p.spot.changing)
    (parts_eq-same p.spot.parts p.spot.parts ∙ same_parts-itself p.spot.parts)
    (itself_bool p.spot.changing))
    (both (nat_eq p.trx.member p.trx.member) (nat_eq p.trx.begin p.trx.begin)
    (number_itself p.trx.member) (number_itself p.trx.begin))

-- ---- equal marks
rank_ties : (a b : Bool) → beq a b ≡ is_eq (nat_cmp (rank_of a) (rank_of b))
rank_ties true true = refl
rank_ties true false = refl
rank_ties false true = refl
rank_ties false false = refl

turned : (p b t n : Bool) → p && (b && (n && t)) ≡ ((p && b) && t) && n
turned false b t n = refl
turned true false t n = refl
turned true true true true = refl
turned true true true false = refl
turned true true false true = refl
turned true true false false = refl

pub mark_ties : (p q : Place) (m n : ℕ)
    → is_eq (mark_cmp (mark_of p m) (mark_of q n)) ≡ place_eq p q && nat_eq m n
mark_ties p q m n =
    sym (both_tied (parts_eq p.spot.parts q.spot.parts) _ _ _
    (parts_eq-same p.spot.parts q.spot.parts)
    (both_tied (beq p.spot.changing q.spot.changing) _ _ _
    (rank_ties p.spot.changing q.spot.changing)
    (both_tied (nat_eq m n) _ _ _ (unsigned_ties m n) (trx_ties p.trx q.trx))))
    ∙ turned (parts_eq p.spot.parts q.spot.parts) (beq p.spot.changing q.spot.changing)
    (nat_eq p.trx.member q.trx.member && nat_eq p.trx.begin q.trx.begin) (nat_eq m n)

-- ---- what is marked, once a mark is put or taken
pub marks-put : (place : Place) (number : ℕ) (p : Place) (n : ℕ) (had has : Bool)
    → has ≡ cond (is_eq (mark_cmp (mark_of place number) (mark_of p n))) true had
    → has ≡ (place_eq place p && nat_eq number n) || had
marks-put place number p n had has is =
    is ∙ ap (λ b. cond b true had) (mark_ties place p number n)
    ∙ by (place_eq place p && nat_eq number n)
  where
    by : (b : Bool) → cond b true had ≡ b || had
    by true = refl
    by false = refl

pub marks-taken : (place : Place) (number : ℕ) (p : Place) (n : ℕ) (had has : Bool)
    → has ≡ cond (is_eq (mark_cmp (mark_of place number) (mark_of p n))) false had
    → has ≡ not (place_eq place p && nat_eq number n) && had
marks-taken place number p n had has is =
    is ∙ ap (λ b. cond b false had) (mark_ties place p number n)
    ∙ by (place_eq place p && nat_eq number n) had
  where
    by : (b had : Bool) → cond b false had ≡ not b && had
    by true had = refl
    by false had = refl

-- ---- one place more
abbrev pub blank : Place
blank = record {
  spot = record { parts = record { table = []; row = None }; changing = false };
  trx = record { member = 0; begin = 0 };
}

part_of : (same part all : Bool) → (part ≡ true → all ≡ true) → same || part ≡ true
    → same || all ≡ true
part_of true part all more is = refl
part_of false part all more is = more is

-- what is among the first places is among all
pub is_in-part : (places : List Place) (i : ℕ) (p : Place) → is_in p (take i places) ≡ true
    → is_in p places ≡ true
is_in-part [] zero p is = is
is_in-part [] (suc i) p is = is
is_in-part (q ∷ qs) zero p is = cc
is_in-part (q ∷ qs) (suc i) p is = part_of (place_eq q p) _ _ (is_in-part qs i p) is

pub is_in-more : (places : List Place) (i : ℕ) (d p : Place) → i < length places
    → is_in p (take (i + 1) places) ≡ is_in p (take i places) || place_eq (get_or places i d) p
is_in-more places i d p within = list_any_more (λ q. place_eq q p) places i d within

put_more : (same number inside had : Bool)
    → (same && number) || ((number && inside) || had) ≡ (number && (inside || same)) || had
put_more true true true had = refl
put_more true true false had = refl
put_more true false inside had = refl
put_more false true true had = refl
put_more false true false had = refl
put_more false false inside had = refl

-- the marks of one more place are put
pub marked-more : (places : List Place) (i number : ℕ) (d p : Place) (n : ℕ) (had was has : Bool)
    → i < length places
    → was ≡ (nat_eq number n && is_in p (take i places)) || had
    → has ≡ (place_eq (get_or places i d) p && nat_eq number n) || was
    → has ≡ (nat_eq number n && is_in p (take (i + 1) places)) || had
marked-more places i number d p n had was has within before step =
    step ∙ ap (λ b. (place_eq (get_or places i d) p && nat_eq number n) || b) before
    ∙ put_more (place_eq (get_or places i d) p) (nat_eq number n) (is_in p (take i places)) had
    ∙ ap (λ b. (nat_eq number n && b) || had) (sym (is_in-more places i d p within))

take_more : (same number inside had : Bool)
    → not (same && number) && (not (number && inside) && had) ≡ not (number && (inside || same))
    && had
take_more true true true had = refl
take_more true true false had = refl
take_more true false inside had = refl
take_more false true true had = refl
take_more false true false had = refl
take_more false false inside had = refl

-- the marks of one more place are taken
pub unmarked-more : (places : List Place) (i number : ℕ) (d p : Place) (n : ℕ) (had was has : Bool)
    → i < length places
    → was ≡ not (nat_eq number n && is_in p (take i places)) && had
    → has ≡ not (place_eq (get_or places i d) p && nat_eq number n) && was
    → has ≡ not (nat_eq number n && is_in p (take (i + 1) places)) && had
unmarked-more places i number d p n had was has within before step =
    step ∙ ap (λ b. not (place_eq (get_or places i d) p && nat_eq number n) && b) before
    ∙ take_more (place_eq (get_or places i d) p) (nat_eq number n) (is_in p (take i places)) had
    ∙ ap (λ b. not (nat_eq number n && b) && had) (sym (is_in-more places i d p within))

-- marks that were put at some of the places, and not there before, are all taken away again
undone : (number inside part had : Bool) → (part ≡ true → inside ≡ true)
    → (number ≡ true → inside ≡ true → had ≡ false)
    → not (number && inside) && ((number && part) || had) ≡ had
undone false inside part had sub fresh = refl
undone true true part had sub fresh = sym (fresh refl refl)
undone true false true had sub fresh = let e = sub refl in cc
undone true false false had sub fresh = refl

pub marks-undone : (places : List Place) (i number : ℕ) (p : Place) (n : ℕ) (had was has : Bool)
    → (is_in p (take i places) ≡ true → is_in p places ≡ true)
    → (nat_eq number n ≡ true → is_in p places ≡ true → had ≡ false)
    → was ≡ (nat_eq number n && is_in p (take i places)) || had
    → has ≡ not (nat_eq number n && is_in p places) && was
    → has ≡ had
marks-undone places i number p n had was has sub fresh before step =
    step ∙ ap (λ b. not (nat_eq number n && is_in p places) && b) before
    ∙ undone (nat_eq number n) (is_in p places) (is_in p (take i places)) had sub fresh

-- ---- one number in place of another
replaced_some : (same old number : Bool) (has : Bool) → (old ≡ true → number ≡ false)
    → not (same && old) && has ≡ not (same && (old && not number)) && has
replaced_some false old number has apart = refl
replaced_some true false number has apart = refl
replaced_some true true number has apart = ap (λ b. not (not b) && has) (sym (apart refl))

-- what was at the place is marked no longer
pub raised-old : (place p : Place) (old number n : ℕ) (had : Option ℕ) (was has : Bool)
    → (place_eq place p ≡ true → had ≡ Some old) → (nat_eq number old ≡ false)
    → has ≡ not (place_eq place p && nat_eq old n) && was
    → has ≡ not (place_eq place p && is_replaced n number had) && was
raised-old place p old number n had was has there apart step = step ∙ by (place_eq place p) refl
  where
    other : nat_eq old n ≡ true → nat_eq number n ≡ false
    other e = ap (nat_eq number) (sym (number_same old n e)) ∙ apart

    by : (b : Bool) → place_eq place p ≡ b
        → not (b && nat_eq old n) && was ≡ not (b && is_replaced n number had) && was
    by false e = refl
    by true e =
        replaced_some true (nat_eq old n) (nat_eq number n) was other
        ∙ ap (λ o. not (is_replaced n number o) && was) (sym (there e))

not_both : (b : Bool) → b && not b ≡ false
not_both true = refl
not_both false = refl

-- nothing is to be taken where the number was there
pub raised-same : (place p : Place) (number n : ℕ) (had : Option ℕ) (was : Bool)
    → (place_eq place p ≡ true → had ≡ Some number)
    → was ≡ not (place_eq place p && is_replaced n number had) && was
raised-same place p number n had was there = by (place_eq place p) refl
  where
    by : (b : Bool) → place_eq place p ≡ b → was ≡ not (b && is_replaced n number had) && was
    by false e = refl
    by true e =
        sym (ap (λ o. not (is_replaced n number o) && was) (there e)
        ∙ ap (λ b. not b && was) (not_both (nat_eq number n)))

-- or nothing was there
pub raised-new : (place p : Place) (number n : ℕ) (had : Option ℕ) (was : Bool)
    → (place_eq place p ≡ true → had ≡ None)
    → was ≡ not (place_eq place p && is_replaced n number had) && was
raised-new place p number n had was there = by (place_eq place p) refl
  where
    by : (b : Bool) → place_eq place p ≡ b → was ≡ not (b && is_replaced n number had) && was
    by false e = refl
    by true e = sym (ap (λ o. not (is_replaced n number o) && was) (there e))

-- ---- places raised one after another
twice : (same inside : Bool) (v o : Option ℕ)
    → cond same v (cond inside v o) ≡ cond (inside || same) v o
twice true true v o = refl
twice true false v o = refl
twice false true v o = refl
twice false false v o = refl

pub found-more : (places : List Place) (i number : ℕ) (d p : Place) (had was now : Option ℕ)
    → i < length places
    → was ≡ cond (is_in p (take i places)) (Some number) had
    → now ≡ cond (place_eq (get_or places i d) p) (Some number) was
    → now ≡ cond (is_in p (take (i + 1) places)) (Some number) had
found-more places i number d p had was now within before step =
    step ∙ ap (cond (place_eq (get_or places i d) p) (Some number)) before
    ∙ twice (place_eq (get_or places i d) p) (is_in p (take i places)) (Some number) had
    ∙ ap (λ b. cond b (Some number) had) (sym (is_in-more places i d p within))

-- what is marked at a place: the number alone where that has been raised, else what was
abbrev pub raised_mark : Bool → Bool → Bool → Bool → Bool
raised_mark done number inside had = cond done number ((number && inside) || had)

only_number : (number had : Bool) → not (had && not number) && ((number && true) || had) ≡ number
only_number true true = refl
only_number true false = refl
only_number false true = refl
only_number false false = refl

pub raised-more : (places : List Place) (i number : ℕ) (d p : Place) (n : ℕ) (had latest : Option ℕ)
    (was has : Bool)
    → i < length places
    → latest ≡ cond (is_in p (take i places)) (Some number) had
    → was ≡ raised_mark (is_in p (take i places)) (nat_eq number n) (is_in p places)
    (is_number n had)
    → has ≡ not (place_eq (get_or places i d) p && is_replaced n number latest) && was
    → has ≡ raised_mark (is_in p (take (i + 1) places)) (nat_eq number n) (is_in p places)
    (is_number n had)
raised-more places i number d p n had latest was has within found before step =
    step
    ∙ (λ j. not (place_eq (get_or places i d) p && is_replaced n number (found j)) && before j)
    ∙ by (is_in p (take i places)) (place_eq (get_or places i d) p) refl
    ∙ ap (λ b. raised_mark b (nat_eq number n) (is_in p places) (is_number n had))
    (sym (is_in-more places i d p within))
  where
    inside : place_eq (get_or places i d) p ≡ true → is_in p places ≡ true
    inside e = list_any_at (λ q. place_eq q p) places i d within e

    by : (done same : Bool) → place_eq (get_or places i d) p ≡ same
        → not (same && is_replaced n number (cond done (Some number) had))
        && raised_mark done (nat_eq number n) (is_in p places) (is_number n had)
        ≡ raised_mark (done || same) (nat_eq number n) (is_in p places) (is_number n had)
    by true false e = refl
    by true true e = ap (λ b. not b && nat_eq number n) (not_both (nat_eq number n))
    by false false e = refl
    by false true e =
        ap (λ b. not (is_replaced n number had) && ((nat_eq number n && b) || is_number n had))
        (inside e)
        ∙ only_number (nat_eq number n) (is_number n had)

and_false : (b : Bool) → b && false ≡ false
and_false true = refl
and_false false = refl

-- once all places are raised, the marks say what the table says
pub raised-all : (number n : ℕ) (inside : Bool) (had latest : Option ℕ) (has : Bool)
    → latest ≡ cond inside (Some number) had
    → has ≡ raised_mark inside (nat_eq number n) inside (is_number n had)
    → has ≡ is_number n latest
raised-all number n inside had latest has found is = is ∙ by inside ∙ ap (is_number n) (sym found)
  where
    by : (b : Bool) → raised_mark b (nat_eq number n) b (is_number n had)
        ≡ is_number n (cond b (Some number) had)
    by true = refl
    by false = ap (λ c. c || is_number n had) (and_false (nat_eq number n))

-- ---- a place forgotten
pub forgotten : (place p : Place) (number n : ℕ) (had now : Option ℕ) (was has : Bool)
    → (place_eq place p ≡ true → had ≡ Some number)
    → was ≡ is_number n had
    → now ≡ cond (place_eq place p) None had
    → has ≡ not (place_eq place p && nat_eq number n) && was
    → has ≡ is_number n now
forgotten place p number n had now was has there before gone step =
    step ∙ ap (λ b. not (place_eq place p && nat_eq number n) && b) before
    ∙ by (place_eq place p) refl
    ∙ ap (is_number n) (sym gone)
  where
    none : (b : Bool) → not b && b ≡ false
    none true = refl
    none false = refl

    by : (b : Bool) → place_eq place p ≡ b
        → not (b && nat_eq number n) && is_number n had ≡ is_number n (cond b None had)
    by false e = refl
    by true e = ap (λ o. not (nat_eq number n) && is_number n o) (there e) ∙ none (nat_eq number n)
