-- What a split and a join make of the seats, and what is left at the end.
use Rattle.std.proofs.Common.{◌≡◌, ◌≢◌, ℕ, zero, suc, ◌+◌, true, false, cond, List, [], ◌∷◌, ◌++◌, length, set, refl, sym, ap, ◌∙◌, subst, ⊎_elim, arith, count_by, Contains, length-set}
use Rattle.std.proofs.lemmas.Bool.{false≢true}
use Rattle.std.proofs.lemmas.List.Elements.{Contains-append_left, Contains-push}
use mathlib.Core.Option.{some, some-injective, some-ne-none}
use lib.ListN.{get_elem?}
use Rattle.atomic_table.proofs.Lists.{at_set, set_here, set_else, at_longer}
use Rattle.node_gate.specs.Seats.{Rank, Seats}
use Rattle.node_gate.proofs.Counts.{inside, same_read, at_pushed, count_set, count_pushed, length_pushed}

-- a seat with the number 0 is the first one
pub is_first : (rs : List Rank) (i : ℕ) (r : Rank) → Seats rs → get_elem? rs i ≡ some r
    → r.alive ≡ true → r.number ≡ 0 → i ≡ 0
is_first rs i r s at alive zero_is = sym (s.numbered i r at alive) ∙ zero_is

-- what the rule says of the first seat, it says of the seat with the number 0
pub same_first : (rs : List Rank) (i : ℕ) (r : Rank) (s : Seats rs) → get_elem? rs i ≡ some r
    → r.alive ≡ true → r.number ≡ 0 → s.first ≡ r
same_first rs i r s at alive zero_is = same_read rs 0 s.first r s.first_at
    (subst (λ k. get_elem? rs k ≡ some r) (is_first rs i r s at alive zero_is) at)

pub as_many : (rs : List Rank) (i : ℕ) (r : Rank) → Seats rs → get_elem? rs i ≡ some r
    → r.alive ≡ true → r.number ≡ 0 → r.splits + 1 ≡ length rs
as_many rs i r s at alive zero_is =
    ap (λ x. x.splits + 1) (sym (same_first rs i r s at alive zero_is)) ∙ s.given

-- the first seat once one more was split off it
abbrev one_more : Rank → Rank
one_more r = record r { splits = r.splits + 1 }

-- the seat that was split off
abbrev split_off : Rank → Rank
split_off r = record { alive = true; number = r.splits + 1; splits = 0; met = [] }

-- the seat with the number 0 splits one off
pub splits_off : (rs : List Rank) (i : ℕ) (r : Rank) → Seats rs → get_elem? rs i ≡ some r
    → r.alive ≡ true → r.number ≡ 0 → Seats (set rs i (one_more r) ++ split_off r ∷ [])
splits_off rs i r s at alive zero_is =
    let rs' : List Rank = set rs i (one_more r) in
    let in' = inside rs i r at in
    let long : length rs' ≡ length rs = length-set rs i (one_more r) in
    let more : r.splits + 1 ≡ length rs = as_many rs i r s at alive zero_is in
    let is : s.first ≡ r = same_first rs i r s at alive zero_is in record {
      first = one_more r;
      first_at = at_longer rs' (split_off r ∷ []) 0 (one_more r)
          (subst (λ k. get_elem? rs' k ≡ some (one_more r)) (is_first rs i r s at alive zero_is)
          (set_here rs i (one_more r) in'.0));
      given = let e = length_pushed rs' (split_off r) in omega arith;
      numbered = λ j q e alive'. ⊎_elim
          (λ t. ⊎_elim (λ p. ap (λ x. x.number) (sym p.1) ∙ s.numbered i r at alive ∙ sym p.0)
          (λ p. s.numbered j q p.1 alive') (at_set rs i j (one_more r) q t))
          (λ p. ap (λ x. x.number) (sym p.1) ∙ more ∙ sym long ∙ sym p.0)
          (at_pushed rs' (split_off r) q j e);
      counted = let x : ℕ = cond r.alive 1 0 in
          let a : count_by (λ q. q.alive) rs' + x ≡ count_by (λ q. q.alive) rs + x =
          count_set (λ q. q.alive) rs i r (one_more r) at in
          let b : count_by (λ q. q.alive) (rs' ++ split_off r ∷ []) ≡ count_by (λ q. q.alive) rs' + 1 =
          count_pushed (λ q. q.alive) rs' (split_off r) in
          let c = s.counted in let d : length s.first.met ≡ length r.met = ap (λ q. length q.met) is in
          let e = length_pushed rs' (split_off r) in omega arith;
      all_met = λ j q e dead. ⊎_elim
          (λ t. ⊎_elim
          (λ p. absurd (false≢true (sym dead ∙ ap (λ x. x.alive) (sym p.1) ∙ alive)))
          (λ p. subst (λ f. Contains f.met j) is (s.all_met j q p.1 dead))
          (at_set rs i j (one_more r) q t))
          (λ p. absurd (false≢true (sym dead ∙ ap (λ x. x.alive) (sym p.1))))
          (at_pushed rs' (split_off r) q j e);
    }

-- the first seat once it took another in
abbrev with_met : Rank → Rank → Rank
with_met r q = record r { met = r.met ++ q.number ∷ [] }

-- the seat with the number 0 takes another in, of which d is left
pub takes_in : (rs : List Rank) (i j : ℕ) (r q d : Rank) → Seats rs → get_elem? rs i ≡ some r
    → r.alive ≡ true → r.number ≡ 0 → j ≢ i → get_elem? rs j ≡ some q → q.alive ≡ true
    → d.alive ≡ false → Seats (set (set rs i (with_met r q)) j d)
takes_in rs i j r q d s at alive zero_is other at' alive' dead =
    let rs' : List Rank = set rs i (with_met r q) in
    let in' = inside rs i r at in
    let long : length (set rs' j d) ≡ length rs =
    length-set rs' j d ∙ length-set rs i (with_met r q) in
    let more : r.splits + 1 ≡ length rs = as_many rs i r s at alive zero_is in
    let is : s.first ≡ r = same_first rs i r s at alive zero_is in
    let there : get_elem? rs' j ≡ some q = set_else rs i j (with_met r q) other ∙ at' in record {
      first = with_met r q;
      first_at = subst (λ k. get_elem? (set rs' j d) k ≡ some (with_met r q))
          (is_first rs i r s at alive zero_is)
          (set_else rs' j i d (λ e. other (sym e)) ∙ set_here rs i (with_met r q) in'.0);
      given = more ∙ sym long;
      numbered = λ k x e alive-x. ⊎_elim
          (λ p. absurd (false≢true (sym dead ∙ ap (λ y. y.alive) p.1 ∙ alive-x)))
          (λ p. ⊎_elim (λ t. ap (λ y. y.number) (sym t.1) ∙ s.numbered i r at alive ∙ sym t.0)
          (λ t. s.numbered k x t.1 alive-x) (at_set rs i k (with_met r q) x p.1))
          (at_set rs' j k d x e);
      counted = let x : ℕ = cond r.alive 1 0 in
          let a : count_by (λ y. y.alive) rs' + x ≡ count_by (λ y. y.alive) rs + x =
          count_set (λ y. y.alive) rs i r (with_met r q) at in
          let b : count_by (λ y. y.alive) (set rs' j d) + 1 ≡ count_by (λ y. y.alive) rs' + 0 =
          ap (λ t. count_by (λ y. y.alive) (set rs' j d) + cond t 1 0) (sym alive')
          ∙ count_set (λ y. y.alive) rs' j q d there
          ∙ ap (λ t. count_by (λ y. y.alive) rs' + cond t 1 0) dead in
          let c = s.counted in let l : length s.first.met ≡ length r.met = ap (λ y. length y.met) is in
          let e = length_pushed r.met q.number in omega arith;
      all_met = λ k x e dead-x. ⊎_elim
          (λ p. subst (Contains (r.met ++ q.number ∷ [])) (s.numbered j q at' alive' ∙ sym p.0)
          (Contains-push r.met q.number))
          (λ p. ⊎_elim
          (λ t. absurd (false≢true (sym dead-x ∙ ap (λ y. y.alive) (sym t.1) ∙ alive)))
          (λ t. Contains-append_left r.met (q.number ∷ []) k
          (subst (λ f. Contains f.met k) is (s.all_met k x t.1 dead-x)))
          (at_set rs i k (with_met r q) x p.1))
          (at_set rs' j k d x e);
    }

-- one seat, which is the first
pub one_seat : (r : Rank) → r.alive ≡ true → r.number ≡ 0 → r.splits ≡ 0 → r.met ≡ []
    → Seats (r ∷ [])
one_seat r alive zero_is none empty = record {
  first = r;
  first_at = refl;
  given = ap (λ n. n + 1) none;
  numbered = λ i q at alive'. only_number i q at;
  counted = let a : count_by (λ y. y.alive) (r ∷ []) ≡ 1 = ap (λ t. 0 + cond t 1 0) alive in
      let b : length r.met ≡ 0 = ap length empty in omega arith;
  all_met = λ i q at dead. absurd (only_alive i q at dead);
} where
  only_number : (i : ℕ) (q : Rank) → get_elem? (r ∷ []) i ≡ some q → q.number ≡ i
  only_number zero q at = ap (λ x. x.number) (sym (some-injective r q at)) ∙ zero_is
  only_number (suc i) q at = absurd (some-ne-none q (sym at))

  only_alive : (i : ℕ) (q : Rank) → get_elem? (r ∷ []) i ≡ some q → q.alive ≡ false → ⊥
  only_alive zero q at dead =
      false≢true (sym dead ∙ ap (λ x. x.alive) (sym (some-injective r q at)) ∙ alive)
  only_alive (suc i) q at dead = some-ne-none q (sym at)
