-- Commits searched by halves: those below a number stand in front, and the one with the number next.
use Rattle.std.proofs.Common.{◌≡◌, ℕ, zero, suc, ◌+◌, ◌≤◌, ◌<◌, Bool, true, false, cond, List, [], ◌∷◌, length, get_or, Option, None, Some, refl, sym, ap, ◌∙◌, arith, eqb-true, ltb-true, le-ltb}
use Rattle.std.proofs.lemmas.Bool.{ltb-false}
use Rattle.std.specs.Prelude.{nat_lt, ◌==◌, take, slice_get}
use Rattle.std.specs.List.{filter}
use Rattle.std.specs.List.Sorted.{IsNonDecreasingBy, IsPartitionPoint}
use Rattle.cert_meaning.specs.State.{CommitItem, RiseWithin, commit_numbered}
use Rattle.cert_meaning.specs.Search.{commits_below}
use Rattle.cert_meaning.proofs.CommitLaws.{numbered_above}

above_all : (above most : ℕ) (cs : List CommitItem) → RiseWithin above most cs → (j : ℕ) (d : CommitItem) → j < length cs
    → above < (get_or cs j d).number
above_all above most [] rise j d within = absurd (omega (arith, within))
above_all above most (c ∷ cs) rise zero d within = rise.0
above_all above most (c ∷ cs) rise (suc j) d within =
    let later = above_all c.number most cs rise.2 j d (omega (arith, within)) in omega (arith, rise.0, later)

-- numbers that rise do not fall
pub never_falls : (above most : ℕ) (cs : List CommitItem) → RiseWithin above most cs → IsNonDecreasingBy (λ (c : CommitItem). c.number) cs
never_falls above most [] rise i j d le within = absurd (omega (arith, within))
never_falls above most (c ∷ cs) rise zero zero d le within = omega arith
never_falls above most (c ∷ cs) rise zero (suc j) d le within =
    let later = above_all c.number most cs rise.2 j d (omega (arith, within)) in omega (arith, later)
never_falls above most (c ∷ cs) rise (suc i) zero d le within = absurd (omega (arith, le))
never_falls above most (c ∷ cs) rise (suc i) (suc j) d le within =
    never_falls c.number most cs rise.2 i j d (omega (arith, le)) (omega (arith, within))

module _ {X : Type 0} (test : X → Bool) where
  abbrev Parts : List X → ℕ → Type 0
  Parts xs i = IsPartitionPoint (λ y. test y ≡ true) (λ y. test y ≡ false) xs i

  -- what passes stands in front of the point
  pub taken : (xs : List X) (i : ℕ) → i ≤ length xs → Parts xs i → take i xs ≡ filter test xs
  taken [] zero within parts = refl
  taken [] (suc i) within parts = absurd (omega (arith, within))
  taken (x ∷ xs) zero within parts =
      taken xs zero (omega arith) (λ k d low high. absurd (omega (arith, high)), λ k d low high. parts.1 (suc k) d (omega arith) (omega (arith, high)))
      ∙ ap (λ b. cond b (x ∷ filter test xs) (filter test xs)) (sym (parts.1 0 x (omega arith) (omega arith)))
  taken (x ∷ xs) (suc i) within parts =
      ap (λ ys. x ∷ ys) (taken xs i (omega (arith, within))
      (λ k d low high. parts.0 (suc k) d (omega arith) (omega (arith, high)), λ k d low high. parts.1 (suc k) d (omega (arith, low)) (omega (arith, high))))
      ∙ ap (λ b. cond b (x ∷ filter test xs) (filter test xs)) (sym (parts.0 0 x (omega arith) (omega arith)))

-- none of these is below the number
none_below : (above most n : ℕ) (cs : List CommitItem) → n ≤ above + 1 → RiseWithin above most cs → commits_below n cs ≡ []
none_below above most n [] fits rise = refl
none_below above most n (c ∷ cs) fits rise =
    ap (λ b. cond b (c ∷ commits_below n cs) (commits_below n cs)) (le-ltb c.number n (omega (arith, fits, rise.0)))
    ∙ none_below c.number most n cs (omega (arith, fits, rise.0)) rise.2

-- the commit behind those below the number, where it has the number
abbrev pub with_number : ℕ → Option CommitItem → Option CommitItem
with_number n None = None
with_number n (Some c) = cond (c.number == n) (Some c) None

behind : (above most n : ℕ) (c : CommitItem) (cs : List CommitItem) (below same : Bool)
    → nat_lt c.number n ≡ below → c.number == n ≡ same → RiseWithin above most (c ∷ cs)
    → commit_numbered n cs ≡ with_number n (slice_get cs (length (commits_below n cs)))
    → commit_numbered n (c ∷ cs) ≡ with_number n (slice_get (c ∷ cs) (length (cond below (c ∷ commits_below n cs) (commits_below n cs))))
behind above most n c cs true true is_below is_same rise rest = absurd (omega (arith, ltb-true c.number n is_below, eqb-true c.number n is_same))
behind above most n c cs true false is_below is_same rise rest = ap (λ b. cond b (Some c) (commit_numbered n cs)) is_same ∙ rest
behind above most n c cs false same is_below is_same rise rest =
    let past : n ≤ c.number = ltb-false c.number n is_below in
    here same is_same past
    ∙ ap (λ below. with_number n (slice_get (c ∷ cs) (length below))) (sym (none_below c.number most n cs (omega (arith, past)) rise.2))
  where
    here : (same : Bool) → c.number == n ≡ same → n ≤ c.number → commit_numbered n (c ∷ cs) ≡ with_number n (Some c)
    here true is past = ap (λ b. cond b (Some c) (commit_numbered n cs)) is ∙ sym (ap (λ b. cond b (Some c) None) is)
    here false is past =
        ap (λ b. cond b (Some c) (commit_numbered n cs)) is
        ∙ numbered_above c.number most n cs past rise.2
        ∙ sym (ap (λ b. cond b (Some c) None) is)

pub numbered_next : (above most n : ℕ) (cs : List CommitItem) → RiseWithin above most cs
    → commit_numbered n cs ≡ with_number n (slice_get cs (length (commits_below n cs)))
numbered_next above most n [] rise = refl
numbered_next above most n (c ∷ cs) rise =
    behind above most n c cs (nat_lt c.number n) (c.number == n) refl refl rise (numbered_next c.number most n cs rise.2)

rise_chosen : (above most : ℕ) (c : CommitItem) (rest : List CommitItem) (b : Bool) → above < c.number → c.number ≤ most
    → RiseWithin c.number most rest → RiseWithin above most rest → RiseWithin above most (cond b (c ∷ rest) rest)
rise_chosen above most c rest true low high later skipped = (low, high, later)
rise_chosen above most c rest false low high later skipped = skipped

-- some of the commits rise too
pub rise_filter : (above low most : ℕ) (test : CommitItem → Bool) (cs : List CommitItem) → above ≤ low → RiseWithin low most cs
    → RiseWithin above most (filter test cs)
rise_filter above low most test [] fits rise = tt
rise_filter above low most test (c ∷ cs) fits rise =
    rise_chosen above most c (filter test cs) (test c) (omega (arith, fits, rise.0)) rise.1
    (rise_filter c.number c.number most test cs (omega arith) rise.2)
    (rise_filter above c.number most test cs (omega (arith, fits, rise.0)) rise.2)
