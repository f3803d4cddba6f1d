-- What became of the numbers that are certified and not committed goes along with what is certified and with what is committed.
use Rattle.std.proofs.Common.{◌≡◌, ℕ, zero, suc, ◌+◌, ◌-◌, ◌≤◌, ◌<◌, List, [], ◌∷◌, ◌++◌, length, Option, None, Some, refl, ap, sym, ◌∙◌, arith, add-one}
use Rattle.std.specs.Prelude.{slice_get, drop}
use Rattle.std.specs.Option.{option_to_list}
use Rattle.wsrep_base.specs.declared.verdict.Judged.{Judged}
use Rattle.order_event.specs.declared.event.Event.{Event}
use Rattle.cert_meaning.specs.Fold.{judged, state_at}
use Rattle.cert_meaning.proofs.FoldLaws.{state_at-append}
use Rattle.node_meaning.specs.Units.{judged_at, judged_by}
use Rattle.certification.specs.Certifies.{judged_after, judged_between}

-- one more
after_more : (order : List Event) (number count : ℕ)
    → judged_after order number (suc count) ≡ judged_after order number count ++ judged_at order (suc (number + count)) ∷ []
after_more order number zero = ap (λ n. judged_at order (suc n) ∷ []) (let same : number ≡ number + 0 = omega arith in same)
after_more order number (suc count) =
    ap (λ js. judged_at order (suc number) ∷ js)
    (after_more order (suc number) count
    ∙ ap (λ n. judged_after order (suc number) count ++ judged_at order (suc n) ∷ [])
    (let same : suc number + count ≡ number + suc count = omega arith in same))

pub verdicts_more : (order : List Event) (committed certified : ℕ) → committed ≤ certified → (e : Event) → slice_get order certified ≡ Some e
    → (became : Judged) → became ≡ judged (state_at order certified) e
    → judged_between order committed certified ++ became ∷ [] ≡ judged_between order committed (certified + 1)
verdicts_more order committed certified fits e there became is =
    ap (λ j. judged_between order committed certified ++ j ∷ [])
    (is ∙ sym (ap (judged_by (state_at order certified)) there)
    ∙ ap (λ n. judged_at order (suc n)) (let same : certified ≡ committed + (certified - committed) = omega (arith, fits) in same))
    ∙ sym (after_more order committed (certified - committed))
    ∙ ap (judged_after order committed) (let same : suc (certified - committed) ≡ certified + 1 - committed = omega (arith, fits) in same)

-- one less
after_less : (order : List Event) (number rest count : ℕ) → rest ≡ count - 1
    → drop 1 (judged_after order number count) ≡ judged_after order (suc number) rest
after_less order number rest zero is = sym (ap (judged_after order (suc number)) (let none : rest ≡ 0 = omega (arith, is) in none))
after_less order number rest (suc count) is = sym (ap (judged_after order (suc number)) (let same : rest ≡ count = omega (arith, is) in same))

pub verdicts_less : (order : List Event) (committed certified : ℕ)
    → drop 1 (judged_between order committed certified) ≡ judged_between order (committed + 1) certified
verdicts_less order committed certified =
    after_less order committed (certified - (committed + 1)) (certified - committed) (omega arith)
    ∙ ap (λ n. judged_after order n (certified - (committed + 1))) (sym (add-one committed))

-- the first of them
after_first : (order : List Event) (number count : ℕ) → 0 < count
    → slice_get (judged_after order number count) 0 ≡ Some (judged_at order (suc number))
after_first order number zero some = absurd (omega (arith, some))
after_first order number (suc count) some = refl

pub verdict_next : (order : List Event) (committed certified number : ℕ) → committed < certified → number ≡ committed + 1
    → slice_get (judged_between order committed certified) 0 ≡ Some (judged_at order number)
verdict_next order committed certified number more next =
    after_first order committed (certified - committed) (omega (arith, more))
    ∙ ap (λ n. Some (judged_at order n)) (sym (next ∙ add-one committed))

-- what is taken out is the first of them
pub popped : (o : Option Judged) (xs rest : List Judged) (j : Judged) → xs ≡ option_to_list o ++ rest → rest ≡ drop 1 xs
    → slice_get xs 0 ≡ Some j → o ≡ Some j
popped (Some k) xs rest j items less first = sym (ap (λ js. slice_get js 0) items) ∙ first
popped None [] rest j items less first = absurd cc
popped None (x ∷ xs) rest j items less first = let long = ap length (items ∙ less) in absurd (omega (arith, long))

-- the order goes on
get_front : {A : Type 0} (xs ys : List A) (n : ℕ) → suc n ≤ length xs → slice_get (xs ++ ys) n ≡ slice_get xs n
get_front [] ys n below = absurd (omega (arith, below))
get_front (x ∷ xs) ys zero below = refl
get_front (x ∷ xs) ys (suc n) below = get_front xs ys n (omega (arith, below))

module _ (order more : List Event) where
  at_append : (number : ℕ) → suc number ≤ length order → judged_at (order ++ more) (suc number) ≡ judged_at order (suc number)
  at_append number within =
      ap (λ s. judged_by s (slice_get (order ++ more) number)) (state_at-append order more number (omega (arith, within)))
      ∙ ap (judged_by (state_at order number)) (get_front order more number within)

  after_append : (number count : ℕ) → count ≤ length order - number → judged_after (order ++ more) number count ≡ judged_after order number count
  after_append number zero within = refl
  after_append number (suc count) within =
      ap (λ j. j ∷ judged_after (order ++ more) (suc number) count) (at_append number (omega (arith, within)))
      ∙ ap (λ js. judged_at order (suc number) ∷ js) (after_append (suc number) count (omega (arith, within)))

  pub verdicts_append : (committed certified : ℕ) → certified ≤ length order
      → judged_between (order ++ more) committed certified ≡ judged_between order committed certified
  verdicts_append committed certified within = after_append committed (certified - committed) (omega (arith, within))
