-- Keys that rise: where a search among them ends, and what an edit at that place makes of them.
use Rattle.std.proofs.Common.{◌≡◌, ℕ, Bool, ◌&&◌, zero, suc, ◌+◌, ◌<◌, ◌≤◌, true, false, cond, List, [], ◌∷◌, length, set, get_or, None, Some, Result, Ok, Err, IfOk, IfErr, refl, sym, ap, subst, ◌∙◌, arith}
use Rattle.std.specs.Prelude.{T}
use Rattle.std.specs.List.{insert, HoldsAt, AllWithin}
use Rattle.std.specs.List.Sorted.{IsSearchInRange, IsBinarySearchResult, IsSortedBy}
use Rattle.std.specs.Ordering.{is_lt, is_eq, ordering_reverse}
use Rattle.std.specs.declared.cmp.Ordering.{Ordering}
use Rattle.std.specs.declared.cmp.Ordering.TheVariants.{Less, Equal, Greater}
use Rattle.std.specs.FinMap.Entries.{find, put, by_order, is_sorted, below_all}
use Rattle.std.proofs.lemmas.List.Sorted.{searchable_from_sorted}
use Rattle.key_sets.specs.declared.kind.Kind.{Kind}
use Rattle.key_sets.specs.declared.parts.Parts.{Parts}
use Rattle.key_sets.specs.Parts.{parts_cmp}
use Rattle.key_sets.specs.Places.{IsAt, IsGap}
use Rattle.key_sets.proofs.PartsLemmas.{parts_total, parts_exact}

both_true : (a b : Bool) → T (a && b) → T a × T b
both_true true b h = (tt, h)
both_true false b h = absurd h

less : (o : Ordering) → T (is_lt o) → o ≡ Less
less Less h = refl
less Equal h = absurd h
less Greater h = absurd h

-- the order from the other side
turned : (p q : Parts) (o : Ordering) → parts_cmp p q ≡ o → parts_cmp q p ≡ ordering_reverse o
turned p q o is = parts_total.antisymm q p ∙ ap ordering_reverse is

module _ (p : Parts) where
  step : (e : Parts × Kind) (es : List (Parts × Kind)) (o : Ordering) → parts_cmp p e.0 ≡ o
      → find parts_cmp p (e ∷ es) ≡ cond (is_eq o) (Some e.1) (find parts_cmp p es)
  step e es o is = ap (λ r. cond (is_eq r) (Some e.1) (find parts_cmp p es)) is

  placed : (v : Kind) (e : Parts × Kind) (es : List (Parts × Kind)) (o : Ordering) → parts_cmp p e.0 ≡ o
      → put parts_cmp p v (e ∷ es) ≡ by_order o ((p, v) ∷ e ∷ es) ((e.0, v) ∷ es) (e ∷ put parts_cmp p v es)
  placed v e es o is =
      ap (λ r. by_order r ((p, v) ∷ e ∷ es) ((e.0, v) ∷ es) (e ∷ put parts_cmp p v es)) is

  -- the key that stands there is found
  pub find_at : (es : List (Parts × Kind)) (at : ℕ) (d : Parts × Kind) → IsAt p es at
      → find parts_cmp p es ≡ Some (get_or es at d).1
  find_at [] at d here = absurd here
  find_at (e ∷ es) zero d here = step e es Equal here
  find_at (e ∷ es) (suc at) d here = step e es Greater here.0 ∙ find_at es at d here.1

  pub at_within : (es : List (Parts × Kind)) (at : ℕ) → IsAt p es at → at < length es
  at_within [] at here = absurd here
  at_within (e ∷ es) zero here = omega arith
  at_within (e ∷ es) (suc at) here = let more = at_within es at here.1 in omega arith

  -- it is written over
  pub put_at : (v : Kind) (es : List (Parts × Kind)) (at : ℕ) → IsAt p es at
      → put parts_cmp p v es ≡ set es at (p, v)
  put_at v [] at here = absurd here
  put_at v (e ∷ es) zero here =
      placed v e es Equal here ∙ ap (λ (q : Parts). (q, v) ∷ es) (sym (parts_exact p e.0 here))
  put_at v (e ∷ es) (suc at) here = placed v e es Greater here.0 ∙ ap (λ l. e ∷ l) (put_at v es at here.1)

  -- parts that would go there are not found
  pub find_gap : (es : List (Parts × Kind)) (at : ℕ) → IsGap p es at → find parts_cmp p es ≡ None
  find_gap [] zero gap = refl
  find_gap [] (suc at) gap = absurd gap
  find_gap (e ∷ es) zero gap = step e es Less gap.0 ∙ find_gap es zero gap.1
  find_gap (e ∷ es) (suc at) gap = step e es Greater gap.0 ∙ find_gap es at gap.1

  pub gap_within : (es : List (Parts × Kind)) (at : ℕ) → IsGap p es at → at ≤ length es
  gap_within [] zero gap = omega arith
  gap_within [] (suc at) gap = absurd gap
  gap_within (e ∷ es) zero gap = omega arith
  gap_within (e ∷ es) (suc at) gap = let more = gap_within es at gap.1 in omega arith

  -- the key goes there
  pub put_gap : (v : Kind) (es : List (Parts × Kind)) (at : ℕ) → IsGap p es at
      → put parts_cmp p v es ≡ insert es at (p, v)
  put_gap v [] zero gap = refl
  put_gap v [] (suc at) gap = absurd gap
  put_gap v (e ∷ es) zero gap = placed v e es Less gap.0
  put_gap v (e ∷ es) (suc at) gap = placed v e es Greater gap.0 ∙ ap (λ l. e ∷ l) (put_gap v es at gap.1)

  -- what the search says of each key, as of the list
  lower : (e : Parts × Kind) (es : List (Parts × Kind)) (at : ℕ) → T (below_all parts_cmp e.0 es) → at < length es
      → parts_cmp e.0 (get_or es at e).0 ≡ Less
  lower e es at below within = below_at e.0 es at e below within
    where
      below_at : (x : Parts) (fs : List (Parts × Kind)) (k : ℕ) (d : Parts × Kind) → T (below_all parts_cmp x fs)
          → k < length fs → parts_cmp x (get_or fs k d).0 ≡ Less
      below_at x [] k d h w = absurd (omega arith)
      below_at x (f ∷ fs) zero d h w = less _ (both_true _ _ h).0
      below_at x (f ∷ fs) (suc k) d h w = below_at x fs k d (both_true _ _ h).1 (omega (arith, w))

  here_from : (es : List (Parts × Kind)) (at : ℕ) → T (is_sorted parts_cmp es) → at < length es
      → HoldsAt (λ (e : Parts × Kind). parts_cmp e.0 p ≡ Equal) es at → IsAt p es at
  here_from [] at rising within same = absurd (omega arith)
  here_from (e ∷ es) zero rising within same = turned e.0 p Equal (same e)
  here_from (e ∷ es) (suc at) rising within same =
      let up : T (below_all parts_cmp e.0 es) × T (is_sorted parts_cmp es) = both_true _ _ rising in
      let below = lower e es at up.0 (omega (arith, within)) in (
        turned e.0 p Less (ap (parts_cmp e.0) (sym (parts_exact _ p (same e))) ∙ below),
        here_from es at up.1 (omega (arith, within)) same,
      )

  gap_from : (es : List (Parts × Kind)) (at : ℕ) → at ≤ length es
      → AllWithin (λ (e : Parts × Kind). parts_cmp e.0 p ≡ Less) es 0 at
      → AllWithin (λ (e : Parts × Kind). parts_cmp e.0 p ≡ Greater) es at (length es) → IsGap p es at
  gap_from [] zero within before after = tt
  gap_from [] (suc at) within before after = absurd (omega arith)
  gap_from (e ∷ es) zero within before after = (
    turned e.0 p Greater (after 0 e (omega arith) (omega arith)),
    gap_from es zero (omega arith) (λ k d low high. absurd (omega (arith, high)))
        (λ k d low high. after (suc k) d (omega arith) (omega (arith, high))),
  )
  gap_from (e ∷ es) (suc at) within before after = (
    turned e.0 p Less (before 0 e (omega arith) (omega arith)),
    gap_from es at (omega (arith, within)) (λ k d low high. before (suc k) d (omega arith) (omega (arith, high)))
        (λ k d low high. after (suc k) d (omega (arith, low)) (omega (arith, high))),
  )

not_lower : (o : Ordering) → o ≡ Greater → is_lt o ≡ false
not_lower o is = ap is_lt is

rises : (es : List (Parts × Kind)) → T (is_sorted parts_cmp es)
    → IsSortedBy (λ (a b : Parts × Kind). is_lt (parts_cmp a.0 b.0)) es
rises [] rising k d low within = absurd (omega (arith, within))
rises (e ∷ []) rising k d low within = absurd (omega (arith, within))
rises (e ∷ f ∷ es) rising zero d low within =
    let up : T (below_all parts_cmp e.0 (f ∷ es)) × T (is_sorted parts_cmp (f ∷ es)) = both_true _ _ rising in
    not_lower _ (turned e.0 f.0 Less (less _ (both_true _ _ up.0).0))
rises (e ∷ f ∷ es) rising (suc k) d low within =
    let up : T (below_all parts_cmp e.0 (f ∷ es)) × T (is_sorted parts_cmp (f ∷ es)) = both_true _ _ rising in
    subst (λ n. is_lt (parts_cmp (get_or (e ∷ f ∷ es) n d).0 (get_or (f ∷ es) k d).0) ≡ false)
    {x = suc (k + 1)} (omega arith) (rises (f ∷ es) up.1 k d (omega arith) (omega (arith, within)))

-- a binary search ends at the key, or at the gap for it
pub searched : (p : Parts) (es : List (Parts × Kind)) → T (is_sorted parts_cmp es) → (r : Result ℕ ℕ)
    → IsSearchInRange r (length es) → IsBinarySearchResult (λ e. parts_cmp e.0 p) es r
    → record {
      within : IsSearchInRange r (length es);
      found : IfOk r (IsAt p es);
      absent : IfErr r (IsGap p es);
    }
searched p es rising (Ok at) within same = record {
  within = within;
  found = here_from p es at rising within same;
  absent = tt;
}
searched p es rising (Err at) within parted =
    let parts = parted (searchable_from_sorted parts_total (λ e. e.0) es p (rises es rising)) in
    record { within = within; found = tt; absent = gap_from p es at within parts.0 parts.1 }
