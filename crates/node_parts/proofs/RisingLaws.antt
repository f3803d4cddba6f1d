-- Entries whose numbers rise, as a map: what a search, a push and a removal make of it.
use Rattle.std.proofs.Common.{◌≡◌, ℕ, zero, suc, ◌+◌, ◌<◌, ◌≤◌, Bool, true, false, cond, eqb, ltb, List, [], ◌∷◌, ◌++◌, length, get_or, Option, Some, None, Result, Ok, Err, refl, sym, ap, subst, ◌∙◌, arith, eqb-true, eq-eqb, ltb-true, length-append}
use Rattle.std.proofs.lemmas.Bool.{eqb-false, ne_eqb, ltb-false}
use Rattle.std.proofs.lemmas.Bool.Decides.{nat_tests}
use Rattle.std.proofs.lemmas.Cmp.{ranked}
use Rattle.std.proofs.lemmas.List.{get_or_append_left, get_or_push}
use Rattle.std.specs.Cmp.{nat_cmp_total, unsigned_tied}
use Rattle.std.specs.FinMap.Entries.{find, find-append}
use Rattle.std.specs.List.{remove}
use Rattle.std.specs.List.Sorted.{IsSearchInRange, IsBinarySearchResult, IsNonDecreasingBy, IsPartitionPoint}
use Rattle.std.specs.declared.cmp.Ordering.TheVariants.{Less, Greater}
use Rattle.std.specs.Ordering.{nat_cmp, ordering_index}
use Rattle.std.specs.Result.{result_ok}
use Rattle.finite_map.specs.FiniteMap.{FiniteMap, get, insert, from_entries, get-from_entries}
use Rattle.finite_map.specs.FiniteMap as finite
use Rattle.node_parts.specs.Passed.{IsRising, AllBefore, IsPlace}
use Rattle.node_parts.proofs.MapLaws.{same, get_inserted, get_removed}

module _ {X : Type 0} where
  abbrev found : ℕ → List (ℕ × X) → Option X
  found = find nat_cmp

  found_cons : (q : ℕ) (e : ℕ × X) (es : List (ℕ × X)) → found q (e ∷ es) ≡ cond (eqb q e.0) (Some e.1) (found q es)
  found_cons q e es = ap (λ b. cond b (Some e.1) (found q es)) (unsigned_tied q e.0)

  found_here : (q : ℕ) (e : ℕ × X) (es : List (ℕ × X)) → q ≡ e.0 → found q (e ∷ es) ≡ Some e.1
  found_here q e es is = found_cons q e es ∙ ap (λ b. cond b (Some e.1) (found q es)) (eq-eqb q e.0 is)

  found_further : (q : ℕ) (e : ℕ × X) (es : List (ℕ × X)) → (q ≡ e.0 → ⊥) → found q (e ∷ es) ≡ found q es
  found_further q e es differs = found_cons q e es ∙ ap (λ b. cond b (Some e.1) (found q es)) (ne_eqb q e.0 differs)

  tail_rising : (e : ℕ × X) (es : List (ℕ × X)) → IsRising (e ∷ es) → IsRising es
  tail_rising e es rising i j d lt within = rising (suc i) (suc j) d (omega (arith, lt)) (omega (arith, within))

  -- a number is found where it stands
  found_at : (es : List (ℕ × X)) (at q : ℕ) (d : ℕ × X) → IsRising es → at < length es → (get_or es at d).0 ≡ q
      → found q es ≡ Some (get_or es at d).1
  found_at [] at q d rising within is = absurd (omega (arith, within))
  found_at (e ∷ es) zero q d rising within is = found_here q e es (sym is)
  found_at (e ∷ es) (suc at) q d rising within is =
      let lower = rising 0 (suc at) d (omega arith) within in
      found_further q e es (λ same. omega (arith, lower, is, same))
      ∙ found_at es at q d (tail_rising e es rising) (omega (arith, within)) is

  found_nowhere : (es : List (ℕ × X)) (q : ℕ) → IsPlace es q None → found q es ≡ None
  found_nowhere [] q nowhere = refl
  found_nowhere (e ∷ es) q nowhere =
      found_further q e es (λ same. nowhere 0 e (omega arith) (sym same))
      ∙ found_nowhere es q (λ k d within is. nowhere (suc k) d (omega (arith, within)) is)

  -- ---- a search
  module _ (es : List (ℕ × X)) (rising : IsRising es) (q : ℕ) where
    comparisons_rise : IsNonDecreasingBy (λ e. ordering_index (nat_cmp e.0 q)) es
    comparisons_rise i j d le within =
        let keys : (get_or es i d).0 ≤ (get_or es j d).0 =
        grind (arith, rising i j d, λ (e : i ≡ j). ap (λ k. (get_or es k d).0) e) in
        grind (arith, nat_tests)

    higher_or_lower : (at : ℕ) → IsPartitionPoint (λ e. nat_cmp e.0 q ≡ Less) (λ e. nat_cmp e.0 q ≡ Greater) es at
        → (k : ℕ) (d : ℕ × X) → k < length es → (b : Bool) → ltb k at ≡ b → (get_or es k d).0 ≡ q → ⊥
    higher_or_lower at parts k d inside true before is =
        let lower = ranked _ q _ (sym (parts.0 k d (omega arith) (ltb-true k at before))) in omega (arith, lower, is)
    higher_or_lower at parts k d inside false after is =
        let higher = ranked _ q _ (sym (parts.1 k d (ltb-false k at after) inside)) in omega (arith, higher, is)

    pub searched : (r : Result ℕ ℕ) → IsSearchInRange r (length es) → IsBinarySearchResult (λ e. nat_cmp e.0 q) es r
        → IsPlace es q (result_ok r)
    searched (Ok at) within equal = (within, λ d. ranked _ q _ (sym (equal d)))
    searched (Err at) within parted = λ k d inside is. higher_or_lower at (parted comparisons_rise) k d inside (ltb k at) refl is

  -- ---- the map
  pub get_at : (es : List (ℕ × X)) (at q : ℕ) (d : ℕ × X) → IsRising es → IsPlace es q (Some at)
      → get (from_entries {R = nat_cmp} es) q ≡ Some (get_or es at d).1
  get_at es at q d rising place =
      get-from_entries nat_cmp_total es q ∙ found_at es at q d rising place.0 (place.1 d)

  pub get_nowhere : (es : List (ℕ × X)) (q : ℕ) → IsPlace es q None → get (from_entries {R = nat_cmp} es) q ≡ None
  get_nowhere es q nowhere = get-from_entries nat_cmp_total es q ∙ found_nowhere es q nowhere

  -- what stands in front of a new number is below it
  all_lower : (es : List (ℕ × X)) (number : ℕ) → IsRising es → AllBefore (from_entries es) number
      → (k : ℕ) (d : ℕ × X) → k < length es → (get_or es k d).0 < number
  all_lower es number rising before k d within =
      before (get_or es k d).0 (get_or es k d).1
      (get-from_entries nat_cmp_total es (get_or es k d).0 ∙ found_at es k (get_or es k d).0 d rising within refl)

  pub pushed : (es fs : List (ℕ × X)) (m : FiniteMap nat_cmp X) (number : ℕ) (x : X) → IsRising es → from_entries es ≡ m
      → AllBefore m number → fs ≡ es ++ (number, x) ∷ [] → from_entries fs ≡ insert m number x
  pushed es fs m number x rising is before more =
      let lower = all_lower es number rising (subst (λ n. AllBefore n number) (sym is) before) in
      let none = found_nowhere es number (λ k d within e. let h = lower k d within in omega (arith, h, e)) in
      ap from_entries more
      ∙ same (from_entries (es ++ (number, x) ∷ [])) (insert (from_entries es) number x) (λ q.
      get-from_entries nat_cmp_total (es ++ (number, x) ∷ []) q
      ∙ find-append nat_cmp nat_cmp_total es number x q none
      ∙ (λ i. cond (unsigned_tied q number i) (Some x) (sym (get-from_entries nat_cmp_total es q) i))
      ∙ sym (get_inserted (from_entries es) number x q))
      ∙ ap (λ n. insert n number x) is

  pub pushed_rising : (es fs : List (ℕ × X)) (m : FiniteMap nat_cmp X) (number : ℕ) (x : X) → IsRising es → from_entries es ≡ m
      → AllBefore m number → fs ≡ es ++ (number, x) ∷ [] → IsRising fs
  pushed_rising es fs m number x rising is before more =
      let lower = all_lower es number rising (subst (λ n. AllBefore n number) (sym is) before) in
      subst IsRising (sym more) (λ i j d lt within. one_more i j d lt
      (let long = length-append es ((number, x) ∷ []) in omega (arith, within, long)) lower (ltb j (length es)) refl)
    where
      one_more : (i j : ℕ) (d : ℕ × X) → i < j → j < length es + 1 → ((k : ℕ) (e : ℕ × X) → k < length es → (get_or es k e).0 < number)
          → (b : Bool) → ltb j (length es) ≡ b
          → (get_or (es ++ (number, x) ∷ []) i d).0 < (get_or (es ++ (number, x) ∷ []) j d).0
      one_more i j d lt within lower true inside =
          let there = ltb-true j (length es) inside in
          let one = get_or_append_left es ((number, x) ∷ []) d i (omega (arith, lt, there)) in
          let two = get_or_append_left es ((number, x) ∷ []) d j there in
          subst (λ n. n < (get_or (es ++ (number, x) ∷ []) j d).0) (ap (λ (e : ℕ × X). e.0) (sym one))
          (subst (λ n. (get_or es i d).0 < n) (ap (λ (e : ℕ × X). e.0) (sym two)) (rising i j d lt there))
      one_more i j d lt within lower false last =
          let past = ltb-false j (length es) last in
          let one = get_or_append_left es ((number, x) ∷ []) d i (omega (arith, lt, within)) in
          let two = get_or_push es (number, x) d j (omega (arith, past, within)) in
          subst (λ n. n < (get_or (es ++ (number, x) ∷ []) j d).0) (ap (λ (e : ℕ × X). e.0) (sym one))
          (subst (λ n. (get_or es i d).0 < n) (ap (λ (e : ℕ × X). e.0) (sym two)) (lower i d (omega (arith, lt, within))))

  -- ---- a removal
  at_head : (q k : ℕ) (e : ℕ × X) (es : List (ℕ × X)) (b : Bool) → IsRising (e ∷ es) → e.0 ≡ k → eqb q k ≡ b
      → found q es ≡ cond b None (found q (e ∷ es))
  at_head q k e es true rising is same_number =
      let same = eqb-true q k same_number in
      found_nowhere es q (λ j d within there. let higher = rising 0 (suc j) d (omega arith) (omega (arith, within)) in
      omega (arith, higher, there, is, same))
  at_head q k e es false rising is other =
      let differs = eqb-false q k other in sym (found_further q e es (λ same. differs (same ∙ is)))

  past_head : (q k : ℕ) (e : ℕ × X) (es fs : List (ℕ × X)) (b c : Bool) → e.0 < k → eqb q k ≡ b → eqb q e.0 ≡ c
      → found q fs ≡ cond b None (found q es) → found q (e ∷ fs) ≡ cond b None (found q (e ∷ es))
  past_head q k e es fs true true lower same_number same_head later =
      let one = eqb-true q k same_number in let two = eqb-true q e.0 same_head in absurd (omega (arith, one, two, lower))
  past_head q k e es fs false true lower other same_head later =
      let two = eqb-true q e.0 same_head in found_here q e fs two ∙ sym (found_here q e es two)
  past_head q k e es fs b false lower number other_head later =
      let differs = eqb-false q e.0 other_head in
      found_further q e fs differs ∙ later ∙ ap (cond b None) (sym (found_further q e es differs))

  found_removed : (es : List (ℕ × X)) (at q k : ℕ) → IsRising es → at < length es
      → ((d : ℕ × X) → (get_or es at d).0 ≡ k) → found q (remove es at) ≡ cond (eqb q k) None (found q es)
  found_removed [] at q k rising within is = absurd (omega (arith, within))
  found_removed (e ∷ es) zero q k rising within is = at_head q k e es (eqb q k) rising (is e) refl
  found_removed (e ∷ es) (suc at) q k rising within is =
      past_head q k e es (remove es at) (eqb q k) (eqb q e.0)
      (subst (λ n. e.0 < n) (is e) (rising 0 (suc at) e (omega arith) within)) refl refl
      (found_removed es at q k (tail_rising e es rising) (omega (arith, within)) is)

  pub removed : (es fs : List (ℕ × X)) (m : FiniteMap nat_cmp X) (at number : ℕ) → IsRising es → from_entries es ≡ m
      → IsPlace es number (Some at) → fs ≡ remove es at → from_entries fs ≡ finite.remove m number
  removed es fs m at number rising is place less =
      ap from_entries less
      ∙ same (from_entries (remove es at)) (finite.remove (from_entries es) number) (λ q.
      get-from_entries nat_cmp_total (remove es at) q
      ∙ found_removed es at q number rising place.0 place.1
      ∙ ap (cond (eqb q number) None) (sym (get-from_entries nat_cmp_total es q))
      ∙ sym (get_removed (from_entries es) number q))
      ∙ ap (λ n. finite.remove n number) is
