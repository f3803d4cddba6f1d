-- Items in places, as a map from sessions: what each edit of a place makes of the map.
use Rattle.std.proofs.Common.{◌≡◌, ℕ, zero, suc, ◌+◌, ◌<◌, ◌≤◌, Bool, true, false, cond, eqb, ltb, List, length, get_or, set, Option, Some, None, refl, sym, ap, subst, ◌∙◌, arith, eqb-true, ltb-true, replicate, true≢false}
use Rattle.std.specs.Prelude.{is_some, IfSome}
use Rattle.std.proofs.lemmas.Bool.{eqb-false, ltb-false}
use Rattle.std.proofs.lemmas.List.{get_or-set_same, get_or-set_other, get_or_past, get_or_default, get_or-replicate, length-replicate, length-set}
use Rattle.std.specs.Ordering.{nat_cmp}
use Rattle.std.specs.Cmp.{nat_cmp_total}
use Rattle.finite_map.specs.FiniteMap.{FiniteMap, empty, get, insert, remove, len, get-empty, len-empty, len-insert}
use Rattle.node_parts.specs.Slots.{with_place, slots_before, slots, AreSlots, HasSessions}
use Rattle.node_parts.proofs.MapLaws.{same, get_inserted, get_removed, inserted_here, inserted_elsewhere}

module _ {X : Type 0} where
  with_place-here : (n : ℕ) (o : Option X) (m : FiniteMap nat_cmp X) → get m n ≡ None → get (with_place n o m) n ≡ o
  with_place-here n None m none = none
  with_place-here n (Some x) m none = inserted_here m n x

  with_place-elsewhere : (n : ℕ) (o : Option X) (m : FiniteMap nat_cmp X) (q : ℕ) → (q ≡ n → ⊥) → get (with_place n o m) q ≡ get m q
  with_place-elsewhere n None m q apart = refl
  with_place-elsewhere n (Some x) m q apart = inserted_elsewhere m n x q apart

  get_past : (n : ℕ) (places : List (Option X)) (q : ℕ) → n ≤ q → get (slots_before n places) q ≡ None
  get_past zero places q past = get-empty nat_cmp q
  get_past (suc n) places q past =
      with_place-elsewhere n (get_or places n None) (slots_before n places) q (λ e. omega (arith, e))
      ∙ get_past n places q (omega arith)

  at_last : (n : ℕ) (places : List (Option X)) (q : ℕ) (b : Bool) → eqb q n ≡ b
      → (b ≡ false → get (slots_before n places) q ≡ get_or places q None)
      → get (slots_before (suc n) places) q ≡ get_or places q None
  at_last n places q true here before =
      let e = eqb-true q n here in
      ap (λ k. get (slots_before (suc n) places) k) e
      ∙ with_place-here n (get_or places n None) (slots_before n places) (get_past n places n (omega arith))
      ∙ ap (λ k. get_or places k None) (sym e)
  at_last n places q false elsewhere before =
      with_place-elsewhere n (get_or places n None) (slots_before n places) q (eqb-false q n elsewhere) ∙ before refl

  get_within : (n : ℕ) (places : List (Option X)) (q : ℕ) → q < n → get (slots_before n places) q ≡ get_or places q None
  get_within zero places q within = absurd (omega (arith, within))
  get_within (suc n) places q within =
      at_last n places q (eqb q n) refl
      (λ no. get_within n places q (let apart = eqb-false q n no in smaller apart))
    where
      smaller : (q ≡ n → ⊥) → q < n
      smaller apart = omega (arith, within, apart)

  get_by : (places : List (Option X)) (q : ℕ) (b : Bool) → length places ≡ 33 → ltb q 33 ≡ b → get (slots_before 33 places) q ≡ get_or places q None
  get_by places q true count within = get_within 33 places q (ltb-true q 33 within)
  get_by places q false count past =
      let far = ltb-false q 33 past in
      get_past 33 places q far ∙ sym (get_or_past places q None (omega (arith, far, count)))

  -- the map has what stands in the place
  pub get-slots : (places : List (Option X)) (q : ℕ) → length places ≡ 33 → get (slots places) q ≡ get_or places q None
  unfolding slots
  get-slots places q count = get_by places q (ltb q 33) count refl

  empty_place : (q : ℕ) (b : Bool) → ltb q 33 ≡ b
      → get_or {A = Option X} (replicate 33 None) q None ≡ None
  empty_place q true within = get_or-replicate 33 q None None (ltb-true q 33 within)
  empty_place q false past = get_or_past (replicate 33 None) q None (ltb-false q 33 past)

  pub slots-empty : (places : List (Option X)) → places ≡ replicate 33 None → slots places ≡ empty
  slots-empty places e = same (slots places) empty (λ q.
      get-slots places q (ap length e ∙ length-replicate {A = Option X} 33 None)
      ∙ ap (λ l. get_or l q None) e ∙ empty_place q (ltb q 33) refl ∙ sym (get-empty nat_cmp q))

  changed : (places : List (Option X)) (k : ℕ) (o : Option X) (q : ℕ) (b : Bool) → length places ≡ 33 → k < 33 → eqb q k ≡ b
      → get (slots (set places k o)) q ≡ cond b o (get (slots places) q)
  changed places k o q true count within here =
      get-slots (set places k o) q (length-set places k o ∙ count)
      ∙ ap (λ j. get_or (set places k o) j None) (eqb-true q k here)
      ∙ get_or-set_same places k o None (subst (λ n. k < n) (sym count) within)
  changed places k o q false count within elsewhere =
      get-slots (set places k o) q (length-set places k o ∙ count)
      ∙ get_or-set_other places k q o None (eqb-false q k elsewhere)
      ∙ sym (get-slots places q count)

  pub slots-put : (places : List (Option X)) (k : ℕ) (x : X) → length places ≡ 33 → k < 33
      → slots (set places k (Some x)) ≡ insert (slots places) k x
  slots-put places k x count within = same (slots (set places k (Some x))) (insert (slots places) k x) (λ q.
      changed places k (Some x) q (eqb q k) count within refl ∙ sym (get_inserted (slots places) k x q))

  pub slots-take : (places : List (Option X)) (k : ℕ) → length places ≡ 33 → k < 33
      → slots (set places k None) ≡ remove (slots places) k
  slots-take places k count within = same (slots (set places k None)) (remove (slots places) k) (λ q.
      changed places k None q (eqb q k) count within refl ∙ sym (get_removed (slots places) k q))

  -- the item of a place, by the map as it is seen
  pub at_place : (places seen : List (Option X)) (m : FiniteMap nat_cmp X) (q at : ℕ) → slots places ≡ m → length places ≡ 33
      → seen ≡ places → at ≡ q → get_or seen at None ≡ get m q
  at_place places seen m q at is count same_places same_place =
      (λ i. get_or (same_places i) (same_place i) None) ∙ sym (get-slots places q count) ∙ ap (λ n. get n q) is

  pub nothing_past : (places : List (Option X)) (m : FiniteMap nat_cmp X) (q at : ℕ) → slots places ≡ m → length places ≡ 33
      → at ≡ q → 33 ≤ at → get m q ≡ None
  nothing_past places m q at is count same_place past =
      sym (at_place places places m q at is count refl same_place) ∙ get_or_past places at None (omega (arith, count, past))

  pub put_in : (places : List (Option X)) (m : FiniteMap nat_cmp X) (q at : ℕ) (x : X) → slots places ≡ m → length places ≡ 33
      → at ≡ q → q ≤ 32 → slots (set places at (Some x)) ≡ insert m q x
  put_in places m q at x is count same_place within =
      slots-put places at x count (omega (arith, same_place, within)) ∙ (λ i. insert (is i) (same_place i) x)

  pub take_from : (places : List (Option X)) (m : FiniteMap nat_cmp X) (q at : ℕ) (o : Option X) → slots places ≡ m
      → length places ≡ 33 → at ≡ q → at < 33 → o ≡ None → slots (set places at o) ≡ remove m q
  take_from places m q at o is count same_place within none =
      ap (λ n. slots (set places at n)) none ∙ slots-take places at count within ∙ (λ i. remove (is i) (same_place i))

  -- an item that is found at its own default is found at each
  pub taken_from : (places : List (Option X)) (m : FiniteMap nat_cmp X) (q at : ℕ) (o : Option X) → slots places ≡ m
      → length places ≡ 33 → at ≡ q → at < 33 → o ≡ get_or places at o → o ≡ get m q
  taken_from places m q at o is count same_place within there =
      there ∙ get_or_default places at o None (subst (λ n. at < n) (sym count) within)
      ∙ at_place places places m q at is count refl same_place

  -- the empty places have no item, and place 0 is not used
  pub new_slots : (places : List (Option X)) (n : ℕ) → places ≡ replicate n None → n ≡ 33
      → AreSlots 0 places
  new_slots places n e is = record {
    count = ap length e ∙ length-replicate {A = Option X} n None ∙ is;
    unused = free_at 0;
    few = omega arith;
    free = λ k from. free_at k;
  }
    where
      free_at : (k : ℕ) → get_or places k None ≡ None
      free_at k =
          ap (λ l. get_or l k None) (e ∙ ap (λ j. replicate {A = Option X} j None) is)
          ∙ empty_place k (ltb k 33) refl

  not_both : (o : Option X) (x : X) → o ≡ None → o ≡ Some x → ⊥
  not_both o x none some = true≢false (sym (ap is_some some) ∙ ap is_some none)

  last_place : (ps : List (Option X)) (q : ℕ) (x : X) (b : Bool) → length ps ≡ 33 → ltb q 33 ≡ b → get_or ps q None ≡ Some x → q ≤ 32
  last_place ps q x true count within at = let h = ltb-true q 33 within in omega (arith, h)
  last_place ps q x false count past at =
      let far = ltb-false q 33 past in
      absurd (not_both (get_or ps q None) x (get_or_past ps q None (omega (arith, far, count))) at)

  first_place : (q : ℕ) (b : Bool) (o : Option X) (x : X) → eqb q 0 ≡ b → (q ≡ 0 → o ≡ None) → o ≡ Some x → 1 ≤ q
  first_place q true o x here none is = let e = none (eqb-true q 0 here) in cc
  first_place q false o x elsewhere none is = let apart = eqb-false q 0 elsewhere in omega (arith, apart)

  pub has_sessions : (end : ℕ) (places : List (Option X)) (m : FiniteMap nat_cmp X)
      → slots places ≡ m → AreSlots end places → HasSessions m
  has_sessions end places m is are = subst HasSessions is (sessions places are)
    where
      sessions : (ps : List (Option X)) → AreSlots end ps → HasSessions (slots ps)
      sessions ps good q x there =
          let at : get_or ps q None ≡ Some x = sym (get-slots ps q good.count) ∙ there in (
            first_place q (eqb q 0) (get_or ps q None) x refl (λ e. ap (λ k. get_or ps k None) e ∙ good.unused) at,
            last_place ps q x (ltb q 33) good.count refl at,
          )

  -- a session that has an item is below the end
  pub below_end : (end : ℕ) (places : List (Option X)) (m : FiniteMap nat_cmp X)
      → slots places ≡ m → AreSlots end places
      → (q : ℕ) (x : X) → get m q ≡ Some x → q < end
  below_end end places m is are q x there = by_place (ltb q end) refl
    where
      by_place : (b : Bool) → ltb q end ≡ b → q < end
      by_place true below = ltb-true q end below
      by_place false past =
          absurd (not_both (get m q) x
          (ap (λ n. get n q) (sym is) ∙ get-slots places q are.count
          ∙ are.free q (ltb-false q end past)) there)

  -- what is an item of the map is an item of a session
  pub item_within : (m : FiniteMap nat_cmp X) (q : ℕ) (o : Option X) → HasSessions m → o ≡ get m q → IfSome o (λ x. (1 ≤ q) × (q ≤ 32))
  item_within m q None sessions is = tt
  item_within m q (Some x) sessions is = sessions q x (sym is)

  -- ---- how many there are
  few_put : (n : ℕ) (b : Bool) (m : FiniteMap nat_cmp X) → len m ≤ n → cond b (len m) (len m + 1) ≤ n + 1
  few_put n true m few = omega (arith, few)
  few_put n false m few = omega (arith, few)

  few_with : (n k : ℕ) (o : Option X) (m : FiniteMap nat_cmp X) → len m ≤ n → len (with_place k o m) ≤ n + 1
  few_with n k None m few = omega (arith, few)
  few_with n k (Some x) m few =
      subst (λ count. count ≤ n + 1) (sym (len-insert nat_cmp_total m k x)) (few_put n (is_some (get m k)) m few)

  few_before : (n : ℕ) (places : List (Option X)) → len (slots_before n places) ≤ n
  few_before zero places = let none = len-empty nat_cmp X in omega (arith, none)
  few_before (suc n) places =
      let most = few_with n n (get_or places n None) (slots_before n places) (few_before n places) in omega (arith, most)

  pub few_slots : (places : List (Option X)) (m : FiniteMap nat_cmp X) → slots places ≡ m → len m ≤ 33
  unfolding slots
  few_slots places m is = subst (λ seen. len seen ≤ 33) is (few_before 33 places)
