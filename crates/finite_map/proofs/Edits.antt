-- Finite maps after an edit: what a look-up finds, which edits come to the same, how many entries there are, and what holds
-- of each entry.
use Rattle.std.proofs.Common.{◌≡◌, ◌+◌, Bool, true, false, cond, None, Some, refl, ap, sym, subst, ◌∙◌, true≢false}
use Rattle.std.specs.Prelude.{is_some}
use Rattle.std.specs.Ordering.{eq_by_cmp, nat_cmp}
use Rattle.std.specs.declared.cmp.Ordering.{Ordering}
use Rattle.std.specs.Cmp.{IsTotalOrder, Equal-is, eq_by_cmp_equiv, nat_cmp_total}
use Rattle.std.specs.FinMap.{IsAntisymmetric, nat_cmp-IsAntisymmetric}
use Rattle.std.proofs.lemmas.Option.{same_Some}
use Rattle.finite_map.specs.FiniteMap.{FiniteMap, get, insert, remove, len, get-insert, get-remove, len-insert, len_before_remove, same_map}

-- a total order in which only equal keys tie
pub record IsKeyOrder {K : Type 0} (R : K → K → Ordering) : Type 0 where
  pub total : IsTotalOrder R
  pub exact : IsAntisymmetric R

pub numbers : IsKeyOrder nat_cmp
numbers = record { total = nat_cmp_total; exact = nat_cmp-IsAntisymmetric }

module _ {K : Type 0} {R : K → K → Ordering} (o : IsKeyOrder R) where
  -- keys that tie are equal, and a key ties with itself
  pub tied : (q k : K) → eq_by_cmp R q k ≡ true → q ≡ k
  tied q k tie = o.exact q k ((Equal-is (R q k)).0 tie)

  pub itself : (k : K) → eq_by_cmp R k k ≡ true
  itself k = (eq_by_cmp_equiv o.total).refl k

  pub untied : (q k : K) → eq_by_cmp R q k ≡ false → q ≡ k → ⊥
  untied q k differs same = true≢false (sym (itself k) ∙ ap (λ p. eq_by_cmp R p k) (sym same) ∙ differs)

  module _ {X : Type 0} (m : FiniteMap R X) (k : K) where
    -- ---- what a look-up finds
    pub get-put : (v : X) → get (insert m k v) k ≡ Some v
    get-put v = get-insert o.total m k v k ∙ ap (λ b. cond b (Some v) (get m k)) (itself k)

    pub get-put_beside : (v : X) (q : K) → eq_by_cmp R q k ≡ false → get (insert m k v) q ≡ get m q
    get-put_beside v q differs = get-insert o.total m k v q ∙ ap (λ b. cond b (Some v) (get m q)) differs

    pub get-taken : get (remove m k) k ≡ None
    get-taken = get-remove o.total m k k ∙ ap (λ b. cond b None (get m k)) (itself k)

    pub get-taken_beside : (q : K) → eq_by_cmp R q k ≡ false → get (remove m k) q ≡ get m q
    get-taken_beside q differs = get-remove o.total m k q ∙ ap (λ b. cond b None (get m q)) differs

    -- ---- edits that come to the same
    -- what is there is put again
    pub insert-there : (v : X) → get m k ≡ Some v → insert m k v ≡ m
    insert-there v is =
        same_map o.total o.exact (insert m k v) m (λ q. get-insert o.total m k v q ∙ by q (eq_by_cmp R q k) refl)
      where
        by : (q : K) (b : Bool) → eq_by_cmp R q k ≡ b → cond b (Some v) (get m q) ≡ get m q
        by q true tie = sym (ap (get m) (tied q k tie) ∙ is)
        by q false differs = refl

    -- what is not there is taken away
    pub remove-absent : get m k ≡ None → remove m k ≡ m
    remove-absent is =
        same_map o.total o.exact (remove m k) m (λ q. get-remove o.total m k q ∙ by q (eq_by_cmp R q k) refl)
      where
        by : (q : K) (b : Bool) → eq_by_cmp R q k ≡ b → cond b None (get m q) ≡ get m q
        by q true tie = sym (ap (get m) (tied q k tie) ∙ is)
        by q false differs = refl

    -- what is put at a key does not depend on what was there
    over : (other : FiniteMap R X) → ((q : K) → eq_by_cmp R q k ≡ false → get other q ≡ get m q) → (v : X)
        → insert other k v ≡ insert m k v
    over other beside v =
        same_map o.total o.exact (insert other k v) (insert m k v)
        (λ q. get-insert o.total other k v q ∙ by q (eq_by_cmp R q k) refl ∙ sym (get-insert o.total m k v q))
      where
        by : (q : K) (b : Bool) → eq_by_cmp R q k ≡ b → cond b (Some v) (get other q) ≡ cond b (Some v) (get m q)
        by q true tie = refl
        by q false differs = beside q differs

    -- it is put after it was taken away
    pub insert-remove : (v : X) → insert (remove m k) k v ≡ insert m k v
    insert-remove v = over (remove m k) get-taken_beside v

    -- it is put twice
    pub insert-insert : (u v : X) → insert (insert m k u) k v ≡ insert m k v
    insert-insert u v = over (insert m k u) (get-put_beside u) v

    -- ---- how many there are
    pub len-over : (v : X) → is_some (get m k) ≡ true → len (insert m k v) ≡ len m
    len-over v is = len-insert o.total m k v ∙ ap (λ b. cond b (len m) (len m + 1)) is

    pub len-new : (v : X) → get m k ≡ None → len (insert m k v) ≡ len m + 1
    len-new v is = len-insert o.total m k v ∙ ap (λ found. cond (is_some found) (len m) (len m + 1)) is

    pub len-left : (v : X) → get m k ≡ Some v → 1 + len (remove m k) ≡ len m
    len-left v is =
        ap (λ found. cond (is_some found) 1 0 + len (remove m k)) (sym is) ∙ len_before_remove o.total m k

    -- ---- what there is
    -- what a map has after an insertion: the value there, or what it had elsewhere
    pub data Inserted (v : X) (q : K) (u : X) : Type 0 where
      AtKey : q ≡ k → u ≡ v → Inserted v q u
      Elsewhere : eq_by_cmp R q k ≡ false → get m q ≡ Some u → Inserted v q u

    inserted_by : (v : X) (q : K) (u : X) (b : Bool) → eq_by_cmp R q k ≡ b → cond b (Some v) (get m q) ≡ Some u
        → Inserted v q u
    inserted_by v q u true tie is = AtKey (tied q k tie) (same_Some u v (sym is))
    inserted_by v q u false differs is = Elsewhere differs is

    pub inserted : (v : X) (q : K) (u : X) → get (insert m k v) q ≡ Some u → Inserted v q u
    inserted v q u is = inserted_by v q u (eq_by_cmp R q k) refl (sym (get-insert o.total m k v q) ∙ is)

    -- what a map has after a removal it had elsewhere
    pub record Left (q : K) (u : X) : Type 0 where
      pub elsewhere : eq_by_cmp R q k ≡ false
      pub there : get m q ≡ Some u

    left_by : (q : K) (u : X) (b : Bool) → eq_by_cmp R q k ≡ b → cond b None (get m q) ≡ Some u → Left q u
    left_by q u true tie is = cc
    left_by q u false differs is = record { elsewhere = differs; there = is }

    pub left : (q : K) (u : X) → get (remove m k) q ≡ Some u → Left q u
    left q u is = left_by q u (eq_by_cmp R q k) refl (sym (get-remove o.total m k q) ∙ is)

    -- what holds of each entry holds after an edit, if it holds of what is put
    module _ (P : K → X → Type 0) (old : (q : K) (u : X) → get m q ≡ Some u → P q u) where
      put_by : (v : X) → P k v → (q : K) (u : X) → Inserted v q u → P q u
      put_by v new q u (AtKey here same) = subst (λ p. P p u) (sym here) (subst (P k) (sym same) new)
      put_by v new q u (Elsewhere differs is) = old q u is

      pub each_put : (v : X) → P k v → (q : K) (u : X) → get (insert m k v) q ≡ Some u → P q u
      each_put v new q u is = put_by v new q u (inserted v q u is)

      pub each_left : (q : K) (u : X) → get (remove m k) q ≡ Some u → P q u
      each_left q u is = old q u (left q u is).there
