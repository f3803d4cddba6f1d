-- Maps by numbers: equal where they answer alike, and what they answer after one edit.
use Rattle.std.proofs.Common.{◌≡◌, ℕ, Bool, true, false, cond, eqb, Some, None, refl, sym, ap, ◌∙◌, eqb-true, eq-eqb}
use Rattle.std.proofs.lemmas.Bool.{ne_eqb}
use Rattle.std.specs.Ordering.{nat_cmp}
use Rattle.std.specs.Cmp.{nat_cmp_total, unsigned_tied}
use Rattle.std.specs.FinMap.{nat_cmp-IsAntisymmetric}
use Rattle.finite_map.specs.FiniteMap.{FiniteMap, get, insert, remove, get-insert, get-remove, same_map}

module _ {X : Type 0} where
  pub same : (m n : FiniteMap nat_cmp X) → ((q : ℕ) → get m q ≡ get n q) → m ≡ n
  same m n alike = same_map nat_cmp_total nat_cmp-IsAntisymmetric m n alike

  pub get_inserted : (m : FiniteMap nat_cmp X) (k : ℕ) (v : X) (q : ℕ) → get (insert m k v) q ≡ cond (eqb q k) (Some v) (get m q)
  get_inserted m k v q = get-insert nat_cmp_total m k v q ∙ ap (λ b. cond b (Some v) (get m q)) (unsigned_tied q k)

  pub get_removed : (m : FiniteMap nat_cmp X) (k q : ℕ) → get (remove m k) q ≡ cond (eqb q k) None (get m q)
  get_removed m k q = get-remove nat_cmp_total m k q ∙ ap (λ b. cond b None (get m q)) (unsigned_tied q k)

  pub inserted_here : (m : FiniteMap nat_cmp X) (k : ℕ) (v : X) → get (insert m k v) k ≡ Some v
  inserted_here m k v = get_inserted m k v k ∙ ap (λ b. cond b (Some v) (get m k)) (eq-eqb k k refl)

  pub inserted_elsewhere : (m : FiniteMap nat_cmp X) (k : ℕ) (v : X) (q : ℕ) → (q ≡ k → ⊥) → get (insert m k v) q ≡ get m q
  inserted_elsewhere m k v q apart = get_inserted m k v q ∙ ap (λ b. cond b (Some v) (get m q)) (ne_eqb q k apart)

  pub removed_here : (m : FiniteMap nat_cmp X) (k : ℕ) → get (remove m k) k ≡ None
  removed_here m k = get_removed m k k ∙ ap (λ b. cond b None (get m k)) (eq-eqb k k refl)

  -- what is absent is removed already
  pub removed_absent : (m : FiniteMap nat_cmp X) (k : ℕ) → get m k ≡ None → remove m k ≡ m
  removed_absent m k none = same (remove m k) m (λ q. get_removed m k q ∙ either q (eqb q k) refl)
    where
      either : (q : ℕ) (b : Bool) → eqb q k ≡ b → cond b None (get m q) ≡ get m q
      either q true here = sym (ap (get m) (eqb-true q k here) ∙ none)
      either q false elsewhere = refl
