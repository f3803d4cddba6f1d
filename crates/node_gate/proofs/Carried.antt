-- What a seat carries through a step: the slot of the value, and the value that it was lent.
use Rattle.std.proofs.Common.{◌≡◌, ℕ, ◌≤◌, List, [], ◌∷◌, get_or, subst, sym, ap, ◌∙◌, Some, unwrap_or}
use Rattle.atomic_table.specs.Table.{rest}
use Rattle.node_gate.specs.declared.view.View.{View}
use Rattle.node_gate.specs.Plays.{Lent}

module _ {S : Type 0} where
  -- the one slot is also the one that was taken last
  pub taken_last : (xs : List (ℕ × S)) (x : S) → xs ≡ (0, x) ∷ [] → xs ≡ (0, x) ∷ rest xs
  taken_last xs x e = e ∙ ap (λ ys. (0, x) ∷ ys) (sym (ap rest e))

  pub same_carried : (xs ys zs : List (ℕ × S)) (x y : S) → xs ≡ (0, x) ∷ ys → xs ≡ (0, y) ∷ zs
      → x ≡ y
  same_carried xs ys zs x y e f = ap (λ (l : List (ℕ × S)). (get_or {A = ℕ × S} l 0 (0, x)).1) (sym e ∙ f)

pub same_value : {C : Type 0} (a b : C) → Some a ≡ Some b → a ≡ b
same_value a b e = ap (λ o. unwrap_or o a) e

-- what is said of the value lent is said of the same value
abbrev pub lent_as : {C E M : Type 0} (entries : C → List E) (count : List E → ℕ)
    (mark : C → M) (may : ℕ → E → Type 0) (v : View E M) (a b : C) → a ≡ b
    → Lent entries count mark may v a → Lent entries count mark may v b
lent_as entries count mark may v a b e l = record {
  log = l.log;
  has = ap entries (sym e) ∙ l.has;
  begins = l.begins;
  own = l.own;
  allowed = l.allowed;
  marked = l.marked ∙ ap (λ c. Some (mark c)) e;
  rises = subst (λ c. v.published ≤ count (entries c)) e l.rises;
}
