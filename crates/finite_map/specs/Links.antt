-- keys of which each leads to the next, from the newest on
use Rattle.std.specs.Prelude.{◌≡◌, Bool, true, false, cond, List, [], ◌∷◌, ◌⊎◌, Option, Some, None, refl}
use Rattle.std.proofs.Common.{sym, ◌∙◌, ap, subst, inl, inr}

is_None : {A : Type 0} (o : Option A) → ((x : A) → o ≡ Some x → ⊥) → o ≡ None
is_None None no_value = refl
is_None (Some x) no_value = absurd (no_value x refl)

is_false : (b : Bool) → (b ≡ true → ⊥) → b ≡ false
is_false true no_truth = absurd (no_truth refl)
is_false false no_truth = refl

module _ {K : Type 0} where
  -- the key is one of the list
  abbrev pub IsIn : K → List K → Type 0
  IsIn k [] = ⊥
  IsIn k (x ∷ xs) = (k ≡ x) ⊎ IsIn k xs

  -- the newest leads through the list to its end, and no key stands there twice
  abbrev pub Leads : (K → Option (Option K)) → Option K → List K → Type 0
  Leads before newest [] = newest ≡ None
  Leads before newest (k ∷ ks) =
      (newest ≡ Some k) × (IsIn k ks → ⊥)
      × ((next : Option K) × (before k ≡ Some next) × Leads before next ks)

  -- `before` says of each key that is linked which one comes next; the newest leads to all of them
  pub record Linked (before : K → Option (Option K)) (newest : Option K) : Type 0 where
    pub keys : List K
    pub leads : Leads before newest keys
    pub all : (k : K) (next : Option K) → before k ≡ Some next → IsIn k keys

  -- where nothing is linked
  pub none_linked : (before : K → Option (Option K)) → ((k : K) → before k ≡ None)
      → Linked before None
  none_linked before none = record { keys = []; leads = refl; all = λ k next e. cc (none k, e) }

  -- the same links by another function
  pub linked_along : (before after : K → Option (Option K)) (newest : Option K)
      → ((k : K) → after k ≡ before k) → Linked before newest → Linked after newest
  linked_along before after newest same linked =
      subst (λ b. Linked b newest) (λ i k. let e = sym (same k) in e i) linked

  no_keys : (before : K → Option (Option K)) (ks : List K) → Leads before None ks
      → ((k : K) (next : Option K) → before k ≡ Some next → IsIn k ks) → (k : K) → before k ≡ None
  no_keys before [] leads all k = is_None (before k) (λ next e. all k next e)
  no_keys before (x ∷ xs) leads all k = let e = leads.0 in cc

  -- where there is no newest nothing is linked
  pub none_newest : (before : K → Option (Option K)) → Linked before None → (k : K)
      → before k ≡ None
  none_newest before linked = no_keys before linked.keys linked.leads linked.all

  leads_along : (before after : K → Option (Option K)) (newest : Option K) (ks : List K)
      → ((k : K) → IsIn k ks → after k ≡ before k) → Leads before newest ks → Leads after newest ks
  leads_along before after newest [] same leads = leads
  leads_along before after newest (x ∷ xs) same leads = (
    leads.0,
    leads.1,
    (
      leads.2.0,
      same x (inl refl) ∙ leads.2.1,
      leads_along before after leads.2.0 xs (λ k h. same k (inr h)) leads.2.2,
    ),
  )

  -- each key of the list is linked
  is_linked : (before : K → Option (Option K)) (newest : Option K) (ks : List K)
      → Leads before newest ks
      → (k : K) → IsIn k ks → (next : Option K) × (before k ≡ Some next)
  is_linked before newest [] leads k h = absurd h
  is_linked before newest (x ∷ xs) leads k h = elim h [
    | inl e ↦ (leads.2.0, ap before e ∙ leads.2.1)
    | inr later ↦ is_linked before leads.2.0 xs leads.2.2 k later
  ]

  first_in : (before : K → Option (Option K)) (p : K) (ks : List K) → Leads before (Some p) ks
      → IsIn p ks
  first_in before p [] leads = let e = leads in cc
  first_in before p (x ∷ xs) leads = inl (let e = leads.0 in cc)

  -- the newest is linked
  pub newest_linked : (before : K → Option (Option K)) (p : K) → Linked before (Some p)
      → (next : Option K) × (before p ≡ Some next)
  newest_linked before p linked =
      is_linked before (Some p) linked.keys linked.leads p
      (first_in before p linked.keys linked.leads)

module _ {K : Type 0} (before after : K → Option (Option K)) (p : K) (same : K → Bool)
    (exact : (k : K) → same k ≡ true → k ≡ p) (itself : same p ≡ true) where
  differs : (ks : List K) → (IsIn p ks → ⊥) → (k : K) → IsIn k ks → same k ≡ false
  differs ks apart k h = is_false (same k) (λ e. apart (subst (λ x. IsIn x ks) (exact k e) h))

  added_in : (ks : List K) (newest : Option K)
      → ((k : K) (n : Option K) → before k ≡ Some n → IsIn k ks)
      → (k : K) (next : Option K) → (b : Bool) → same k ≡ b
      → cond b (Some newest) (before k) ≡ Some next → IsIn k (p ∷ ks)
  added_in ks newest all k next true e is = inl (exact k e)
  added_in ks newest all k next false e is = inr (all k next is)

  -- one more key, which is the newest from then on
  pub link_added : (newest : Option K) → before p ≡ None
      → ((k : K) → after k ≡ cond (same k) (Some newest) (before k))
      → Linked before newest → Linked after (Some p)
  link_added newest fresh is linked =
      let apart : IsIn p linked.keys → ⊥ =
      λ h. let l = is_linked before newest linked.keys linked.leads p h in let e = l.1 in cc in
      let others : (k : K) → IsIn k linked.keys → after k ≡ before k =
      λ k h. is k ∙ ap (λ b. cond b (Some newest) (before k)) (differs linked.keys apart k h) in
      record {
        keys = p ∷ linked.keys;
        leads = (
          refl,
          apart,
          (
            newest,
            is p ∙ ap (λ b. cond b (Some newest) (before p)) itself,
            leads_along before after newest linked.keys others linked.leads,
          ),
        );
        all = λ k next e.
            added_in linked.keys newest linked.all k next (same k) refl (sym (is k) ∙ e);
      }

  left_in : (ks : List K) → ((k : K) (n : Option K) → before k ≡ Some n → IsIn k (p ∷ ks))
      → (k : K) (next : Option K) → (b : Bool) → same k ≡ b → cond b None (before k) ≡ Some next
      → IsIn k ks
  left_in ks all k next true e is = cc
  left_in ks all k next false e is = elim (all k next is) [
    | inl at_p ↦ let t : same k ≡ true = ap same at_p ∙ itself in cc
    | inr later ↦ later
  ]

  without_first : (next : Option K) (ks : List K) → before p ≡ Some next
      → ((k : K) → after k ≡ cond (same k) None (before k))
      → Leads before (Some p) ks → ((k : K) (n : Option K) → before k ≡ Some n → IsIn k ks)
      → Linked after next
  without_first next [] leads_to is leads all = let e = leads in cc
  without_first next (x ∷ xs) leads_to is leads all =
      let first : x ≡ p = let e = leads.0 in cc in
      let apart : IsIn p xs → ⊥ = subst (λ y. IsIn y xs → ⊥) first leads.1 in
      let same_next : leads.2.0 ≡ next = let e = leads.2.1 in let f = ap before first in cc in
      record {
        keys = xs;
        leads = leads_along before after next xs
            (λ k h. is k ∙ ap (λ b. cond b None (before k)) (differs xs apart k h))
            (subst (λ n. Leads before n xs) same_next leads.2.2);
        all = λ k n e. left_in xs
            (subst (λ y. (k : K) (n : Option K) → before k ≡ Some n → IsIn k (y ∷ xs)) first all)
            k n (same k) refl (sym (is k) ∙ e);
      }

  -- without the newest key, the one that it led to is the newest
  pub newest_taken : (next : Option K) → before p ≡ Some next
      → ((k : K) → after k ≡ cond (same k) None (before k))
      → Linked before (Some p) → Linked after next
  newest_taken next leads_to is linked =
      without_first next linked.keys leads_to is linked.leads linked.all
