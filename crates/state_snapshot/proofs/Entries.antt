-- What holds of all entries of a map, and what is left of it after an edit.
use Rattle.std.proofs.Common.{◌≡◌, Bool, true, false, cond, List, [], ◌∷◌, Option, Some, refl, sym, subst, ◌∙◌}
use Rattle.std.specs.List.{AllByRecursion}
use Rattle.std.specs.Ordering.{eq_by_cmp}
use Rattle.std.specs.declared.cmp.Ordering.{Ordering}
use Rattle.std.specs.declared.cmp.Ordering.TheVariants.{Less, Equal, Greater}
use Rattle.std.specs.FinMap.Entries.{put, find, where_key, by_order}
use Rattle.std.proofs.lemmas.Option.{same_Some}
use Rattle.finite_map.specs.FiniteMap.{FiniteMap, get, insert, retain_keys, get-entries, entries-insert}
use Rattle.finite_map.proofs.Edits.{IsKeyOrder, tied}

pub all_map : {A : Type 0} (P Q : A → Type 0) → ((x : A) → P x → Q x) → (xs : List A) → AllByRecursion P xs → AllByRecursion Q xs
all_map P Q f [] all = tt
all_map P Q f (x ∷ xs) all = (f x all.0, all_map P Q f xs all.1)

module _ {K X : Type 0} {R : K → K → Ordering} (o : IsKeyOrder R) (P : K × X → Type 0) where
  put_by : (r : Ordering) (k : K) (v : X) (e : K × X) (es rest : List (K × X)) → R k e.0 ≡ r → P (k, v) → P e → AllByRecursion P es
      → AllByRecursion P rest → AllByRecursion P (by_order r ((k, v) ∷ e ∷ es) ((e.0, v) ∷ es) (e ∷ rest))
  put_by Less k v e es rest is new own all later = (new, (own, all))
  put_by Equal k v e es rest is new own all later = (subst (λ key. P (key, v)) (o.exact k e.0 is) new, all)
  put_by Greater k v e es rest is new own all later = (own, later)

  put_all : (k : K) (v : X) (es : List (K × X)) → P (k, v) → AllByRecursion P es → AllByRecursion P (put R k v es)
  put_all k v [] new all = (new, tt)
  put_all k v (e ∷ es) new all = put_by (R k e.0) k v e es (put R k v es) refl new all.0 all.1 (put_all k v es new all.1)

  pub all_insert : (m : FiniteMap R X) (k : K) (v : X) → P (k, v) → AllByRecursion P m.entries → AllByRecursion P (insert m k v).entries
  all_insert m k v new all = subst (AllByRecursion P) (sym (entries-insert o.total m k v)) (put_all k v m.entries new all)

  found_by : (b : Bool) (k : K) (v : X) (e : K × X) (rest : Option X) → eq_by_cmp R k e.0 ≡ b → P e → (rest ≡ Some v → P (k, v))
      → cond b (Some e.1) rest ≡ Some v → P (k, v)
  found_by true k v e rest tie own later is =
      subst (λ key. P (key, v)) (sym (tied o k e.0 tie)) (subst (λ value. P (e.0, value)) (same_Some e.1 v is) own)
  found_by false k v e rest tie own later is = later is

  find_all : (k : K) (v : X) (es : List (K × X)) → AllByRecursion P es → find R k es ≡ Some v → P (k, v)
  find_all k v [] all is = absurd cc
  find_all k v (e ∷ es) all is = found_by (eq_by_cmp R k e.0) k v e (find R k es) refl all.0 (find_all k v es all.1) is

  pub found : (m : FiniteMap R X) (k : K) (v : X) → AllByRecursion P m.entries → get m k ≡ Some v → P (k, v)
  found m k v all is = find_all k v m.entries all (sym (get-entries m k) ∙ is)

  kept_by : (b : Bool) (test : K → Bool) (Q : K × X → Type 0) (e : K × X) (rest : List (K × X)) → test e.0 ≡ b → P e
      → (P e → test e.0 ≡ true → Q e) → AllByRecursion Q rest → AllByRecursion Q (cond b (e ∷ rest) rest)
  kept_by true test Q e rest is own turn all = (turn own is, all)
  kept_by false test Q e rest is own turn all = all

  where_all : (test : K → Bool) (Q : K × X → Type 0) → ((e : K × X) → P e → test e.0 ≡ true → Q e) → (es : List (K × X))
      → AllByRecursion P es → AllByRecursion Q (where_key R test es)
  where_all test Q turn [] all = tt
  where_all test Q turn (e ∷ es) all = kept_by (test e.0) test Q e (where_key R test es) refl all.0 (turn e) (where_all test Q turn es all.1)

  -- what holds of the entries that are kept
  pub all_kept : (test : K → Bool) (Q : K × X → Type 0) → ((e : K × X) → P e → test e.0 ≡ true → Q e) → (m : FiniteMap R X)
      → AllByRecursion P m.entries → AllByRecursion Q (retain_keys m test).entries
  unfolding retain_keys
  all_kept test Q turn m all = where_all test Q turn m.entries all
