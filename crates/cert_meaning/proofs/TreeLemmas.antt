-- A tree of std seen as a finite map: its entries, whose keys rise.
use Rattle.std.proofs.Common.{◌≡◌, Bool, true, false, cond, List, [], ◌∷◌, Option, None, Some, refl, sym, ap, ◌∙◌}
use Rattle.std.specs.List.{filter, AllByRecursion}
use Rattle.std.specs.List.Sorted.{IsStrictlySortedBy}
use Rattle.std.specs.Map.{keys_of, lookup}
use Rattle.std.specs.Ordering.{is_eq, eq_by_cmp}
use Rattle.std.specs.declared.cmp.Ordering.{Ordering}
use Rattle.std.specs.declared.cmp.Ordering.TheVariants.{Less, Equal, Greater}
use Rattle.std.specs.Cmp.{IsTotalOrder}
use Rattle.std.specs.FinMap.{IsAntisymmetric}
use Rattle.std.specs.FinMap.Entries.{put, by_order, find-where_key}
use Rattle.finite_map.specs.FiniteMap.{FiniteMap, empty, get-insert, entries-insert, get, insert, remove, retain_keys, from_entries, get-retain_keys, get-from_entries, same_map}
use Rattle.std.proofs.lemmas.Map.Keys.{sorted_head, sorted_tail}
use Rattle.finite_map.proofs.Tables.{get-table, insert-table, remove-table}

module _ {K : Type 0} (R : K → K → Ordering) where
  same : (p q : K) → eq_by_cmp R p q ≡ eq_by_cmp R p q
  same p q = refl

is_Equal : (r : Ordering) → is_eq r ≡ true → r ≡ Equal
is_Equal Less e = cc
is_Equal Equal e = refl
is_Equal Greater e = cc

module _ {K X : Type 0} {R : K → K → Ordering} (o : IsTotalOrder R) where
  -- the map answers as the tree does
  pub get-tree : (es : List (K × X)) (q : K) → get (from_entries {R = R} es) q ≡ lookup (eq_by_cmp R q) es
  get-tree es q = get-table o (same R) es q

  module _ (exact : IsAntisymmetric R) where
    pub insert-tree : (es fs : List (K × X)) (k : K) (v : X)
        → ((q : K) → lookup (eq_by_cmp R q) fs ≡ cond (eq_by_cmp R k q) (Some v) (lookup (eq_by_cmp R q) es))
        → from_entries {R = R} fs ≡ insert (from_entries es) k v
    insert-tree es fs k v updates = insert-table o (same R) exact es fs k v updates

    pub remove-tree : (es fs : List (K × X)) (k : K)
        → ((q : K) → lookup (eq_by_cmp R q) fs ≡ cond (eq_by_cmp R k q) None (lookup (eq_by_cmp R q) es))
        → from_entries {R = R} fs ≡ remove (from_entries es) k
    remove-tree es fs k updates = remove-table o (same R) exact es fs k updates

    same_value : (m : FiniteMap R X) (k q : K) (v : X) (b : Bool) → eq_by_cmp R q k ≡ b → get m k ≡ Some v → cond b (Some v) (get m q) ≡ get m q
    same_value m k q v true tied there = sym there ∙ ap (get m) (sym (exact q k (is_Equal (R q k) tied)))
    same_value m k q v false tied there = refl

    -- a value that is there already
    pub insert-known : (m : FiniteMap R X) (k : K) (v : X) → get m k ≡ Some v → insert m k v ≡ m
    insert-known m k v there = same_map o exact _ _ (λ q.
        get-insert o m k v q ∙ same_value m k q v (eq_by_cmp R q k) refl there)

    -- the entries whose keys pass a test
    pub retain-tree : (p : K → Bool) (es fs : List (K × X)) → fs ≡ filter (λ e. p e.0) es
        → from_entries {R = R} fs ≡ retain_keys (from_entries es) p
    retain-tree p es fs kept = same_map o exact _ _ (λ q.
        ap (λ (x : List (K × X)). get (from_entries {R = R} x) q) kept
        ∙ get-from_entries o (filter (λ e. p e.0) es) q
        ∙ find-where_key R p q (λ x tied. ap p (sym (exact q x tied))) es
        ∙ ap (λ (v : Option X). cond (p q) v None) (sym (get-from_entries o es q))
        ∙ sym (get-retain_keys (from_entries es) p q (λ x tied. ap p (sym (exact q x tied)))))

  put_first : (e : K × X) (es : List (K × X)) → AllByRecursion (λ q. R e.0 q ≡ Less) (keys_of es) → put R e.0 e.1 es ≡ e ∷ es
  put_first e [] h = refl
  put_first e (f ∷ fs) h = ap (λ r. by_order r (e ∷ f ∷ fs) ((f.0, e.1) ∷ fs) (f ∷ put R e.0 e.1 fs)) h.0

  -- entries whose keys rise are those of the map
  pub entries-tree : (es : List (K × X)) → IsStrictlySortedBy R (keys_of es) → (from_entries {R = R} es).entries ≡ es
  unfolding empty
  entries-tree [] h = refl
  entries-tree (e ∷ es) h =
      entries-insert o (from_entries es) e.0 e.1
      ∙ ap (put R e.0 e.1) (entries-tree es (sorted_tail R e.0 (keys_of es) h))
      ∙ put_first e es (sorted_head R e.0 (keys_of es) h)
