-- Tables of std, seen as finite maps: a table is its entries, in any order, with distinct keys.
-- `eq` is the equality of the keys that the table uses, and answers as their order does.
use Rattle.std.proofs.Common.{◌≡◌, ◌+◌, Bool, true, false, cond, ◌&&◌, List, [], ◌∷◌, get_or, None, Some, refl, sym, ap, subst, ◌∙◌, arith, IsPermutation}
use Rattle.std.specs.Prelude.{T}
use Rattle.std.specs.List.{IsDistinct, AllByRecursion}
use Rattle.std.specs.List.Sorted.{IsStrictlySortedBy, IsSortedByKey}
use Rattle.std.specs.Map.{keys_of, lookup}
use Rattle.std.specs.Ordering.{is_lt, is_eq, ordering_reverse, eq_by_cmp}
use Rattle.std.specs.declared.cmp.Ordering.{Ordering}
use Rattle.std.specs.declared.cmp.Ordering.TheVariants.{Less, Equal, Greater}
use Rattle.std.specs.Cmp.{IsTotalOrder, IsEquivalence, eq_by_cmp_equiv}
use Rattle.std.specs.FinMap.{IsAntisymmetric}
use Rattle.std.specs.FinMap.Entries.{find, below_all, is_sorted, same_entries}
use Rattle.std.proofs.lemmas.List.Sorted.{IsPermutation-map}
use Rattle.std.proofs.lemmas.Map.Entries.{length-keys_of}
use Rattle.std.proofs.lemmas.Map.Keys.{IsDistinct-IsPermutation, apart_from_distinct, sorted_from_all_adjacent, sorted_head, sorted_tail}
use Rattle.indexmap.proofs.MapLemmas.{lookup_permutation}
use lib.ListN.{get_or-map}
use Rattle.finite_map.specs.FiniteMap.{get, insert, remove, from_entries, get-entries, get-from_entries, get-insert, get-remove, same_map}

neither : (o r : Ordering) → r ≡ ordering_reverse o → is_lt r ≡ false → is_eq o ≡ false → o ≡ Less
neither Less r e lt eq = refl
neither Equal r e lt eq = cc
neither Greater r e lt eq = let less = ap is_lt e in cc

both : (a b : Bool) → T a → T b → T (a && b)
both true b p q = q
both false b p q = p

module _ {K X : Type 0} (R : K → K → Ordering) where
  below : (p : K) (es : List (K × X)) → AllByRecursion (λ q. R p q ≡ Less) (keys_of es) → T (below_all R p es)
  below p [] h = tt
  below p (e ∷ es) h = both _ _ (subst (λ o. T (is_lt o)) (sym h.0) tt) (below p es h.1)

  strictly : (es : List (K × X)) → IsStrictlySortedBy R (keys_of es) → T (is_sorted R es)
  strictly [] h = tt
  strictly (e ∷ es) h =
      both _ _ (below e.0 es (sorted_head R e.0 (keys_of es) h)) (strictly es (sorted_tail R e.0 (keys_of es) h))

module _ {K : Type 0} {R : K → K → Ordering} (o : IsTotalOrder R) {eq : K → K → Bool}
    (ties : (p q : K) → eq p q ≡ eq_by_cmp R p q) where
  pub equal_keys : IsEquivalence eq
  equal_keys = let same : eq_by_cmp R ≡ eq = λ i p q. (sym (ties p q)) i in subst IsEquivalence same (eq_by_cmp_equiv o)

module _ {K X : Type 0} {R : K → K → Ordering} (o : IsTotalOrder R) {eq : K → K → Bool}
    (ties : (p q : K) → eq p q ≡ eq_by_cmp R p q) where
  -- a look-up by the keys' equality is one by their order
  pub lookup-find : (q : K) (es : List (K × X)) → lookup (eq q) es ≡ find R q es
  lookup-find q [] = refl
  lookup-find q (e ∷ es) = λ i. cond (ties q e.0 i) (Some e.1) (lookup-find q es i)

  -- the map answers as the table does
  pub get-table : (es : List (K × X)) (q : K) → get (from_entries {R = R} es) q ≡ lookup (eq q) es
  get-table es q = get-from_entries o es q ∙ sym (lookup-find q es)

  module _ (exact : IsAntisymmetric R) where
    -- two tables that answer alike are one map
    pub same_table : (es fs : List (K × X)) → ((q : K) → lookup (eq q) fs ≡ lookup (eq q) es)
        → from_entries {R = R} fs ≡ from_entries es
    same_table es fs alike = same_map o exact _ _ (λ q. get-table fs q ∙ alike q ∙ sym (get-table es q))

    -- a table that answers as another after a value is put at a key
    pub insert-table : (es fs : List (K × X)) (k : K) (v : X)
        → ((q : K) → lookup (eq q) fs ≡ cond (eq k q) (Some v) (lookup (eq q) es))
        → from_entries {R = R} fs ≡ insert (from_entries es) k v
    insert-table es fs k v updates = same_map o exact _ _ (λ q.
        get-table fs q ∙ updates q
        ∙ (λ i. cond ((ties k q ∙ (eq_by_cmp_equiv o).symm k q) i) (Some v) (sym (get-table es q) i))
        ∙ sym (get-insert o (from_entries es) k v q))

    -- a table that answers as another after a key is taken out
    pub remove-table : (es fs : List (K × X)) (k : K)
        → ((q : K) → lookup (eq q) fs ≡ cond (eq k q) None (lookup (eq q) es))
        → from_entries {R = R} fs ≡ remove (from_entries es) k
    remove-table es fs k updates = same_map o exact _ _ (λ q.
        get-table fs q ∙ updates q
        ∙ (λ i. cond ((ties k q ∙ (eq_by_cmp_equiv o).symm k q) i) None (sym (get-table es q) i))
        ∙ sym (get-remove o (from_entries es) k q))

  -- each entry's key is below that of the next
  rising : (fs : List (K × X)) (d : K × X) → IsDistinct eq (keys_of fs)
      → IsSortedByKey (λ (e : K × X). e.0) R fs → IsStrictlySortedBy R (keys_of fs)
  rising fs d apart sorted =
      sorted_from_all_adjacent o (keys_of fs) d.0 (λ k inside.
      let long = length-keys_of fs in
      let one = get_or-map (λ (e : K × X). e.0) fs k d in
      let next = get_or-map (λ (e : K × X). e.0) fs (k + 1) d in
      let p = get_or (keys_of fs) k d.0 in
      let q = get_or (keys_of fs) (k + 1) d.0 in
      neither (R p q) (R q p) (o.antisymm q p)
      ((λ i. is_lt (R (next i) (one i))) ∙ sorted k d (omega arith) (omega arith))
      (sym (ties p q) ∙ apart_from_distinct eq (keys_of fs) k (k + 1) d.0 apart (omega arith) inside))

  rising_list : (fs : List (K × X)) → IsDistinct eq (keys_of fs)
      → IsSortedByKey (λ (e : K × X). e.0) R fs → T (is_sorted R fs)
  rising_list [] apart sorted = tt
  rising_list (f ∷ fs) apart sorted = strictly R (f ∷ fs) (rising (f ∷ fs) f apart sorted)

  -- the entries of a table, sorted by their keys, are the entries of the map
  pub sorted-entries : IsAntisymmetric R → (es fs : List (K × X)) → IsDistinct eq (keys_of es) → IsPermutation es fs
      → IsSortedByKey (λ (e : K × X). e.0) R fs → fs ≡ (from_entries {R = R} es).entries
  sorted-entries exact es fs apart moved sorted =
      let keys = IsPermutation-map (λ (e : K × X). e.0) es fs moved in
      let distinct = IsDistinct-IsPermutation eq (equal_keys o ties).symm (keys_of es) (keys_of fs) keys apart in
      same_entries R o exact fs (from_entries {R = R} es).entries (rising_list fs distinct sorted)
      (from_entries {R = R} es).sorted (λ q.
      sym (lookup-find q fs)
      ∙ lookup_permutation (equal_keys o ties) es fs moved distinct (eq q) (λ x y t. (equal_keys o ties).congr q x y t)
      ∙ sym (get-table es q) ∙ get-entries (from_entries {R = R} es) q)
