-- the finite map that a hashed table stands for, which answers what the table's look-ups answer
use Rattle.std.specs.Prelude.{◌≡◌, Bool, true, false, cond, List, [], ◌∷◌, Option, Some, None, refl}
use Rattle.std.proofs.Common.{sym, ◌∙◌, ap}
use Rattle.std.specs.Option.{option_map}
use Rattle.std.specs.Map.{lookup}
use Rattle.std.specs.declared.cmp.Ordering.{Ordering}
use Rattle.std.specs.Ordering.{eq_by_cmp}
use Rattle.std.specs.Cmp.{IsTotalOrder, eq_by_cmp_equiv}
use Rattle.std.specs.FinMap.{IsAntisymmetric}
use Rattle.std.specs.FinMap.Entries.{find}
use Rattle.finite_map.specs.FiniteMap.{FiniteMap, get, insert, remove, from_entries, get-from_entries, get-insert, get-remove, same_map}

module _ {K X Y : Type 0} where
  -- each key with what f makes of its value
  abbrev pub entries_by : (X → Y) → List (K × X) → List (K × Y)
  entries_by f [] = []
  entries_by f (e ∷ es) = (e.0, f e.1) ∷ entries_by f es

  abbrev pub hashed : {R : K → K → Ordering} → (X → Y) → List (K × X) → FiniteMap R Y
  hashed f es = from_entries (entries_by f es)

module _ {X Y : Type 0} (f : X → Y) where
  moved : (b : Bool) (x : X) (o : Option X)
      → cond b (Some (f x)) (option_map f o) ≡ option_map f (cond b (Some x) o)
  moved b x o =
      elim b as (λ c. cond c (Some (f x)) (option_map f o) ≡ option_map f (cond c (Some x) o))
      [ true ↦ refl | false ↦ refl ]

  gone : (b : Bool) (o : Option X) → option_map f (cond b None o) ≡ cond b None (option_map f o)
  gone b o =
      elim b as (λ c. option_map f (cond c None o) ≡ cond c None (option_map f o))
      [ true ↦ refl | false ↦ refl ]

module _ {K X Y : Type 0} (R : K → K → Ordering) (eq : K → K → Bool)
    (ties : (x y : K) → eq x y ≡ eq_by_cmp R x y) (f : X → Y) where
  find-entries_by : (q : K) (es : List (K × X))
      → find R q (entries_by f es) ≡ option_map f (lookup (eq q) es)
  find-entries_by q [] = refl
  find-entries_by q (e ∷ es) =
      ap (λ b. cond b (Some (f e.1)) (find R q (entries_by f es))) (sym (ties q e.0))
      ∙ ap (λ o. cond (eq q e.0) (Some (f e.1)) o) (find-entries_by q es)
      ∙ moved f (eq q e.0) e.1 (lookup (eq q) es)

  pub get-hashed : IsTotalOrder R → (es : List (K × X)) (q : K)
      → get (hashed {R = R} f es) q ≡ option_map f (lookup (eq q) es)
  get-hashed o es q = get-from_entries o (entries_by f es) q ∙ find-entries_by q es

  module _ (o : IsTotalOrder R) (exact : IsAntisymmetric R) (es fs : List (K × X)) where
    -- the same look-ups, whatever the order of the entries
    pub hashed-same : ((q : K) → lookup (eq q) fs ≡ lookup (eq q) es)
        → hashed {R = R} f fs ≡ hashed f es
    hashed-same is =
        same_map o exact _ _
        (λ q. get-hashed o fs q ∙ ap (option_map f) (is q) ∙ sym (get-hashed o es q))

    tied : (k q : K) → eq k q ≡ eq_by_cmp R q k
    tied k q = ties k q ∙ (eq_by_cmp_equiv o).symm k q

    -- one key has a new value
    pub hashed-insert : (k : K) (v : X)
        → ((q : K) → lookup (eq q) fs ≡ cond (eq k q) (Some v) (lookup (eq q) es))
        → hashed {R = R} f fs ≡ insert (hashed f es) k (f v)
    hashed-insert k v is = same_map o exact _ _ (λ q.
        get-hashed o fs q ∙ ap (option_map f) (is q)
        ∙ sym (moved f (eq k q) v (lookup (eq q) es))
        ∙ ap (λ b. cond b (Some (f v)) (option_map f (lookup (eq q) es))) (tied k q)
        ∙ ap (cond (eq_by_cmp R q k) (Some (f v))) (sym (get-hashed o es q))
        ∙ sym (get-insert o (hashed f es) k (f v) q))

    -- one key is gone
    pub hashed-remove : (k : K)
        → ((q : K) → lookup (eq q) fs ≡ cond (eq k q) None (lookup (eq q) es))
        → hashed {R = R} f fs ≡ remove (hashed f es) k
    hashed-remove k is = same_map o exact _ _ (λ q.
        get-hashed o fs q ∙ ap (option_map f) (is q)
        ∙ gone f (eq k q) (lookup (eq q) es)
        ∙ ap (λ b. cond b None (option_map f (lookup (eq q) es))) (tied k q)
        ∙ ap (cond (eq_by_cmp R q k) None) (sym (get-hashed o es q))
        ∙ sym (get-remove o (hashed f es) k q))
