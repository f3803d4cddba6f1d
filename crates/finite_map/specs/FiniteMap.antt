-- A finite map that computes: its entries in the order of the keys, with the proof that they are in
-- order. Two maps that answer alike are equal, and `unfolding computing_maps` opens every function
-- on them, so that a worked example over maps holds by `refl`.
use mathlib.Core.HLevel.{Σ_prop_path}
use lib.Dec.{T_prop}
use Rattle.std.specs.Prelude.{◌≡◌, ℕ, ◌+◌, Bool, true, false, cond, not, T, List, [], ◌∷◌, map, length, is_some, Option, None, Some, refl}
use Rattle.std.proofs.Common.{sym, ◌∙◌, ap, subst}
use base.Stored.{coded_via}
use Rattle.std.specs.Coded.{Coded, coded×, coded_list}
use Rattle.std.specs.Ordering.{eq_by_cmp, is_eq, nat_cmp}
use Rattle.std.specs.declared.cmp.Ordering.{Ordering}
use Rattle.std.specs.declared.cmp.Ordering.TheVariants.{Equal}
use Rattle.std.specs.Cmp.{IsTotalOrder, alike_right, eq_by_cmp_equiv, nat_cmp_total}
use Rattle.std.specs.FinMap.{IsAntisymmetric}
use Rattle.std.specs.FinMap.Entries.{find, put, is_sorted, where_key, is_sorted-put, is_sorted-where_key, find-put, find-where_key, length-put, length_without, same_entries}

pub record FiniteMap {K : Type 0} (R : K → K → Ordering) (X : Type 0) : Type 0 where
  pub entries : List (K × X)
  pub sorted : T (is_sorted R entries)

module _ {K X : Type 0} {R : K → K → Ordering} where
  -- a map is its entries
  pub same_entries_map : (m n : FiniteMap R X) → m.entries ≡ n.entries → m ≡ n
  same_entries_map m n e =
      let pairs
      : ◌≡◌ {A = (es : List (K × X)) × T (is_sorted R es)}
      (m.entries, m.sorted) (n.entries, n.sorted) =
      Σ_prop_path (λ es. T_prop _) e in
      λ i. record { entries = (pairs i).0; sorted = (pairs i).1 }

  -- its code, from those of keys and values
  abbrev pub code : Coded K → Coded X → Coded (FiniteMap R X)
  code k x = coded_via (coded_list (coded× k x)) (λ m. m.entries) same_entries_map

  unfoldable pub empty : FiniteMap R X
  empty = record { entries = []; sorted = tt }

  -- the map of these entries, or the one given where they are out of order
  unfoldable pub checked : (es : List (K × X)) (b : Bool) → is_sorted R es ≡ b → FiniteMap R X
      → FiniteMap R X
  checked es true e m = record { entries = es; sorted = subst T (sym e) tt }
  checked es false e m = m

  unfoldable pub get : FiniteMap R X → K → Option X
  get m q = find R q m.entries

  -- under an order that is not total the map may stay as it is
  unfoldable pub insert : FiniteMap R X → K → X → FiniteMap R X
  insert m k v = checked (put R k v m.entries) _ refl m

  unfoldable pub retain_keys : FiniteMap R X → (K → Bool) → FiniteMap R X
  retain_keys m p = record {
    entries = where_key R p m.entries;
    sorted = is_sorted-where_key R p m.entries m.sorted;
  }

  unfoldable pub remove : FiniteMap R X → K → FiniteMap R X
  remove m k = retain_keys m (λ x. not (eq_by_cmp R k x))

  unfoldable pub len : FiniteMap R X → ℕ
  len m = length m.entries

  abbrev pub contains_key : FiniteMap R X → K → Bool
  contains_key m q = is_some (get m q)

  abbrev pub keys : FiniteMap R X → List K
  keys m = map (λ e. e.0) m.entries

  abbrev pub values : FiniteMap R X → List X
  values m = map (λ e. e.1) m.entries

  -- of any entries; at a key that stands twice the first entry counts
  abbrev pub from_entries : List (K × X) → FiniteMap R X
  from_entries [] = empty
  from_entries (e ∷ es) = insert (from_entries es) e.0 e.1

-- what a worked example unfolds
unfoldable pub computing_maps : Unit {0}
unfolding empty checked get insert retain_keys remove len
computing_maps = tt

module _ {K X : Type 0} (R : K → K → Ordering) where
  pub get-empty : (q : K) → get (empty {X = X} {R = R}) q ≡ None
  unfolding empty get
  get-empty q = refl

pub len-empty : {K : Type 0} (R : K → K → Ordering) (X : Type 0) → len (empty {X = X} {R = R}) ≡ 0
unfolding empty len
len-empty R X = refl

turned : {A : Type 0} (b : Bool) (x y : A) → cond (not b) x y ≡ cond b y x
turned true x y = refl
turned false x y = refl

module _ {K X : Type 0} {R : K → K → Ordering} where
  pub get-entries : (m : FiniteMap R X) (q : K) → get m q ≡ find R q m.entries
  unfolding get
  get-entries m q = refl

  pub len-entries : (m : FiniteMap R X) → len m ≡ length m.entries
  unfolding len
  len-entries m = refl

  pub entries-checked : (es : List (K × X)) (b : Bool) (e : is_sorted R es ≡ b) (m : FiniteMap R X)
      → T b → (checked es b e m).entries ≡ es
  unfolding checked
  entries-checked es true e m h = refl
  entries-checked es false e m h = absurd h

  pub get-retain_keys : (m : FiniteMap R X) (p : K → Bool) (q : K)
      → ((x : K) → R q x ≡ Equal → p x ≡ p q)
      → get (retain_keys m p) q ≡ cond (p q) (get m q) None
  unfolding get retain_keys
  get-retain_keys m p q alike = find-where_key R p q alike m.entries

module _ {K X : Type 0} {R : K → K → Ordering} (o : IsTotalOrder R) where
  pub entries-insert : (m : FiniteMap R X) (k : K) (v : X)
      → (insert m k v).entries ≡ put R k v m.entries
  unfolding insert
  entries-insert m k v = entries-checked _ _ refl m (is_sorted-put R o k v m.entries m.sorted)

  pub get-insert : (m : FiniteMap R X) (k : K) (v : X) (q : K)
      → get (insert m k v) q ≡ cond (eq_by_cmp R q k) (Some v) (get m q)
  unfolding get
  get-insert m k v q = ap (find R q) (entries-insert m k v) ∙ find-put R o q k v m.entries

  pub get-remove : (m : FiniteMap R X) (k q : K)
      → get (remove m k) q ≡ cond (eq_by_cmp R q k) None (get m q)
  unfolding remove
  get-remove m k q =
      get-retain_keys m (λ x. not (eq_by_cmp R k x)) q
      (λ x t. ap (λ r. not (is_eq r)) (sym (alike_right o q x k t)))
      ∙ turned (eq_by_cmp R k q) _ _
      ∙ ap (λ b. cond b None (get m q)) ((eq_by_cmp_equiv o).symm k q)

  pub get-from_entries : (es : List (K × X)) (q : K) → get (from_entries {R = R} es) q ≡ find R q es
  get-from_entries [] q = get-empty R q
  get-from_entries (e ∷ es) q =
      get-insert (from_entries es) e.0 e.1 q
      ∙ ap (cond (eq_by_cmp R q e.0) (Some e.1)) (get-from_entries es q)

  pub len-insert : (m : FiniteMap R X) (k : K) (v : X)
      → len (insert m k v) ≡ cond (contains_key m k) (len m) (len m + 1)
  unfolding len get
  len-insert m k v = ap length (entries-insert m k v) ∙ length-put R o k v m.entries m.sorted

  pub len_before_remove : (m : FiniteMap R X) (k : K)
      → cond (contains_key m k) 1 0 + len (remove m k) ≡ len m
  unfolding len get remove retain_keys
  len_before_remove m k = length_without R o k m.entries m.sorted

  -- two maps that answer alike are equal
  pub same_map : IsAntisymmetric R → (m n : FiniteMap R X) → ((q : K) → get m q ≡ get n q) → m ≡ n
  unfolding get
  same_map same m n is =
      same_entries_map m n (same_entries R o same m.entries n.entries m.sorted n.sorted is)

-- what `get` answers after each edit, for `grind`
pub ruleset gets = (get-empty, get-insert, get-remove, get-from_entries, len-insert, nat_cmp_total)

example : get (remove (insert (insert (empty {X = ℕ} {R = nat_cmp}) 5 1) 3 2) 5) 3 ≡ Some 2
unfolding computing_maps
example = refl
