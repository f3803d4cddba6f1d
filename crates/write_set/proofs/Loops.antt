-- Reading several values one behind the other, as a loop does.
use Rattle.std.proofs.Common.{◌≡◌, ℕ, suc, ◌+◌, ◌-◌, ◌<◌, ◌≤◌, true, false, cond, is_some, List, [], ◌∷◌, ◌++◌, length, take, drop, set, replicate, ◌⊎◌, Option, Some, None, Ok, Err, refl, sym, ap, ◌∙◌, append_assoc, arith}
use Rattle.std.specs.Prelude.{◌==◌, ◌||◌, nat_lt}
use Rattle.std.specs.Int.{w8, w64}
use Rattle.std.proofs.lemmas.Bool.{le-leb, lt-leb}
use Rattle.std.proofs.lemmas.Bool.Decides.{nat_tests}
use Rattle.std.proofs.Math.Seq.{take-append-add}
use Rattle.std.proofs.lemmas.List.{append-nil, drop-drop, drop-set-lt, take-append-drop, take-replicate, drop-replicate, length-take-le, length-set, take_more_set}
use Rattle.key_sets.specs.declared.kind.Kind.{Kind}
use Rattle.key_sets.specs.declared.parts.Parts.{Parts}
use Rattle.finite_map.specs.FiniteMap.{get, len}
use Rattle.key_sets.specs.Keys.{Keys, with_key, with_keys}
use Rattle.key_sets.proofs.WithKey.{len-with_key}
use Rattle.write_set.specs.declared.fault.WsFault.{WsFault}
use Rattle.write_set.specs.declared.fault.WsFault.TheVariants.{NotCanonical, BadChange}
use Rattle.write_set.specs.Place.{Place}
use Rattle.write_set.specs.Reading.{◌>>=◌, Read, Fails, number_at, many_at, some_columns_at, key_at, is_above, some_keys_at, with_read}
use Rattle.wsrep_base.proofs.Fields.{with_front, regroup}
use Rattle.write_set.proofs.Steps.{fails_along}

pub goes_on : {A : Type 0} (one_at : Place → Read A) (front : List A) (count i : ℕ) (p : Place) (x : A) (after : Place) (total : Read (List A))
    → i < count → one_at p ≡ Ok (x, after) → with_front front (many_at one_at (count - i) p) ≡ total
    → with_front (front ++ x ∷ []) (many_at one_at (count - (i + 1)) after) ≡ total
unfolding many_at
goes_on one_at front count i p x after total below is so_far =
    let more : count - i ≡ suc (count - (i + 1)) = omega arith in
    let one : with_front front (many_at one_at (count - i) p) ≡ with_front (front ++ x ∷ []) (many_at one_at (count - (i + 1)) after) =
    rw (more, is) (regroup front x (many_at one_at (count - (i + 1)) after)) in
    sym one ∙ so_far

pub ends : {A : Type 0} (one_at : Place → Read A) (fault : WsFault) (front : List A) (count i : ℕ) (p : Place) (total : Read (List A))
    → i < count → Fails fault (one_at p) → with_front front (many_at one_at (count - i) p) ≡ total → Fails fault total
unfolding many_at
ends one_at fault front count i p total below fails so_far =
    let more : count - i ≡ suc (count - (i + 1)) = omega arith in
    fails_along fault (one_at p) total (λ is.
    let one : with_front front (many_at one_at (count - i) p) ≡ Err fault = rw (more, is) refl in sym so_far ∙ one) fails

pub is_done : {A : Type 0} (one_at : Place → Read A) (front : List A) (count i : ℕ) (p : Place) (total : Read (List A))
    → count ≤ i → with_front front (many_at one_at (count - i) p) ≡ total → total ≡ Ok (front, p)
unfolding many_at
is_done one_at front count i p total all so_far =
    let more : count - i ≡ 0 = omega arith in
    let one : with_front front (many_at one_at (count - i) p) ≡ Ok (front, p) = rw more (ap (λ xs. Ok (xs, p)) (append-nil front)) in
    sym so_far ∙ one

-- keys

regroup_keys : (keys : Keys) (key : Parts × Kind) (more : Read (List (Parts × Kind)))
    → with_read keys (more >>= λ others. Ok (key ∷ others.0, others.1)) ≡ with_read (with_key keys key.0 key.1) more
unfolding with_keys
regroup_keys keys key (Ok more) = refl
regroup_keys keys key (Err fault) = refl

pub key_goes_on : (keys : Keys) (count i : ℕ) (before : Option Parts) (p : Place) (parts : Parts) (kind : Kind) (after : Place) (total : Read Keys)
    → i < count → key_at p ≡ Ok ((parts, kind), after) → is_above before parts ≡ true
    → with_read keys (some_keys_at (count - i) before p) ≡ total
    → with_read (with_key keys parts kind) (some_keys_at (count - (i + 1)) (Some parts) after) ≡ total
unfolding some_keys_at
key_goes_on keys count i before p parts kind after total below is rises so_far =
    let more : count - i ≡ suc (count - (i + 1)) = omega arith in
    let one : with_read keys (some_keys_at (count - i) before p) ≡ with_read (with_key keys parts kind) (some_keys_at (count - (i + 1)) (Some parts) after) =
    rw (more, is, rises) (regroup_keys keys (parts, kind) (some_keys_at (count - (i + 1)) (Some parts) after)) in
    sym one ∙ so_far

pub key_ends : (fault : WsFault) (keys : Keys) (count i : ℕ) (before : Option Parts) (p : Place) (total : Read Keys)
    → i < count → Fails fault (key_at p) → with_read keys (some_keys_at (count - i) before p) ≡ total → Fails fault total
unfolding some_keys_at
key_ends fault keys count i before p total below fails so_far =
    let more : count - i ≡ suc (count - (i + 1)) = omega arith in
    fails_along fault (key_at p) total (λ is.
    let one : with_read keys (some_keys_at (count - i) before p) ≡ Err fault = rw (more, is) refl in sym so_far ∙ one) fails

pub key_falls : (keys : Keys) (count i : ℕ) (before : Option Parts) (p : Place) (parts : Parts) (kind : Kind) (after : Place) (total : Read Keys)
    → i < count → key_at p ≡ Ok ((parts, kind), after) → is_above before parts ≡ false
    → with_read keys (some_keys_at (count - i) before p) ≡ total → total ≡ Err (NotCanonical p.at)
unfolding some_keys_at
key_falls keys count i before p parts kind after total below is falls so_far =
    let more : count - i ≡ suc (count - (i + 1)) = omega arith in
    let one : with_read keys (some_keys_at (count - i) before p) ≡ Err (NotCanonical p.at) = rw (more, is, falls) refl in
    sym so_far ∙ one

pub keys_done : (keys : Keys) (count i : ℕ) (before : Option Parts) (p : Place) (total : Read Keys)
    → count ≤ i → with_read keys (some_keys_at (count - i) before p) ≡ total → total ≡ Ok (keys, p)
unfolding some_keys_at with_keys
keys_done keys count i before p total all so_far =
    let more : count - i ≡ 0 = omega arith in
    let one : with_read keys (some_keys_at (count - i) before p) ≡ Ok (keys, p) = rw more refl in
    sym so_far ∙ one

-- columns

-- the cells up to `last` are read, and those behind it are empty
pub record AreUpTo (last : ℕ) (cells : List (Option ℕ)) : Type 0 where
  pub most : last ≤ 8
  pub all : length cells ≡ 8
  pub empty : drop last cells ≡ replicate (8 - last) None

-- one more column is set: the cells between are empty
more_cells : (last column value : ℕ) (cells : List (Option ℕ)) → AreUpTo last cells → last < column → column ≤ 8
    → take column (set cells (column - 1) (Some value)) ≡ take last cells ++ (replicate (column - (last + 1)) None ++ Some value ∷ [])
more_cells last column value cells kept above most =
    let front = take last cells in
    let gap = column - (last + 1) in
    let in_cells : last ≤ length cells = rw kept.all kept.most in
    let long : length front ≡ last = length-take-le last cells in_cells in
    let up : column ≡ (column - 1) + 1 = omega arith in
    let seam : column - 1 ≡ length front + gap = omega arith in
    let inside : column - 1 < length cells = rw kept.all (omega arith) in
    let parts : cells ≡ front ++ replicate (8 - last) None = sym (take-append-drop last cells) ∙ ap (λ rest. front ++ rest) kept.empty in
    let before : take (column - 1) cells ≡ front ++ replicate gap None =
    ap (take (column - 1)) parts ∙ ap (λ n. take n (front ++ replicate (8 - last) None)) seam
    ∙ take-append-add front (replicate (8 - last) None) gap
    ∙ ap (λ rest. front ++ rest) (take-replicate gap (8 - last) None (omega arith)) in
    ap (λ n. take n (set cells (column - 1) (Some value))) up ∙ take_more_set cells (column - 1) (Some value) inside
    ∙ ap (λ rest. rest ++ Some value ∷ []) before ∙ append_assoc front (replicate gap None) (Some value ∷ [])

pub more_empty : (last column value : ℕ) (cells : List (Option ℕ)) → AreUpTo last cells → last < column → column ≤ 8
    → AreUpTo column (set cells (column - 1) (Some value))
more_empty last column value cells kept above most =
    let up : column ≡ last + (column - last) = omega arith in
    let less : (8 - last) - (column - last) ≡ 8 - column = omega arith in
    record {
      most = most;
      all = length-set cells (column - 1) (Some value) ∙ kept.all;
      empty = drop-set-lt column cells (column - 1) (Some value) (omega arith) ∙ ap (λ n. drop n cells) up
          ∙ sym (drop-drop (column - last) last cells) ∙ ap (drop (column - last)) kept.empty
          ∙ drop-replicate (column - last) (8 - last) None ∙ ap (λ n. replicate n None) less;
    }

regroup_columns : (front gap : List (Option ℕ)) (value : ℕ) (more : Read (List (Option ℕ)))
    → with_front front (more >>= λ others. Ok (gap ++ Some value ∷ others.0, others.1)) ≡ with_front (front ++ (gap ++ Some value ∷ [])) more
regroup_columns front gap value (Ok more) =
    ap (λ xs. Ok (xs, more.1)) (sym (append_assoc front (gap ++ Some value ∷ []) more.0 ∙ ap (λ xs. front ++ xs) (append_assoc gap (Some value ∷ []) more.0)))
regroup_columns front gap value (Err fault) = refl

fits_eight : (column : ℕ) → 0 < column → column ≤ 8 → (column == 0 || nat_lt 8 column) ≡ false
fits_eight column some most = grind (arith, nat_tests)

outside_eight : (column : ℕ) → (column ≡ 0) ⊎ (8 < column) → (column == 0 || nat_lt 8 column) ≡ true
outside_eight column out = grind (arith, nat_tests)

module _ (front : List (Option ℕ)) (count i last : ℕ) (p : Place) (total : Read (List (Option ℕ))) (below : i < count)
    (so_far : with_front front (some_columns_at (count - i) last p) ≡ total) where
  -- a fault of the next column is that of all
  column_faults : (fault : WsFault) → some_columns_at (suc (count - (i + 1))) last p ≡ Err fault → total ≡ Err fault
  column_faults fault is =
      let more : count - i ≡ suc (count - (i + 1)) = omega arith in
      let one : with_front front (some_columns_at (count - i) last p) ≡ Err fault = rw (more, is) refl in
      sym so_far ∙ one

  pub column_ends : (fault : WsFault) → Fails fault (number_at w8 p) → Fails fault total
  unfolding some_columns_at
  column_ends fault fails = fails_along fault (number_at w8 p) total (λ is. column_faults fault (rw is refl)) fails

  pub column_is_none : (column : ℕ) (after : Place) → number_at w8 p ≡ Ok (column, after) → (column ≡ 0) ⊎ (8 < column) → total ≡ Err (BadChange p.at)
  unfolding some_columns_at
  column_is_none column after is out = column_faults (BadChange p.at) (rw (is, outside_eight column out) refl)

  pub column_falls : (column : ℕ) (after : Place) → number_at w8 p ≡ Ok (column, after) → 0 < column → column ≤ 8 → column ≤ last → total ≡ Err (NotCanonical p.at)
  unfolding some_columns_at
  column_falls column after is some most falls =
      column_faults (NotCanonical p.at) (rw (is, fits_eight column some most, le-leb column last falls) refl)

  pub value_ends : (fault : WsFault) (column : ℕ) (after : Place) → number_at w8 p ≡ Ok (column, after) → last < column → column ≤ 8
      → Fails fault (number_at w64 after) → Fails fault total
  unfolding some_columns_at
  value_ends fault column after is above most fails =
      fails_along fault (number_at w64 after) total (λ value_is.
      column_faults fault (rw (is, fits_eight column (omega arith) most, lt-leb column last above, value_is) refl)) fails

pub column_goes_on : (cells : List (Option ℕ)) (count i last : ℕ) (p : Place) (column : ℕ) (q : Place) (value : ℕ) (after : Place) (total : Read (List (Option ℕ)))
    → i < count → AreUpTo last cells → number_at w8 p ≡ Ok (column, q) → last < column → column ≤ 8 → number_at w64 q ≡ Ok (value, after)
    → with_front (take last cells) (some_columns_at (count - i) last p) ≡ total
    → with_front (take column (set cells (column - 1) (Some value))) (some_columns_at (count - (i + 1)) column after) ≡ total
unfolding some_columns_at
column_goes_on cells count i last p column q value after total below kept is above most value_is so_far =
    let more : count - i ≡ suc (count - (i + 1)) = omega arith in
    let gap = replicate (column - (last + 1)) None in
    let one : with_front (take last cells) (some_columns_at (count - i) last p)
    ≡ with_front (take last cells ++ (gap ++ Some value ∷ [])) (some_columns_at (count - (i + 1)) column after) =
    rw (more, is, fits_eight column (omega arith) most, lt-leb column last above, value_is)
    (regroup_columns (take last cells) gap value (some_columns_at (count - (i + 1)) column after)) in
    rw (more_cells last column value cells kept above most) (sym one ∙ so_far)

pub columns_done : (cells : List (Option ℕ)) (count i last : ℕ) (p : Place) (total : Read (List (Option ℕ)))
    → count ≤ i → AreUpTo last cells → with_front (take last cells) (some_columns_at (count - i) last p) ≡ total → total ≡ Ok (cells, p)
unfolding some_columns_at
columns_done cells count i last p total all kept so_far =
    let more : count - i ≡ 0 = omega arith in
    let one : with_front (take last cells) (some_columns_at (count - i) last p) ≡ Ok (cells, p) =
    rw more (ap (λ xs. Ok (xs, p)) (ap (λ rest. take last cells ++ rest) (sym kept.empty) ∙ take-append-drop last cells)) in
    sym so_far ∙ one

one_more : (old : Option Kind) (n : ℕ) → cond (is_some old) n (n + 1) ≤ n + 1
one_more None n = omega arith
one_more (Some kind) n = omega arith

pub key_grows : (keys : Keys) (parts : Parts) (kind : Kind) (i : ℕ) → len keys ≤ i → len (with_key keys parts kind) ≤ i + 1
key_grows keys parts kind i few =
    let grown = one_more (get keys parts) (len keys) in rw (len-with_key keys parts kind) (omega arith)
