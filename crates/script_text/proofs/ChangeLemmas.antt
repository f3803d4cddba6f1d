-- The columns set so far, and those that the words that are left name.
use Rattle.std.proofs.Common.{◌≡◌, ◌≢◌, ℕ, ◌+◌, ◌-◌, ◌<◌, ◌≤◌, Bool, true, false, cond, List, [], ◌∷◌, length, get_or, refl, sym, ap, ◌∙◌, arith}
use Rattle.std.specs.Prelude.{Option, Some, None, option_and_then, slice_set, replicate, nat_le, nat_lt, ◌==◌, ◌&&◌, if◌then◌else◌}
use Rattle.std.proofs.lemmas.Bool.Decides.{nat_tests}
use Rattle.std.proofs.lemmas.Grind.{get_or-set_at}
use Rattle.std.proofs.lemmas.List.{ext_get_or, get_or-set_other, get_or-replicate, length-set}
use borrow.Author.Tests.{ltb-true, eqb-true}
use Rattle.std.proofs.lemmas.List.FromFn.{get_or-map-range_with_len}
use Rattle.script_text.specs.Fields.{pair_of, pairs_of, rises, are_columns, value_at, columns_of, change_of}

both : (a b : Bool) → a && b ≡ true → (a ≡ true) × (b ≡ true)
both true true e = (refl, refl)
both true false e = absurd cc
both false b e = absurd cc

-- sets the columns one by one, each above the last one
abbrev set_columns : List (Option ℕ) → ℕ → List (ℕ × ℕ) → Option (List (Option ℕ))
set_columns change last [] = if last == 0 then None else Some change
set_columns change last (pair ∷ pairs) =
    if nat_lt last pair.0 && nat_le pair.0 8 then set_columns (slice_set change (pair.0 - 1) (Some pair.1)) pair.0 pairs
    else None

-- sets them whatever they are
abbrev merged : List (Option ℕ) → List (ℕ × ℕ) → List (Option ℕ)
merged change [] = change
merged change (pair ∷ pairs) = merged (slice_set change (pair.0 - 1) (Some pair.1)) pairs

length-merged : (change : List (Option ℕ)) (pairs : List (ℕ × ℕ)) → length (merged change pairs) ≡ length change
length-merged change [] = refl
length-merged change (pair ∷ pairs) =
    length-merged (slice_set change (pair.0 - 1) (Some pair.1)) pairs ∙ length-set change (pair.0 - 1) (Some pair.1)

-- the column is above the last one, and there is such a column
abbrev fits : ℕ → ℕ × ℕ → Bool
fits last pair = nat_lt last pair.0 && nat_le pair.0 8

-- columns that do not rise are refused
falls : (change : List (Option ℕ)) (last : ℕ) (pairs : List (ℕ × ℕ)) → rises last pairs ≡ false → set_columns change last pairs ≡ None
falls change last [] e = absurd cc
falls change last (pair ∷ pairs) e =
    by_case (λ h. falls (slice_set change (pair.0 - 1) (Some pair.1)) pair.0 pairs h) (fits last pair) refl
  where
    by_case : (rises pair.0 pairs ≡ false → set_columns (slice_set change (pair.0 - 1) (Some pair.1)) pair.0 pairs ≡ None)
        → (c : Bool) → fits last pair ≡ c → set_columns change last (pair ∷ pairs) ≡ None
    by_case later true h =
        ap (λ c. cond c (set_columns (slice_set change (pair.0 - 1) (Some pair.1)) pair.0 pairs) None) h
        ∙ later (sym (ap (λ c. c && rises pair.0 pairs) h) ∙ e)
    by_case later false h = ap (λ c. cond c (set_columns (slice_set change (pair.0 - 1) (Some pair.1)) pair.0 pairs) None) h

sets : (change : List (Option ℕ)) (last : ℕ) (pairs : List (ℕ × ℕ)) → rises last pairs ≡ true → 0 < last
    → set_columns change last pairs ≡ Some (merged change pairs)
sets change last [] e some = let n : (last == 0) ≡ false = grind (arith, nat_tests) in ap (λ c. cond c None (Some change)) n
sets change last (pair ∷ pairs) e some =
    let a = both (fits last pair) (rises pair.0 pairs) e in
    let b = both (nat_lt last pair.0) (nat_le pair.0 8) a.0 in
    let above = ltb-true last pair.0 b.0 in
    ap (λ c. cond c (set_columns (slice_set change (pair.0 - 1) (Some pair.1)) pair.0 pairs) None) a.0
    ∙ sets (slice_set change (pair.0 - 1) (Some pair.1)) pair.0 pairs a.1 (omega arith)

-- columns that rise are all set
sets_some : (change : List (Option ℕ)) (pair : ℕ × ℕ) (pairs : List (ℕ × ℕ)) → rises 0 (pair ∷ pairs) ≡ true
    → set_columns change 0 (pair ∷ pairs) ≡ Some (merged change (pair ∷ pairs))
sets_some change pair pairs e =
    let a = both (fits 0 pair) (rises pair.0 pairs) e in
    let b = both (nat_lt 0 pair.0) (nat_le pair.0 8) a.0 in
    ap (λ c. cond c (set_columns (slice_set change (pair.0 - 1) (Some pair.1)) pair.0 pairs) None) a.0
    ∙ sets (slice_set change (pair.0 - 1) (Some pair.1)) pair.0 pairs a.1 (ltb-true 0 pair.0 b.0)

not_below : (last : ℕ) (pairs : List (ℕ × ℕ)) (column : ℕ) → rises last pairs ≡ true → column ≤ last → value_at column pairs ≡ None
not_below last [] column e l = refl
not_below last (pair ∷ pairs) column e l =
    let a = both (fits last pair) (rises pair.0 pairs) e in
    let b = both (nat_lt last pair.0) (nat_le pair.0 8) a.0 in
    let above = ltb-true last pair.0 b.0 in
    let other : (pair.0 == column) ≡ false = grind (arith, nat_tests) in
    ap (λ c. cond c (Some pair.1) (value_at column pairs)) other ∙ not_below pair.0 pairs column a.1 (omega arith)

-- a cell, set anew or as it was
abbrev cell : Option ℕ → Option ℕ → Option ℕ
cell None old = old
cell (Some value) old = Some value

cell-none : (o : Option ℕ) → cell o None ≡ o
cell-none None = refl
cell-none (Some value) = refl

merged_at : (change : List (Option ℕ)) (last : ℕ) (pairs : List (ℕ × ℕ)) → rises last pairs ≡ true → length change ≡ 8
    → (i : ℕ) → i < 8 → get_or (merged change pairs) i None ≡ cell (value_at (1 + i) pairs) (get_or change i None)
merged_at change last [] e full i l = refl
merged_at change last (pair ∷ pairs) e full i l =
    let a = both (fits last pair) (rises pair.0 pairs) e in
    let b = both (nat_lt last pair.0) (nat_le pair.0 8) a.0 in
    merged_at (slice_set change (pair.0 - 1) (Some pair.1)) pair.0 pairs a.1 (length-set change (pair.0 - 1) (Some pair.1) ∙ full) i l
    ∙ at_pair a.1 (ltb-true last pair.0 b.0) (pair.0 == 1 + i) refl
  where
    at_pair : rises pair.0 pairs ≡ true → last < pair.0 → (c : Bool) → (pair.0 == 1 + i) ≡ c
        → cell (value_at (1 + i) pairs) (get_or (slice_set change (pair.0 - 1) (Some pair.1)) i None)
        ≡ cell (value_at (1 + i) (pair ∷ pairs)) (get_or change i None)
    at_pair rest above true h =
        let here : pair.0 ≡ 1 + i = eqb-true pair.0 (1 + i) h in
        ap (λ o. cell o (get_or (slice_set change (pair.0 - 1) (Some pair.1)) i None)) (not_below pair.0 pairs (1 + i) rest (omega arith))
        ∙ get_or-set_at change (pair.0 - 1) i (Some pair.1) None (omega arith) (omega arith)
        ∙ sym (ap (λ c. cell (cond c (Some pair.1) (value_at (1 + i) pairs)) (get_or change i None)) h)
    at_pair rest above false h =
        let other : i ≢ pair.0 - 1 = λ same. let h' = h in let gone : (pair.0 == 1 + i) ≡ true = grind (arith, nat_tests) in absurd cc in
        ap (cell (value_at (1 + i) pairs)) (get_or-set_other change (pair.0 - 1) i (Some pair.1) None other)
        ∙ sym (ap (λ c. cell (cond c (Some pair.1) (value_at (1 + i) pairs)) (get_or change i None)) h)

abbrev none_set : List (Option ℕ)
none_set = replicate 8 None

merged_is : (pairs : List (ℕ × ℕ)) → rises 0 pairs ≡ true → merged none_set pairs ≡ columns_of pairs
merged_is pairs e =
    ext_get_or None (merged none_set pairs) (columns_of pairs) (length-merged none_set pairs)
    (λ i l. let below : i < 8 = omega (arith, length-merged none_set pairs) in
    merged_at none_set 0 pairs e refl i below
    ∙ ap (cell (value_at (1 + i) pairs)) (get_or-replicate 8 i None None below)
    ∙ cell-none (value_at (1 + i) pairs)
    ∙ sym (get_or-map-range_with_len (λ column. value_at column pairs) 1 8 i (1 + i) None below refl))

-- one by one the columns are set as the definition says
all_set : (pairs : List (ℕ × ℕ)) → set_columns none_set 0 pairs ≡ (if are_columns pairs then Some (columns_of pairs) else None)
all_set [] = refl
all_set (pair ∷ pairs) = by_case (rises 0 (pair ∷ pairs)) refl
  where
    by_case : (c : Bool) → rises 0 (pair ∷ pairs) ≡ c
        → set_columns none_set 0 (pair ∷ pairs) ≡ (if are_columns (pair ∷ pairs) then Some (columns_of (pair ∷ pairs)) else None)
    by_case true e =
        sets_some none_set pair pairs e ∙ ap (λ l. Some l) (merged_is (pair ∷ pairs) e)
        ∙ sym (ap (λ c. cond c (Some (columns_of (pair ∷ pairs))) None) e)
    by_case false e =
        falls none_set 0 (pair ∷ pairs) e ∙ sym (ap (λ c. cond c (Some (columns_of (pair ∷ pairs))) None) e)

same_then : {A B : Type 0} (f g : A → Option B) → ((x : A) → f x ≡ g x) → (o : Option A) → option_and_then f o ≡ option_and_then g o
same_then f g same None = refl
same_then f g same (Some x) = same x

-- What the words say from here on is what all of them say.
pub record IsSetTo (change : List (Option ℕ)) (last : ℕ) (words all : List (List ℕ)) : Type 0 where
  pub same : option_and_then (set_columns change last) (pairs_of words) ≡ change_of all

pub none_is_set : (all : List (List ℕ)) → IsSetTo none_set 0 all all
unfolding change_of
none_is_set all = record { same = same_then (set_columns none_set 0) _ all_set (pairs_of all) }

pub pair_fails : (change : List (Option ℕ)) (last : ℕ) (word : List ℕ) (words rest all : List (List ℕ)) → IsSetTo change last words all
    → words ≡ word ∷ rest → None ≡ pair_of word → None ≡ change_of all
unfolding pairs_of
pair_fails change last word words rest all set first fails =
    let here : pairs_of words ≡ None = rw (first, ← fails) refl in
    ap (option_and_then (set_columns change last)) (sym here) ∙ set.same

-- the words behind a word that names a column
one_more : (pair : ℕ × ℕ) (word : List ℕ) (words rest : List (List ℕ)) → words ≡ word ∷ rest → Some pair ≡ pair_of word
    → pairs_of words ≡ option_and_then (λ pairs. Some (pair ∷ pairs)) (pairs_of rest)
unfolding pairs_of
one_more pair word words rest first is = rw (first, ← is) refl

more_set : (change : List (Option ℕ)) (last : ℕ) (pair : ℕ × ℕ) (more : Option (List (ℕ × ℕ))) → fits last pair ≡ true
    → option_and_then (set_columns (slice_set change (pair.0 - 1) (Some pair.1)) pair.0) more
    ≡ option_and_then (set_columns change last) (option_and_then (λ pairs. Some (pair ∷ pairs)) more)
more_set change last pair None e = refl
more_set change last pair (Some pairs) e =
    sym (ap (λ c. cond c (set_columns (slice_set change (pair.0 - 1) (Some pair.1)) pair.0 pairs) None) e)

none_more : (change : List (Option ℕ)) (last : ℕ) (pair : ℕ × ℕ) (more : Option (List (ℕ × ℕ))) → fits last pair ≡ false
    → None ≡ option_and_then (set_columns change last) (option_and_then (λ pairs. Some (pair ∷ pairs)) more)
none_more change last pair None e = refl
none_more change last pair (Some pairs) e =
    sym (ap (λ c. cond c (set_columns (slice_set change (pair.0 - 1) (Some pair.1)) pair.0 pairs) None) e)

pub column_set : (change : List (Option ℕ)) (last column value : ℕ) (word : List ℕ) (words rest all : List (List ℕ))
    → IsSetTo change last words all → words ≡ word ∷ rest → Some (column, value) ≡ pair_of word → last < column → column ≤ 8
    → IsSetTo (slice_set change (column - 1) (Some value)) column rest all
column_set change last column value word words rest all set first is above most =
    let fit : fits last (column, value) ≡ true = grind (arith, nat_tests) in
    record {
      same =
          more_set change last (column, value) (pairs_of rest) fit
          ∙ ap (option_and_then (set_columns change last)) (sym (one_more (column, value) word words rest first is)) ∙ set.same;
    }

pub column_refused : (change : List (Option ℕ)) (last column value : ℕ) (word : List ℕ) (words rest all : List (List ℕ))
    → IsSetTo change last words all → words ≡ word ∷ rest → Some (column, value) ≡ pair_of word
    → fits last (column, value) ≡ false → None ≡ change_of all
column_refused change last column value word words rest all set first is fails =
    none_more change last (column, value) (pairs_of rest) fails
    ∙ ap (option_and_then (set_columns change last)) (sym (one_more (column, value) word words rest first is)) ∙ set.same

pub all_columns : (change : List (Option ℕ)) (last : ℕ) (words all : List (List ℕ)) → IsSetTo change last words all → words ≡ []
    → (if last == 0 then None else Some change) ≡ change_of all
unfolding pairs_of
all_columns change last words all set none =
    let here : pairs_of words ≡ Some [] = rw none refl in
    ap (option_and_then (set_columns change last)) (sym here) ∙ set.same
