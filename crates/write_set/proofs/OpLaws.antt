-- Changes: what is read is a change in its form, and such a change is read again.
use Rattle.std.proofs.Common.{◌≡◌, ℕ, zero, suc, ◌+◌, ◌-◌, ◌^◌, ◌<◌, ◌≤◌, Bool, true, false, cond, List, [], ◌∷◌, ◌++◌, length, replicate, Option, Some, None, Ok, refl, sym, ap, subst, ◌∙◌, append_assoc, arith}
use Rattle.std.specs.Prelude.{◌==◌, ◌||◌, not, nat_lt, nat_le}
use Rattle.std.specs.Int.{w8, w64, to_be_bytes}
use Rattle.std.specs.List.{flat_map, AllByRecursion}
use Rattle.std.proofs.lemmas.Bool.{leb-false, lt-leb, eqb-true}
use Rattle.std.proofs.lemmas.Bool.Decides.{nat_tests}
use Rattle.std.proofs.lemmas.List.{append-nil, length-append, length-replicate}
use Rattle.row_model.specs.declared.row.RowId.{RowId}
use Rattle.row_model.specs.declared.ops.Op.{Op}
use Rattle.row_model.specs.declared.ops.Op.TheVariants.{Insert, Update, Delete}
use Rattle.write_set.specs.declared.fault.WsFault.TheVariants.{Short}
use Rattle.write_set.specs.declared.names.NameRole.TheVariants as role
use Rattle.write_set.specs.Names.{is_name, is_table_letter, is_row_letter}
use Rattle.write_set.specs.Rules.{place_fits, op_fits, place_in_range, IsCell, OpInRange}
use Rattle.write_set.specs.Spelling.{name_text, place_text, values_text, row_values_text, named, columns_text, change_text, op_text}
use Rattle.write_set.specs.Place.{Place}
use Rattle.write_set.specs.Reading.{◌>>=◌, Read, number_at, many_at, place_at, count_at, values_at, some_columns_at, columns_at, op_at}
use Rattle.write_set.proofs.RulesOf.{both, and}
use Rattle.write_set.proofs.Bounds.{is_no, positive, some_is, within, is_within}
use Rattle.wsrep_base.proofs.Fields.{IsBytes, read_ok, passed, ok_is, place, Took, took_none, took_then, number_takes, number_again, wide64, byte_takes, byte_again}
use Rattle.write_set.proofs.NameLaws.{name_takes, name_again}

-- ---- the place of a row

abbrev pub TakesPlace : Place → RowId × Place → Type 0
TakesPlace p x = Took p (place_text x.0) x.1 × (place_fits x.0 ≡ true) × place_in_range x.0

place_takes : (p : Place) (x : RowId × Place) → IsBytes p.left → place_at p ≡ Ok x → TakesPlace p x
unfolding place_at
place_takes p x fits e =
    let a = read_ok (List ℕ) _ _ x e in
    let b = read_ok (List ℕ) _ _ x a.2 in
    let ta = name_takes role.ChangeTable p a.0 fits a.1 in
    let tb = name_takes role.ChangeRow a.0.1 b.0 ta.0.fits b.1 in
    let id : RowId = record { table = a.0.0; row = b.0.0 } in
    subst (TakesPlace p) (ok_is (id, b.0.1) x b.2)
    (took_then p (name_text a.0.0) a.0.1 (name_text b.0.0) b.0.1 ta.0 tb.0, and _ _ ta.2 tb.2, (ta.1, tb.1))

place_again : (id : RowId) (rest : List ℕ) (at : ℕ) → place_fits id ≡ true → place_in_range id
    → (q : ℕ) × (place_at (place (place_text id ++ rest) at) ≡ Ok (id, place rest q))
unfolding place_at
place_again id rest at fit range =
    let f = both (is_name is_table_letter id.table) (is_name is_row_letter id.row) fit in
    let t = name_again role.ChangeTable id.table (name_text id.row ++ rest) at range.0 f.0 in
    let r = name_again role.ChangeRow id.row rest t.0 range.1 f.1 in
    let is : place_at (place (name_text id.table ++ (name_text id.row ++ rest)) at) ≡ Ok (id, place rest r.0) = rw (t.1, r.1) refl in
    (r.0, ap (λ text. place_at (place text at)) (append_assoc (name_text id.table) (name_text id.row) rest) ∙ is)

-- ---- a count from 1 to 8

count_takes : (p : Place) (x : ℕ × Place) → IsBytes p.left → count_at p ≡ Ok x → Took p (x.0 ∷ []) x.1 × (0 < x.0) × (x.0 ≤ 8)
unfolding count_at
count_takes p x fits e =
    let a = read_ok ℕ _ _ x e in
    let b = passed _ _ _ x a.2 in
    let t = byte_takes Short p a.0 fits a.1 in
    let few = within 8 a.0.0 b.0 in
    subst (λ (y : ℕ × Place). Took p (y.0 ∷ []) y.1 × (0 < y.0) × (y.0 ≤ 8)) (ok_is a.0 x b.1) (t, few.0, few.1)

count_again : (n : ℕ) (rest : List ℕ) (at : ℕ) → 0 < n → n ≤ 8 → count_at (place (n ∷ rest) at) ≡ Ok (n, place rest (at + 1))
unfolding count_at
count_again n rest at some most = rw (byte_again Short n rest at, is_within 8 n some most) refl

-- ---- several values, one behind the other

pub record Field {A : Type 0} (text : A → List ℕ) (Fits : A → Type 0) (one_at : Place → Read A) : Type 0 where
  pub takes : (p : Place) (x : A × Place) → IsBytes p.left → one_at p ≡ Ok x → Took p (text x.0) x.1 × Fits x.0
  pub again : (x : A) (rest : List ℕ) (at : ℕ) → Fits x → (q : ℕ) × (one_at (place (text x ++ rest) at) ≡ Ok (x, place rest q))

module _ {A : Type 0} (text : A → List ℕ) (Fits : A → Type 0) (one_at : Place → Read A) (field : Field text Fits one_at) where
  abbrev pub TakesMany : ℕ → Place → List A × Place → Type 0
  TakesMany n p x = Took p (flat_map text x.0) x.1 × (length x.0 ≡ n) × AllByRecursion Fits x.0

  pub many_take : (n : ℕ) (p : Place) (x : List A × Place) → IsBytes p.left → many_at one_at n p ≡ Ok x → TakesMany n p x
  unfolding many_at
  many_take zero p x fits e = subst (TakesMany zero p) (ok_is ([], p) x e) (took_none p fits, refl, tt)
  many_take (suc n) p x fits e =
      let a = read_ok A _ _ x e in
      let b = read_ok (List A) _ _ x a.2 in
      let t = field.takes p a.0 fits a.1 in
      let rec = many_take n a.0.1 b.0 t.0.fits b.1 in
      subst (TakesMany (suc n) p) (ok_is (a.0.0 ∷ b.0.0, b.0.1) x b.2)
      (took_then p (text a.0.0) a.0.1 (flat_map text b.0.0) b.0.1 t.0 rec.0, ap suc rec.1, (t.1, rec.2))

  pub many_again : (xs : List A) (rest : List ℕ) (at : ℕ) → AllByRecursion Fits xs
      → (q : ℕ) × (many_at one_at (length xs) (place (flat_map text xs ++ rest) at) ≡ Ok (xs, place rest q))
  unfolding many_at
  many_again [] rest at fit = (at, refl)
  many_again (x ∷ xs) rest at fit =
      let others = flat_map text xs in
      let k = field.again x (others ++ rest) at fit.0 in
      let r = many_again xs rest k.0 fit.1 in
      let is : many_at one_at (suc (length xs)) (place (text x ++ (others ++ rest)) at) ≡ Ok (x ∷ xs, place rest r.0) = rw (k.1, r.1) refl in
      (r.0, ap (λ text. many_at one_at (suc (length xs)) (place text at)) (append_assoc (text x) others rest) ∙ is)

-- ---- values

abbrev pub IsValue : ℕ → Type 0
IsValue value = value < 2 ^ 64

value_field : Field (to_be_bytes w64) IsValue (number_at w64)
value_field = record {
  takes = λ p x fits e. number_takes Short w64 (2 ^ 64) wide64 p x fits e;
  again = λ n rest at below. (at + 8, number_again Short w64 (2 ^ 64) wide64 n rest at below);
}

abbrev pub AreValues : List ℕ → Type 0
AreValues values = (1 ≤ length values) × (length values ≤ 8) × AllByRecursion IsValue values

abbrev pub TakesValues : Place → List ℕ × Place → Type 0
TakesValues p x = Took p (row_values_text x.0) x.1 × AreValues x.0

pub values_take : (p : Place) (x : List ℕ × Place) → IsBytes p.left → values_at p ≡ Ok x → TakesValues p x
unfolding values_at
values_take p x fits e =
    let a = read_ok ℕ _ _ x e in
    let c = count_takes p a.0 fits a.1 in
    let v = many_take (to_be_bytes w64) IsValue (number_at w64) value_field a.0.0 a.0.1 x c.0.fits a.2 in
    let taken : Took p (a.0.0 ∷ values_text x.0) x.1 = took_then p (a.0.0 ∷ []) a.0.1 (values_text x.0) x.1 c.0 v.0 in
    (subst (λ n. Took p (n ∷ values_text x.0) x.1) (sym v.1) taken, (omega arith, omega arith, v.2))

pub values_again : (values rest : List ℕ) (at : ℕ) → AreValues values
    → (q : ℕ) × (values_at (place (row_values_text values ++ rest) at) ≡ Ok (values, place rest q))
unfolding values_at
values_again values rest at are =
    let v = many_again (to_be_bytes w64) IsValue (number_at w64) value_field values rest (at + 1) are.2 in
    (v.0, rw (count_again (length values) (values_text values ++ rest) at are.0 are.1, v.1) refl)

-- ---- columns

abbrev pub Cells : Type 0
Cells = List (Option ℕ)

named_none : (k column : ℕ) (cells : Cells) → named (replicate k None ++ cells) ≡ named cells
named_none zero column cells = refl
named_none (suc k) column cells = named_none k column cells

text_none : (k column : ℕ) (cells : Cells) → columns_text column (replicate k None ++ cells) ≡ columns_text (column + k) cells
text_none zero column cells = ap (λ n. columns_text n cells) (omega arith)
text_none (suc k) column cells = text_none k (column + 1) cells ∙ ap (λ n. columns_text n cells) (omega arith)

cells_none : (k : ℕ) (cells : Cells) → AllByRecursion IsCell cells → AllByRecursion IsCell (replicate k None ++ cells)
cells_none zero cells are = are
cells_none (suc k) cells are = (tt, cells_none k cells are)

-- the columns above `last`, of which n are named
pub record AreColumns (n last : ℕ) (cells : Cells) : Type 0 where
  pub names : named cells ≡ n
  pub long : length cells ≡ 8 - last
  pub are : AllByRecursion IsCell cells

abbrev TakesColumns : ℕ → ℕ → Place → Cells × Place → Type 0
TakesColumns n last p x = Took p (columns_text (last + 1) x.0) x.1 × AreColumns n last x.0

none_named : (k : ℕ) → named (replicate k None) ≡ 0
none_named zero = refl
none_named (suc k) = none_named k

none_text : (k column : ℕ) → columns_text column (replicate k None) ≡ []
none_text zero column = refl
none_text (suc k) column = none_text k (column + 1)

none_cells : (k : ℕ) → AllByRecursion IsCell (replicate k None)
none_cells zero = tt
none_cells (suc k) = (tt, none_cells k)

some_columns_take : (n last : ℕ) (p : Place) (x : Cells × Place) → last ≤ 8 → IsBytes p.left → some_columns_at n last p ≡ Ok x → TakesColumns n last p x
unfolding some_columns_at
some_columns_take zero last p x most fits e =
    let none : Cells = replicate (8 - last) None in
    subst (TakesColumns zero last p) (ok_is (none, p) x e) (
      subst (λ text. Took p text p) (sym (none_text (8 - last) (last + 1))) (took_none p fits),
      record { names = none_named (8 - last); long = length-replicate (8 - last) None; are = none_cells (8 - last) },
    )
some_columns_take (suc n) last p x most fits e =
    let a = read_ok ℕ _ _ x e in
    let b = passed _ _ _ x a.2 in
    let c = passed _ _ _ x b.1 in
    let d = read_ok ℕ _ _ x c.1 in
    let r = read_ok Cells _ _ x d.2 in
    let column = a.0.0 in
    let value = d.0.0 in
    let gap = column - (last + 1) in
    let few = within 8 column b.0 in
    let above : last < column = leb-false column last c.0 in
    let ta = byte_takes Short p a.0 fits a.1 in
    let td = number_takes Short w64 (2 ^ 64) wide64 a.0.1 d.0 ta.fits d.1 in
    let rec = some_columns_take n column d.0.1 r.0 few.1 td.0.fits r.1 in
    let here : Cells = Some value ∷ r.0.0 in
    let text : columns_text (last + 1) (replicate gap None ++ here) ≡ column ∷ (to_be_bytes w64 value ++ columns_text (column + 1) r.0.0) =
    text_none gap (last + 1) here ∙ ap (λ n. columns_text n here) (omega arith) in
    let taken : Took p (column ∷ (to_be_bytes w64 value ++ columns_text (column + 1) r.0.0)) r.0.1 =
    took_then p (column ∷ []) a.0.1 (to_be_bytes w64 value ++ columns_text (column + 1) r.0.0) r.0.1 ta
    (took_then a.0.1 (to_be_bytes w64 value) d.0.1 (columns_text (column + 1) r.0.0) r.0.1 td.0 rec.0) in
    let lens = length-append (replicate gap None) here in
    let gaps : length {A = Option ℕ} (replicate gap None) ≡ gap = length-replicate gap None in
    let rest = rec.1.long in
    subst (TakesColumns (suc n) last p) (ok_is (replicate gap None ++ here, r.0.1) x r.2) (
      subst (λ text. Took p text r.0.1) (sym text) taken,
      record {
        names = named_none gap (last + 1) here ∙ ap (λ n. 1 + n) rec.1.names ∙ omega arith;
        long = omega arith;
        are = cells_none gap here (td.1, rec.1.are);
      },
    )

next_column : (n last : ℕ) (p : Place) (a d : ℕ × Place) (r : Cells × Place) → number_at w8 p ≡ Ok a → (a.0 == 0 || nat_lt 8 a.0) ≡ false
    → nat_le a.0 last ≡ false → number_at w64 a.1 ≡ Ok d → some_columns_at n a.0 d.1 ≡ Ok r
    → some_columns_at (suc n) last p ≡ Ok (replicate (a.0 - (last + 1)) None ++ Some d.0 ∷ r.0, r.1)
unfolding some_columns_at
next_column n last p a d r column_is fits rises value_is others_are = rw (column_is, fits, rises, value_is, others_are) refl

-- a column that is not named
skipped : (n last next : ℕ) (p : Place) (x : Cells × Place) → next ≡ last + 1 → last < 8 → some_columns_at n next p ≡ Ok x
    → some_columns_at n last p ≡ Ok (None ∷ x.0, x.1)
unfolding some_columns_at
skipped zero last next p x up below e =
    let more : 8 - last ≡ suc (8 - next) = omega arith in
    ap (λ k. Ok (replicate k None, p)) more ∙ ap (λ (y : Cells × Place). Ok (None ∷ y.0, y.1)) (ok_is (replicate (8 - next) None, p) x e)
skipped (suc n) last next p x up below e =
    let a = read_ok ℕ _ _ x e in
    let column_is : number_at w8 p ≡ Ok a.0 = a.1 in
    let column = a.0.0 in
    let b = passed _ _ _ x a.2 in
    let fits : (column == 0 || nat_lt 8 column) ≡ false = b.0 in
    let c = passed _ _ _ x b.1 in
    let above : next < column = leb-false column next c.0 in
    let d = read_ok ℕ _ _ x c.1 in
    let value_is : number_at w64 a.0.1 ≡ Ok d.0 = d.1 in
    let r = read_ok Cells _ _ x d.2 in
    let others_are : some_columns_at n column d.0.1 ≡ Ok r.0 = r.1 in
    let rises : nat_le column last ≡ false = lt-leb column last (omega arith) in
    let more : column - (last + 1) ≡ suc (column - (next + 1)) = omega arith in
    let here : Cells = Some d.0.0 ∷ r.0.0 in
    next_column n last p a.0 d.0 r.0 column_is fits rises value_is others_are ∙ ap (λ k. Ok (replicate k None ++ here, r.0.1)) more
    ∙ ap (λ (y : Cells × Place). Ok (None ∷ y.0, y.1)) (ok_is (replicate (column - (next + 1)) None ++ here, r.0.1) x r.2)

some_columns_again : (cells : Cells) (last : ℕ) (rest : List ℕ) (at : ℕ) → last + length cells ≡ 8 → AllByRecursion IsCell cells
    → (q : ℕ) × (some_columns_at (named cells) last (place (columns_text (last + 1) cells ++ rest) at) ≡ Ok (cells, place rest q))
unfolding some_columns_at
some_columns_again [] last rest at long are =
    let none : 8 - last ≡ 0 = omega arith in (at, ap (λ k. Ok (replicate k None, place rest at)) none)
some_columns_again (None ∷ cells) last rest at long are =
    let r = some_columns_again cells (last + 1) rest at (omega arith) are.1 in
    (r.0, skipped (named cells) last (last + 1) (place (columns_text (last + 1 + 1) cells ++ rest) at) (cells, place rest r.0) refl (omega arith) r.1)
some_columns_again (Some value ∷ cells) last rest at long are =
    let others = columns_text (last + 1 + 1) cells in
    let v = number_again Short w64 (2 ^ 64) wide64 value (others ++ rest) (at + 1) are.0 in
    let r = some_columns_again cells (last + 1) rest (at + 1 + 8) (omega arith) are.1 in
    let fits : (last + 1 == 0 || nat_lt 8 (last + 1)) ≡ false = is_within 8 (last + 1) (omega arith) (omega arith) in
    let rises : nat_le (last + 1) last ≡ false = lt-leb (last + 1) last (omega arith) in
    let none : (last + 1) - (last + 1) ≡ 0 = omega arith in
    let count : 1 + named cells ≡ suc (named cells) = omega arith in
    let start = place ((last + 1) ∷ (to_be_bytes w64 value ++ (others ++ rest))) at in
    let is : some_columns_at (suc (named cells)) last start ≡ Ok (Some value ∷ cells, place rest r.0) =
    rw (byte_again Short (last + 1) (to_be_bytes w64 value ++ (others ++ rest)) at, fits, rises, v, r.1, none) refl in (
      r.0,
      ap (λ n. some_columns_at n last (place ((last + 1) ∷ (to_be_bytes w64 value ++ others) ++ rest) at)) count
          ∙ ap (λ text. some_columns_at (suc (named cells)) last (place ((last + 1) ∷ text) at)) (append_assoc (to_be_bytes w64 value) others rest) ∙ is,
    )

abbrev pub IsChange : Cells → Type 0
IsChange change = (length change ≡ 8) × AllByRecursion IsCell change

abbrev TakesChange : Place → Cells × Place → Type 0
TakesChange p x = Took p (change_text x.0) x.1 × (not (named x.0 == 0) ≡ true) × IsChange x.0

columns_take : (p : Place) (x : Cells × Place) → IsBytes p.left → columns_at p ≡ Ok x → TakesChange p x
unfolding columns_at
columns_take p x fits e =
    let a = read_ok ℕ _ _ x e in
    let c = count_takes p a.0 fits a.1 in
    let v = some_columns_take a.0.0 0 a.0.1 x (omega arith) c.0.fits a.2 in
    let names = v.1.names in
    let taken : Took p (a.0.0 ∷ columns_text 1 x.0) x.1 = took_then p (a.0.0 ∷ []) a.0.1 (columns_text 1 x.0) x.1 c.0 v.0 in (
      subst (λ n. Took p (n ∷ columns_text 1 x.0) x.1) (sym names) taken,
      ap not (some_is (named x.0) (omega arith)),
      (v.1.long, v.1.are),
    )

named_within : (cells : Cells) → named cells ≤ length cells
named_within [] = omega arith
named_within (None ∷ cells) = let most = named_within cells in omega arith
named_within (Some value ∷ cells) = let most = named_within cells in omega arith

pub columns_again : (change : Cells) (rest : List ℕ) (at : ℕ) → 0 < named change → IsChange change
    → (q : ℕ) × (columns_at (place (change_text change ++ rest) at) ≡ Ok (change, place rest q))
unfolding columns_at
columns_again change rest at some is =
    let most = named_within change in
    let long = is.0 in
    let v = some_columns_again change 0 rest (at + 1) (omega arith) is.1 in
    (v.0, rw (count_again (named change) (columns_text 1 change ++ rest) at some (omega arith), v.1) refl)

-- ---- one change

abbrev pub OpFits : Op → Type 0
OpFits op = (op_fits op ≡ true) × OpInRange op

-- what stands behind the place of a row makes the change
pub record TakesBody (tag : ℕ) (id : RowId) (p : Place) (op : Op) (q : Place) : Type 0 where
  pub text : List ℕ
  pub taken : Took p text q
  pub spelled : tag ∷ (place_text id ++ text) ≡ op_text op
  pub fits : place_fits id ≡ true → place_in_range id → OpFits op

pub third : (tag : ℕ) → (tag == 1) ≡ false → (tag == 2) ≡ false → 0 < tag → tag ≤ 3 → tag ≡ 3
third tag one two some most = grind (arith, nat_tests)

pub by_tag : (one two : Bool) (tag : ℕ) (id : RowId) (p : Place) (x : Op × Place) → IsBytes p.left → (tag == 1) ≡ one → (tag == 2) ≡ two → 0 < tag → tag ≤ 3
    → cond one (values_at p >>= λ values. Ok (Insert id values.0, values.1)) (cond two (columns_at p >>= λ change. Ok (Update id change.0, change.1)) (Ok (Delete id, p))) ≡ Ok x
    → TakesBody tag id p x.0 x.1
by_tag true two tag id p x fits one other some most e =
    let a = read_ok (List ℕ) _ _ x e in
    let v = values_take p a.0 fits a.1 in
    subst (λ (y : Op × Place). TakesBody tag id p y.0 y.1) (ok_is (Insert id a.0.0, a.0.1) x a.2)
    (record {
      text = row_values_text a.0.0;
      taken = v.0;
      spelled = ap (λ t. t ∷ (place_text id ++ row_values_text a.0.0)) (eqb-true tag 1 one);
      fits = λ fit range. (fit, (range, v.1.0, v.1.1, v.1.2));
    })
by_tag false true tag id p x fits one other some most e =
    let a = read_ok Cells _ _ x e in
    let v = columns_take p a.0 fits a.1 in
    subst (λ (y : Op × Place). TakesBody tag id p y.0 y.1) (ok_is (Update id a.0.0, a.0.1) x a.2)
    (record {
      text = change_text a.0.0;
      taken = v.0;
      spelled = ap (λ t. t ∷ (place_text id ++ change_text a.0.0)) (eqb-true tag 2 other);
      fits = λ fit range. (and (place_fits id) (not (named a.0.0 == 0)) fit v.1, (range, v.2.0, v.2.1));
    })
by_tag false false tag id p x fits one other some most e =
    subst (λ (y : Op × Place). TakesBody tag id p y.0 y.1) (ok_is (Delete id, p) x e)
    (record {
      text = [];
      taken = took_none p fits;
      spelled = λ i. third tag one other some most i ∷ append-nil (place_text id) i;
      fits = λ fit range. (fit, range);
    })

op_takes : (p : Place) (x : Op × Place) → IsBytes p.left → op_at p ≡ Ok x → Took p (op_text x.0) x.1 × OpFits x.0
unfolding op_at
op_takes p x fits e =
    let a = read_ok ℕ _ _ x e in
    let b = passed _ _ _ x a.2 in
    let c = read_ok RowId _ _ x b.1 in
    let tag = a.0.0 in
    let known = within 3 tag b.0 in
    let ta = byte_takes Short p a.0 fits a.1 in
    let tc = place_takes a.0.1 c.0 ta.fits c.1 in
    let body = by_tag (tag == 1) (tag == 2) tag c.0.0 c.0.1 x tc.0.fits refl refl known.0 known.1 c.2 in
    let taken : Took p (tag ∷ (place_text c.0.0 ++ body.text)) x.1 =
    took_then p (tag ∷ []) a.0.1 (place_text c.0.0 ++ body.text) x.1 ta (took_then a.0.1 (place_text c.0.0) c.0.1 body.text x.1 tc.0 body.taken) in
    (subst (λ text. Took p text x.1) body.spelled taken, body.fits tc.1 tc.2)

op_again : (op : Op) (rest : List ℕ) (at : ℕ) → OpFits op → (q : ℕ) × (op_at (place (op_text op ++ rest) at) ≡ Ok (op, place rest q))
unfolding op_at
op_again (Insert id values) rest at fits =
    let body = row_values_text values in
    let c = place_again id (body ++ rest) (at + 1) fits.0 fits.1.0 in
    let v = values_again values rest c.0 (fits.1.1, fits.1.2, fits.1.3) in
    let is : op_at (place (1 ∷ (place_text id ++ (body ++ rest))) at) ≡ Ok (Insert id values, place rest v.0) =
    rw (byte_again Short 1 (place_text id ++ (body ++ rest)) at, c.1, v.1) refl in
    (v.0, ap (λ text. op_at (place (1 ∷ text) at)) (append_assoc (place_text id) body rest) ∙ is)
op_again (Update id change) rest at fits =
    let body = change_text change in
    let f = both (place_fits id) (not (named change == 0)) fits.0 in
    let c = place_again id (body ++ rest) (at + 1) f.0 fits.1.0 in
    let v = columns_again change rest c.0 (positive (named change) (is_no (named change == 0) f.1)) (fits.1.1, fits.1.2) in
    let is : op_at (place (2 ∷ (place_text id ++ (body ++ rest))) at) ≡ Ok (Update id change, place rest v.0) =
    rw (byte_again Short 2 (place_text id ++ (body ++ rest)) at, c.1, v.1) refl in
    (v.0, ap (λ text. op_at (place (2 ∷ text) at)) (append_assoc (place_text id) body rest) ∙ is)
op_again (Delete id) rest at fits =
    let c = place_again id rest (at + 1) fits.0 fits.1 in
    (c.0, rw (byte_again Short 3 (place_text id ++ rest) at, c.1) refl)

pub op_field : Field op_text OpFits op_at
op_field = record { takes = op_takes; again = op_again }
