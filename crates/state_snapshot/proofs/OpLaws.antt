-- Changes that keys cover: what is read is covered, and covered changes are read again.
use Rattle.std.proofs.Common.{◌≡◌, ℕ, ◌+◌, ◌^◌, ◌≤◌, Bool, true, false, cond, List, [], ◌∷◌, ◌++◌, length, Option, Some, None, Ok, refl, sym, ap, subst, ◌∙◌, append_assoc, append-nil, arith}
use Rattle.std.specs.Prelude.{◌==◌, ◌||◌, not, nat_lt, nat_le}
use Rattle.std.specs.Int.{w32, to_be_bytes}
use Rattle.std.specs.List.{list_all, flat_map, AllByRecursion}
use Rattle.std.proofs.lemmas.Bool.{ltb-false, leb-true, le-leb, eqb-true}
use Rattle.key_sets.specs.Keys.{Keys}
use Rattle.row_model.specs.declared.row.RowId.{RowId}
use Rattle.row_model.specs.declared.ops.Op.{Op}
use Rattle.row_model.specs.declared.ops.Op.TheVariants.{Insert, Update, Delete}
use Rattle.row_model.specs.Rows.{id_of}
use Rattle.write_set.specs.declared.fault.WsFault.TheVariants.{Short}
use Rattle.write_set.specs.declared.names.NameRole.TheVariants as role
use Rattle.write_set.specs.declared.rules.TheConstants.{MOST_OPS}
use Rattle.write_set.specs.Laws.{AreOps}
use Rattle.write_set.specs.Names.{is_name, is_table_letter, is_row_letter}
use Rattle.write_set.specs.Rules.{place_fits, place_in_range, op_fits, OpsInRange, is_update, is_covered, uncovered_from}
use Rattle.write_set.specs.Spelling.{name_text, place_text, row_values_text, named, change_text, op_text, ops_text}
use Rattle.write_set.specs.Place.{Place}
use Rattle.write_set.specs.Reading.{◌>>=◌, name_at, values_at, columns_at, op_body_at}
use Rattle.write_set.proofs.Bounds.{is_not, is_no, positive, within, above}
use Rattle.write_set.proofs.RulesOf.{both, and}
use Rattle.write_set.proofs.NameLaws.{name_takes, name_again}
use Rattle.write_set.proofs.OpLaws.{Field, OpFits, Cells, by_tag, values_again, columns_again, many_take, many_again}
use Rattle.write_set.proofs.WholeLaws.{all_fit, each_fits}
use Rattle.wsrep_base.proofs.Fields.{IsBytes, read_ok, passed, ok_is, place, Took, took_then, number_takes, number_again, wide32, byte_takes, byte_again}
use Rattle.state_snapshot.specs.Reading.{covers, covered_op_at, covered_ops_at}

-- ---- one change

abbrev pub CoveredFits : Keys → Op → Type 0
CoveredFits keys op = OpFits op × (is_covered keys op ≡ true)

-- the change is of this row, and an update by its tag
abbrev IsOf : ℕ → RowId → Op → Type 0
IsOf tag id op = (id_of op ≡ id) × (is_update op ≡ (tag == 2))

body_is : (one two : Bool) (tag : ℕ) (id : RowId) (p : Place) (x : Op × Place) → (tag == 1) ≡ one → (tag == 2) ≡ two
    → cond one (values_at p >>= λ values. Ok (Insert id values.0, values.1)) (cond two (columns_at p >>= λ change. Ok (Update id change.0, change.1)) (Ok (Delete id, p))) ≡ Ok x
    → IsOf tag id x.0
body_is true two tag id p x one other e =
    let a = read_ok (List ℕ) (values_at p) (λ values. Ok (Insert id values.0, values.1)) x e in
    subst (λ (y : Op × Place). IsOf tag id y.0) (ok_is (Insert id a.0.0, a.0.1) x a.2)
    (refl, sym (ap (λ t. t == 2) (eqb-true tag 1 one)))
body_is false true tag id p x one other e =
    let a = read_ok Cells (columns_at p) (λ change. Ok (Update id change.0, change.1)) x e in
    subst (λ (y : Op × Place). IsOf tag id y.0) (ok_is (Update id a.0.0, a.0.1) x a.2) (refl, sym other)
body_is false false tag id p x one other e =
    subst (λ (y : Op × Place). IsOf tag id y.0) (ok_is (Delete id, p) x e) (refl, sym other)

covered_is : (keys : Keys) (tag : ℕ) (id : RowId) (op : Op) → IsOf tag id op → covers keys (tag == 2) id ≡ true → is_covered keys op ≡ true
covered_is keys tag id op is h =
    ap (λ (row : RowId). covers keys (is_update op) row) is.0 ∙ ap (λ update. covers keys update id) is.1 ∙ h

covered_op_takes : (keys : Keys) (p : Place) (x : Op × Place) → IsBytes p.left → covered_op_at keys p ≡ Ok x
    → Took p (op_text x.0) x.1 × CoveredFits keys x.0
unfolding covered_op_at
covered_op_takes keys p x fits e =
    let a = read_ok ℕ _ _ x e in
    let b = passed _ _ _ x a.2 in
    let t = read_ok (List ℕ) (name_at role.ChangeTable a.0.1) _ x b.1 in
    let r = read_ok (List ℕ) (name_at role.ChangeRow t.0.1) _ x t.2 in
    let tag = a.0.0 in
    let id : RowId = record { table = t.0.0; row = r.0.0 } in
    let c = passed (not (covers keys (tag == 2) id)) _ _ x r.2 in
    let known = within 3 tag b.0 in
    let ta = byte_takes Short p a.0 fits a.1 in
    let tt' = name_takes role.ChangeTable a.0.1 t.0 ta.fits t.1 in
    let tr = name_takes role.ChangeRow t.0.1 r.0 tt'.0.fits r.1 in
    let body = by_tag (tag == 1) (tag == 2) tag id r.0.1 x tr.0.fits refl refl known.0 known.1 c.1 in
    let is = body_is (tag == 1) (tag == 2) tag id r.0.1 x refl refl c.1 in
    let names : Took a.0.1 (place_text id) r.0.1 = took_then a.0.1 (name_text t.0.0) t.0.1 (name_text r.0.0) r.0.1 tt'.0 tr.0 in
    let taken : Took p (tag ∷ (place_text id ++ body.text)) x.1 =
    took_then p (tag ∷ []) a.0.1 (place_text id ++ body.text) x.1 ta (took_then a.0.1 (place_text id) r.0.1 body.text x.1 names body.taken) in (
      subst (λ text. Took p text x.1) body.spelled taken,
      (
        body.fits (and _ _ tt'.2 tr.2) (tt'.1, tr.1),
        covered_is keys tag id x.0 is (is_not (covers keys (tag == 2) id) c.0),
      ),
    )

tag_again : (keys : Keys) (tag : ℕ) (id : RowId) (op : Op) (body rest : List ℕ) (at : ℕ) → tag == 0 || nat_lt 3 tag ≡ false
    → place_fits id ≡ true → place_in_range id → covers keys (tag == 2) id ≡ true
    → ((at : ℕ) → (q : ℕ) × (op_body_at tag id (place (body ++ rest) at) ≡ Ok (op, place rest q)))
    → (q : ℕ) × (covered_op_at keys (place ((tag ∷ (place_text id ++ body)) ++ rest) at) ≡ Ok (op, place rest q))
unfolding covered_op_at
tag_again keys tag id op body rest at known fit range covered body_again =
    let f = both (is_name is_table_letter id.table) (is_name is_row_letter id.row) fit in
    let t = name_again role.ChangeTable id.table (name_text id.row ++ (body ++ rest)) (at + 1) range.0 f.0 in
    let r = name_again role.ChangeRow id.row (body ++ rest) t.0 range.1 f.1 in
    let b = body_again r.0 in
    let is : covered_op_at keys (place (tag ∷ (name_text id.table ++ (name_text id.row ++ (body ++ rest)))) at) ≡ Ok (op, place rest b.0) =
    rw (byte_again Short tag (name_text id.table ++ (name_text id.row ++ (body ++ rest))) at, known, t.1, r.1, covered, b.1) refl in (
      b.0,
      ap (λ left. covered_op_at keys (place (tag ∷ left) at))
          (append_assoc (place_text id) body rest ∙ append_assoc (name_text id.table) (name_text id.row) (body ++ rest)) ∙ is,
    )

covered_op_again : (keys : Keys) (op : Op) (rest : List ℕ) (at : ℕ) → CoveredFits keys op
    → (q : ℕ) × (covered_op_at keys (place (op_text op ++ rest) at) ≡ Ok (op, place rest q))
covered_op_again keys (Insert id values) rest at fits =
    tag_again keys 1 id (Insert id values) (row_values_text values) rest at refl fits.0.0 fits.0.1.0 fits.1
    (λ at. let v = values_again values rest at (fits.0.1.1, fits.0.1.2, fits.0.1.3) in
    (v.0, ap (λ read. read >>= λ values. Ok (Insert id values.0, values.1)) v.1))
covered_op_again keys (Update id change) rest at fits =
    let f = both (place_fits id) (not (named change == 0)) fits.0.0 in
    tag_again keys 2 id (Update id change) (change_text change) rest at refl f.0 fits.0.1.0 fits.1
    (λ at. let v = columns_again change rest at (positive (named change) (is_no (named change == 0) f.1)) (fits.0.1.1, fits.0.1.2) in
    (v.0, ap (λ read. read >>= λ change. Ok (Update id change.0, change.1)) v.1))
covered_op_again keys (Delete id) rest at fits =
    let d = tag_again keys 3 id (Delete id) [] rest at refl fits.0.0 fits.0.1 fits.1 (λ at. (at, refl)) in
    (d.0, ap (λ text. covered_op_at keys (place ((3 ∷ text) ++ rest) at)) (sym (append-nil (place_text id))) ∙ d.1)

op_field : (keys : Keys) → Field op_text (CoveredFits keys) (covered_op_at keys)
op_field keys = record { takes = covered_op_takes keys; again = covered_op_again keys }

-- ---- all changes

fit_each : (keys : Keys) (ops : List Op) → AllByRecursion (CoveredFits keys) ops → AllByRecursion OpFits ops
fit_each keys [] all = tt
fit_each keys (op ∷ ops) all = (all.0.0, fit_each keys ops all.1)

range_of : (ops : List Op) → AllByRecursion OpFits ops → OpsInRange ops
range_of [] all = tt
range_of (op ∷ ops) all = (all.0.1, range_of ops all.1)

none_uncovered : (at : ℕ) (keys : Keys) (ops : List Op) → AllByRecursion (CoveredFits keys) ops → uncovered_from at keys ops ≡ None
none_uncovered at keys [] all = refl
none_uncovered at keys (op ∷ ops) all =
    ap (λ b. cond b (uncovered_from (at + 1) keys ops) (Some at)) all.0.1 ∙ none_uncovered (at + 1) keys ops all.1

first_is : (b : Bool) (at : ℕ) (rest : Option ℕ) → cond b rest (Some at) ≡ None → (b ≡ true) × (rest ≡ None)
first_is true at rest h = (refl, h)
first_is false at rest h = absurd cc

all_covered : (at : ℕ) (keys : Keys) (ops : List Op) → uncovered_from at keys ops ≡ None → AllByRecursion OpFits ops
    → AllByRecursion (CoveredFits keys) ops
all_covered at keys [] none all = tt
all_covered at keys (op ∷ ops) none all =
    let first = first_is (is_covered keys op) at (uncovered_from (at + 1) keys ops) none in
    ((all.0, first.0), all_covered (at + 1) keys ops first.1 all.1)

-- the changes are in their form, and covered
abbrev pub TakesOps : Keys → Place → List Op × Place → Type 0
TakesOps keys p x =
    Took p (ops_text x.0) x.1 × AreOps x.0 × OpsInRange x.0 × (uncovered_from 0 keys x.0 ≡ None)

pub covered_ops_take : (keys : Keys) (p : Place) (x : List Op × Place) → IsBytes p.left → covered_ops_at keys p ≡ Ok x → TakesOps keys p x
unfolding covered_ops_at
covered_ops_take keys p x fits e =
    let a = read_ok ℕ _ _ x e in
    let b = passed (nat_lt MOST_OPS a.0.0) _ _ x a.2 in
    let t = number_takes Short w32 (2 ^ 32) wide32 p a.0 fits a.1 in
    let o = many_take op_text (CoveredFits keys) (covered_op_at keys) (op_field keys) a.0.0 a.0.1 x t.0.fits b.1 in
    let few : a.0.0 ≤ MOST_OPS = ltb-false MOST_OPS a.0.0 b.0 in
    let taken : Took p (to_be_bytes w32 a.0.0 ++ flat_map op_text x.0) x.1 =
    took_then p (to_be_bytes w32 a.0.0) a.0.1 (flat_map op_text x.0) x.1 t.0 o.0 in
    let count : a.0.0 ≡ length x.0 = sym o.1 in
    let fit = fit_each keys x.0 o.2 in (
      subst (λ n. Took p (to_be_bytes w32 n ++ flat_map op_text x.0) x.1) count taken,
      and (nat_le (length x.0) MOST_OPS) (list_all op_fits x.0) (le-leb (length x.0) MOST_OPS (rw o.1 few)) (all_fit x.0 fit),
      range_of x.0 fit,
      none_uncovered 0 keys x.0 o.2,
    )

pub covered_ops_again : (keys : Keys) (ops : List Op) (rest : List ℕ) (at : ℕ) → AreOps ops → OpsInRange ops → uncovered_from 0 keys ops ≡ None
    → (q : ℕ) × (covered_ops_at keys (place (ops_text ops ++ rest) at) ≡ Ok (ops, place rest q))
unfolding covered_ops_at
covered_ops_again keys ops rest at are range none =
    let n = length ops in
    let f = both (nat_le n MOST_OPS) (list_all op_fits ops) are in
    let most : n ≤ MOST_OPS = leb-true n MOST_OPS f.0 in
    let others = flat_map op_text ops in
    let all = all_covered 0 keys ops none (each_fits ops f.1 range) in
    let o = many_again op_text (CoveredFits keys) (covered_op_at keys) (op_field keys) ops rest (at + 4) all in
    let is : covered_ops_at keys (place (to_be_bytes w32 n ++ (others ++ rest)) at) ≡ Ok (ops, place rest o.0) =
    rw (number_again Short w32 (2 ^ 32) wide32 n (others ++ rest) at (omega arith), above MOST_OPS n most, o.1) refl in
    (o.0, ap (λ text. covered_ops_at keys (place text at)) (append_assoc (to_be_bytes w32 n) others rest) ∙ is)
