-- Rows: what is read are rows in order, and rows in order are read again.
use Rattle.std.proofs.Common.{◌≡◌, ℕ, true, false, List, [], ◌∷◌, ◌++◌, Option, Some, None, Ok, refl, ap, subst, ◌∙◌, append_assoc}
use Rattle.std.specs.Prelude.{not}
use Rattle.std.specs.List.{AllByRecursion}
use Rattle.std.specs.Ordering.{is_lt, nat_cmp, ordering_then, ordering_reverse}
use Rattle.std.specs.declared.cmp.Ordering.{Ordering}
use Rattle.std.specs.declared.cmp.Ordering.TheVariants.{Less, Equal, Greater}
use Rattle.std.specs.Cmp.Lexicographic.{slice_cmp, on_texts}
use Rattle.row_model.specs.declared.row.RowId.{RowId}
use Rattle.row_model.specs.declared.row.RowItem.{RowItem}
use Rattle.write_set.specs.declared.names.NameRole.TheVariants as role
use Rattle.write_set.specs.Names.{is_name, is_table_letter, is_row_letter}
use Rattle.write_set.specs.Rules.{place_fits}
use Rattle.write_set.specs.Spelling.{name_text, place_text, row_values_text}
use Rattle.write_set.specs.Place.{Place}
use Rattle.write_set.specs.Reading.{name_at, values_at}
use Rattle.write_set.proofs.Bounds.{is_not}
use Rattle.write_set.proofs.RulesOf.{both, and}
use Rattle.write_set.proofs.NameLaws.{name_takes, name_again}
use Rattle.write_set.proofs.OpLaws.{values_take, values_again}
use Rattle.wsrep_base.proofs.Fields.{IsBytes, read_ok, passed, ok_is, place, Took, took_then}
use Rattle.state_snapshot.specs.Reading.{is_table_below, is_row_above, row_at}
use Rattle.state_snapshot.specs.Spelling.{row_item_text}
use Rattle.state_snapshot.specs.Rules.{RowsRise}
use Rattle.state_snapshot.specs.Laws.{RowInRange}
use Rattle.state_snapshot.proofs.Each.{Step, Always, AllFit}

abbrev pub RowFits : Option RowId → RowItem → Type 0
RowFits last item = (is_row_above last item.id ≡ true) × (place_fits item.id ≡ true) × RowInRange item

abbrev pub next_row : Option RowId → RowItem → Option RowId
next_row last item = Some item.id

abbrev TakesRow : Option RowId → Place → (RowItem × Option RowId) × Place → Type 0
TakesRow last p x = Took p (row_item_text x.0.0) x.1 × RowFits last x.0.0 × (x.0.1 ≡ next_row last x.0.0) × Always (next_row last x.0.0)

row_takes : (last : Option RowId) (p : Place) (x : (RowItem × Option RowId) × Place) → IsBytes p.left → Always last → row_at last p ≡ Ok x
    → TakesRow last p x
unfolding row_at
row_takes last p x fits holds e =
    let t = read_ok (List ℕ) (name_at role.ChangeTable p) _ x e in
    let below = passed (is_table_below last t.0.0) _ _ x t.2 in
    let r = read_ok (List ℕ) (name_at role.ChangeRow t.0.1) _ x below.1 in
    let id : RowId = record { table = t.0.0; row = r.0.0 } in
    let rising = passed (not (is_row_above last id)) _ _ x r.2 in
    let v = read_ok (List ℕ) (values_at r.0.1) _ x rising.1 in
    let tt' = name_takes role.ChangeTable p t.0 fits t.1 in
    let tr = name_takes role.ChangeRow t.0.1 r.0 tt'.0.fits r.1 in
    let tv = values_take r.0.1 v.0 tr.0.fits v.1 in
    let item : RowItem = record { id = id; row = v.0.0 } in
    let taken : Took p (row_item_text item) v.0.1 =
    took_then p (place_text id) r.0.1 (row_values_text v.0.0) v.0.1
    (took_then p (name_text t.0.0) t.0.1 (name_text r.0.0) r.0.1 tt'.0 tr.0) tv.0 in
    subst (TakesRow last p) (ok_is ((item, Some id), v.0.1) x v.2)
    (taken, (is_not (is_row_above last id) rising.0, and _ _ tt'.2 tr.2, ((tt'.1, tr.1), tv.1.0, tv.1.1, tv.1.2)), refl, tt)

turned : (table row : Ordering) → is_lt (ordering_then table row) ≡ true → is_lt (ordering_reverse table) ≡ false
turned Less row h = refl
turned Equal row h = refl
turned Greater row h = absurd cc

-- a row behind the last one is in no table below its table
not_below : (last : Option RowId) (id : RowId) → is_row_above last id ≡ true → is_table_below last id.table ≡ false
not_below None id h = refl
not_below (Some last) id h =
    ap is_lt ((on_texts (λ (id : RowId). id.table)).antisymm id last)
    ∙ turned (slice_cmp nat_cmp last.table id.table) (slice_cmp nat_cmp last.row id.row) h

row_again : (last : Option RowId) (item : RowItem) (rest : List ℕ) (at : ℕ) → RowFits last item
    → (q : ℕ) × (row_at last (place (row_item_text item ++ rest) at) ≡ Ok ((item, Some item.id), place rest q))
unfolding row_at
row_again last item rest at fits =
    let id = item.id in
    let values = row_values_text item.row in
    let f = both (is_name is_table_letter id.table) (is_name is_row_letter id.row) fits.1 in
    let t = name_again role.ChangeTable id.table (name_text id.row ++ (values ++ rest)) at fits.2.0.0 f.0 in
    let r = name_again role.ChangeRow id.row (values ++ rest) t.0 fits.2.0.1 f.1 in
    let v = values_again item.row rest r.0 (fits.2.1, fits.2.2, fits.2.3) in
    let is : row_at last (place (name_text id.table ++ (name_text id.row ++ (values ++ rest))) at) ≡ Ok ((item, Some id), place rest v.0) =
    rw (t.1, not_below last id fits.0, r.1, fits.0, v.1) refl in (
      v.0,
      ap (λ left. row_at last (place left at))
          (append_assoc (place_text id) values rest ∙ append_assoc (name_text id.table) (name_text id.row) (values ++ rest)) ∙ is,
    )

pub row_step : Step row_item_text next_row Always RowFits row_at
row_step = record { takes = row_takes; again = row_again }

abbrev RowsFit : Option RowId → List RowItem → Type 0
RowsFit last items = AllFit next_row RowFits last items

-- what rows that fit say
pub record RowsSay (last : Option RowId) (items : List RowItem) : Type 0 where
  pub rise : RowsRise last items
  pub named : AllByRecursion (λ (item : RowItem). place_fits item.id ≡ true) items
  pub range : AllByRecursion RowInRange items

pub rows_say : (last : Option RowId) (items : List RowItem) → RowsFit last items → RowsSay last items
rows_say last [] fit = record { rise = tt; named = tt; range = tt }
rows_say last (item ∷ items) fit =
    let rest = rows_say (Some item.id) items fit.1 in
    record { rise = (fit.0.0, rest.rise); named = (fit.0.1, rest.named); range = (fit.0.2, rest.range) }

pub rows_fit : (last : Option RowId) (items : List RowItem) → RowsSay last items → RowsFit last items
rows_fit last [] say = tt
rows_fit last (item ∷ items) say =
    let rest : RowsSay (Some item.id) items = record { rise = say.rise.1; named = say.named.1; range = say.range.1 } in
    ((say.rise.0, say.named.0, say.range.0), rows_fit (Some item.id) items rest)
