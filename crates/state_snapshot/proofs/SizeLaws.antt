-- How many rows and open transactions there are: an event adds at most one transaction, and to the rows and the changes of
-- open fragments at most the changes of one write set.
use Rattle.std.proofs.Common.{◌≡◌, ℕ, zero, suc, ◌+◌, ◌*◌, ◌<◌, ◌≤◌, Bool, true, false, cond, List, [], ◌∷◌, ◌++◌, length, map, Option, Some, None, refl, sym, ap, subst, ◌∙◌, arith}
use Rattle.std.specs.Prelude.{◌&&◌, not, nat_lt, nat_le, slice_get, slice_index, unwrap_or, flat_map}
use Rattle.std.specs.List.{list_all}
use Rattle.std.specs.Ordering.{eq_by_cmp}
use Rattle.std.specs.declared.cmp.Ordering.{Ordering}
use Rattle.std.specs.declared.cmp.Ordering.TheVariants.{Less, Equal, Greater}
use Rattle.std.specs.FinMap.Entries.{put, find, where_key, by_order}
use Rattle.std.proofs.lemmas.Bool.{leb-true}
use Rattle.std.proofs.lemmas.List.{length-append}
use Rattle.finite_map.specs.FiniteMap.{FiniteMap, empty, get, insert, remove, retain_keys, len, contains_key, len-insert, len_before_remove, entries-insert}
use Rattle.finite_map.proofs.Edits.{insert-remove}
use Rattle.wsrep_base.specs.declared.ids.TrxId.{TrxId}
use Rattle.wsrep_base.specs.Trx.{trx_cmp}
use Rattle.row_model.specs.declared.ops.Op.{Op}
use Rattle.row_model.specs.declared.row.RowId.{RowId}
use Rattle.row_model.specs.Rows.{Rows, row_after, id_of, with_row, op_on, ops_on}
use Rattle.row_model.specs.RowOrder.{row_total}
use Rattle.order_event.specs.declared.event.Event.{Event}
use Rattle.order_event.specs.declared.event.Event.TheVariants.{Write, View, Report}
use Rattle.write_set.specs.declared.write_set.WriteSet.{WriteSet}
use Rattle.write_set.specs.declared.rules.TheConstants.{MOST_OPS}
use Rattle.write_set.specs.Laws.{AreOps}
use Rattle.write_set.specs.Rules.{op_fits}
use Rattle.write_set.specs.Reading.{decoded}
use Rattle.write_set.proofs.RulesOf.{both}
use Rattle.cert_meaning.specs.declared.items.Fragment.{Fragment}
use Rattle.cert_meaning.specs.declared.members.Standing.{Standing}
use Rattle.cert_meaning.specs.State.{FoldState, no_events, fragments_of, whole_ops}
use Rattle.cert_meaning.specs.Parts.{open_item}
use Rattle.cert_meaning.specs.Verdict.{trx_of}
use Rattle.cert_meaning.specs.Fold.{Effect, Same, Closes, Adds, Commits, effect_of, judged_write, affected, written, is_of, fragment_by, reported, changed_by, after, after_next, state_at}
use Rattle.cert_meaning.proofs.FoldLaws.{number-at, number-after}
use Rattle.cert_meaning.proofs.TrxLemmas.{transactions, trx_total}
use Rattle.state_snapshot.proofs.Points.{HoldsAtEach, ItemsAreCounted}
use Rattle.state_snapshot.proofs.StateLaws.{row_item}
use Rattle.state_snapshot.proofs.TrxLaws.{SetObeys, set_obeys}

-- ---- changes of open fragments

abbrev Opened : Type 0
Opened = FiniteMap trx_cmp (List Fragment)

abbrev changes_of : List Fragment → ℕ
changes_of fragments = length (flat_map (λ (fragment : Fragment). fragment.ops) fragments)

abbrev changes_in : List (TrxId × List Fragment) → ℕ
changes_in [] = 0
changes_in (entry ∷ entries) = changes_of entry.1 + changes_in entries

put_by : (r : Ordering) (trx : TrxId) (fragments : List Fragment) (e : TrxId × List Fragment) (es rest : List (TrxId × List Fragment))
    → changes_in rest ≤ changes_of fragments + changes_in es
    → changes_in (by_order r ((trx, fragments) ∷ e ∷ es) ((e.0, fragments) ∷ es) (e ∷ rest)) ≤ changes_of fragments + changes_in (e ∷ es)
put_by Less trx fragments e es rest later = omega arith
put_by Equal trx fragments e es rest later = omega arith
put_by Greater trx fragments e es rest later = omega (arith, later)

changes_put : (trx : TrxId) (fragments : List Fragment) (es : List (TrxId × List Fragment))
    → changes_in (put trx_cmp trx fragments es) ≤ changes_of fragments + changes_in es
changes_put trx fragments [] = omega arith
changes_put trx fragments (e ∷ es) = put_by (trx_cmp trx e.0) trx fragments e es (put trx_cmp trx fragments es) (changes_put trx fragments es)

kept_by : (b : Bool) (e : TrxId × List Fragment) (es rest : List (TrxId × List Fragment)) → changes_in rest ≤ changes_in es
    → changes_in (cond b (e ∷ rest) rest) ≤ changes_in (e ∷ es)
kept_by true e es rest fewer = omega (arith, fewer)
kept_by false e es rest fewer = omega (arith, fewer)

changes_kept : (test : TrxId → Bool) (es : List (TrxId × List Fragment)) → changes_in (where_key trx_cmp test es) ≤ changes_in es
changes_kept test [] = omega arith
changes_kept test (e ∷ es) = kept_by (test e.0) e es (where_key trx_cmp test es) (changes_kept test es)

left_by : (b : Bool) (e : TrxId × List Fragment) (es rest : List (TrxId × List Fragment)) (o : Option (List Fragment)) → changes_in rest ≤ changes_in es
    → changes_in rest + changes_of (unwrap_or o []) ≤ changes_in es
    → changes_in (cond (not b) (e ∷ rest) rest) + changes_of (unwrap_or (cond b (Some e.1) o) []) ≤ changes_in (e ∷ es)
left_by true e es rest o fewer later = omega (arith, fewer)
left_by false e es rest o fewer later = omega (arith, later)

changes_left : (trx : TrxId) (es : List (TrxId × List Fragment))
    → changes_in (where_key trx_cmp (λ other. not (eq_by_cmp trx_cmp trx other)) es) + changes_of (unwrap_or (find trx_cmp trx es) []) ≤ changes_in es
changes_left trx [] = omega arith
changes_left trx (e ∷ es) =
    left_by (eq_by_cmp trx_cmp trx e.0) e es (where_key trx_cmp (λ other. not (eq_by_cmp trx_cmp trx other)) es) (find trx_cmp trx es)
    (changes_kept (λ other. not (eq_by_cmp trx_cmp trx other)) es) (changes_left trx es)

changes_more : (fragments : List Fragment) (last : Fragment) → changes_of (fragments ++ last ∷ []) ≡ changes_of fragments + length last.ops
changes_more [] last = length-append last.ops [] ∙ omega arith
changes_more (fragment ∷ fragments) last =
    let later = changes_more fragments last in
    let all = length-append fragment.ops (flat_map (λ (other : Fragment). other.ops) (fragments ++ last ∷ [])) in
    let front = length-append fragment.ops (flat_map (λ (other : Fragment). other.ops) fragments) in
    omega (arith, later, all, front)

-- those of a transaction go with it
taken_out : (opened : Opened) (trx : TrxId) → changes_in (remove opened trx).entries + changes_of (unwrap_or (get opened trx) []) ≤ changes_in opened.entries
unfolding remove retain_keys get
taken_out opened trx = changes_left trx opened.entries

put_in : (opened : Opened) (trx : TrxId) (fragments : List Fragment)
    → changes_in (insert opened trx fragments).entries ≤ changes_of fragments + changes_in (remove opened trx).entries
put_in opened trx fragments =
    let gone = remove opened trx in
    let put_there = changes_put trx fragments gone.entries in
    let again : (insert gone trx fragments).entries ≡ put trx_cmp trx fragments gone.entries = entries-insert trx_total gone trx fragments in
    let same : (insert gone trx fragments).entries ≡ (insert opened trx fragments).entries =
    ap (λ (m : Opened). m.entries) (insert-remove transactions opened trx fragments) in
    subst (λ es. changes_in es ≤ changes_of fragments + changes_in gone.entries) (sym again ∙ same) put_there

kept_in : (opened : Opened) (test : TrxId → Bool) → changes_in (retain_keys opened test).entries ≤ changes_in opened.entries
unfolding retain_keys
kept_in opened test = changes_kept test opened.entries

-- ---- rows

plus_by : (b : Bool) (n : ℕ) → cond b n (n + 1) ≤ n + 1
plus_by true n = omega arith
plus_by false n = omega arith

one_more : (rows : Rows) (id : RowId) (row : Option (List ℕ)) → len (with_row rows id row) ≤ len rows + 1
one_more rows id None = omega (arith, len_before_remove row_total rows id)
one_more rows id (Some row) =
    subst (λ n. n ≤ len rows + 1) (sym (len-insert row_total rows id row)) (plus_by (contains_key rows id) (len rows))

rows_more : (ops : List Op) (rows : Rows) → len (ops_on ops rows) ≤ len rows + length ops
unfolding ops_on
rows_more [] rows = omega arith
rows_more (op ∷ ops) rows =
    let one = one_more rows (id_of op) (row_after (get rows (id_of op)) op) in
    let later = rows_more ops (op_on rows op) in omega (arith, one, later)

-- ---- transactions

left_few : (opened : Opened) (trx : TrxId) → len (remove opened trx) ≤ len opened
left_few opened trx = omega (arith, len_before_remove trx_total opened trx)

filter_few : (test : TrxId → Bool) (es : List (TrxId × List Fragment)) → length (where_key trx_cmp test es) ≤ length es
filter_few test [] = omega arith
filter_few test (e ∷ es) = by (test e.0) (filter_few test es)
  where
    by : (b : Bool) → length (where_key trx_cmp test es) ≤ length es
        → length (cond b (e ∷ where_key trx_cmp test es) (where_key trx_cmp test es)) ≤ suc (length es)
    by true fewer = omega (arith, fewer)
    by false fewer = omega (arith, fewer)

kept_few : (opened : Opened) (test : TrxId → Bool) → len (retain_keys opened test) ≤ len opened
unfolding len retain_keys
kept_few opened test = filter_few test opened.entries

-- ---- one event

-- what there is after an event, by what was there
pub record Grows (s t : FoldState) : Type 0 where
  pub rows : len t.rows + changes_in t.open_trx.entries ≤ len s.rows + changes_in s.open_trx.entries + MOST_OPS
  pub opened : len t.open_trx ≤ len s.open_trx + 1

still : (s t : FoldState) → s.rows ≡ t.rows → s.open_trx ≡ t.open_trx → Grows s t
still s t rows opened = record {
  rows = subst (λ (now : Rows). len now + changes_in t.open_trx.entries ≤ len s.rows + changes_in s.open_trx.entries + MOST_OPS) rows
      (subst (λ (now : Opened). len s.rows + changes_in now.entries ≤ len s.rows + changes_in s.open_trx.entries + MOST_OPS) opened (omega arith));
  opened = subst (λ (now : Opened). len now ≤ len s.open_trx + 1) opened (omega arith);
}

few_ops : (ops : List Op) → AreOps ops → length ops ≤ MOST_OPS
few_ops ops fit = leb-true (length ops) MOST_OPS (both (nat_le (length ops) MOST_OPS) (list_all op_fits ops) fit).0

module _ (s : FoldState) where
  by_effect : (w : WriteSet) (effect : Effect) → SetObeys w → Grows s (affected s w effect)
  by_effect w Same obeys = still s s refl refl
  by_effect w Closes obeys = record {
    rows = omega (arith, taken_out s.open_trx (trx_of w));
    opened = omega (arith, left_few s.open_trx (trx_of w));
  }
  by_effect w Adds obeys =
      let trx = trx_of w in
      let front = fragments_of s trx in
      let last = fragment_by s w in
      let gone = taken_out s.open_trx trx in
      let there = put_in s.open_trx trx (front ++ last ∷ []) in
      let more = changes_more front last in
      let few = few_ops w.ops obeys.1 in
      record {
        rows = omega (arith, gone, there, more, few);
        opened = subst (λ n. n ≤ len s.open_trx + 1) (sym (len-insert trx_total s.open_trx trx (front ++ last ∷ [])))
            (plus_by (contains_key s.open_trx trx) (len s.open_trx));
      }
  by_effect w Commits obeys =
      let trx = trx_of w in
      let front = fragments_of s trx in
      let gone = taken_out s.open_trx trx in
      let rows = rows_more (whole_ops front w.ops) s.rows in
      let all = length-append (flat_map (λ (fragment : Fragment). fragment.ops) front) w.ops in
      let few = few_ops w.ops obeys.1 in
      record {
        rows = omega (arith, gone, rows, all, few);
        opened = omega (arith, left_few s.open_trx trx);
      }

  by_write : (member : ℕ) (body : List ℕ) (o : Option WriteSet) → ((i : ℕ) → slice_index body i < 256) → decoded body ≡ o
      → Grows s (written s member o)
  by_write member body None fits is = still s s refl refl
  by_write member body (Some w) fits is = by_effect w (effect_of (judged_write s member (Some w))) (set_obeys body w fits is)

  chosen : (b : Bool) (t : FoldState) → s.rows ≡ t.rows → s.open_trx ≡ t.open_trx → Grows s (cond b t s)
  chosen true t rows opened = still s t rows opened
  chosen false t rows opened = still s s refl refl

  by_report : (member number : ℕ) (o : Option Standing) → Grows s (reported s member number o)
  by_report member number None = still s s refl refl
  by_report member number (Some standing) = chosen (nat_le standing.report number && nat_lt number (s.number + 1)) _ refl refl

  by_event : (event : Event) → ((member : ℕ) (body : List ℕ) → event ≡ Write member body → (i : ℕ) → slice_index body i < 256)
      → Grows s (changed_by s event)
  by_event (Write member body) fits = by_write member body (decoded body) (fits member body refl) refl
  by_event (View version members) fits = record {
    rows = omega (arith, kept_in s.open_trx (is_of members));
    opened = omega (arith, kept_few s.open_trx (is_of members));
  }
  by_event (Report member number) fits = by_report member number (get s.members member)

  grows_after : (event : Event) → ((member : ℕ) (body : List ℕ) → event ≡ Write member body → (i : ℕ) → slice_index body i < 256)
      → Grows s (after s event)
  unfolding after
  grows_after event fits = let is = by_event event fits in record { rows = is.rows; opened = is.opened }

-- so many there are at most after so many events
pub record AreFew (s : FoldState) : Type 0 where
  pub rows : len s.rows + changes_in s.open_trx.entries ≤ MOST_OPS * s.number
  pub opened : len s.open_trx ≤ s.number

few_next : (s : FoldState) (o : Option Event) → ((member : ℕ) (body : List ℕ) → o ≡ Some (Write member body) → (i : ℕ) → slice_index body i < 256)
    → AreFew s → AreFew (after_next s o)
few_next s None fits few = few
few_next s (Some event) fits few =
    let grows = grows_after s event (λ member body is. fits member body (ap Some is)) in
    let number = number-after s event in
    record { rows = omega (arith, grows.rows, few.rows, number); opened = omega (arith, grows.opened, few.opened, number) }

few_at : (order : List Event) (n : ℕ)
    → ((k member : ℕ) (body : List ℕ) → slice_get order k ≡ Some (Write member body) → (i : ℕ) → slice_index body i < 256)
    → AreFew (state_at order n)
unfolding state_at no_events empty len
few_at order zero fits = record { rows = omega arith; opened = omega arith }
few_at order (suc n) fits = few_next (state_at order n) (slice_get order n) (fits n) (few_at order n fits)

length-map : {A B : Type 0} (f : A → B) (xs : List A) → length (map f xs) ≡ length xs
length-map f [] = refl
length-map f (x ∷ xs) = ap suc (length-map f xs)

pub items_are_counted : HoldsAtEach ItemsAreCounted
unfolding len
items_are_counted order n there few fits =
    let s = state_at order n in
    let are = few_at order n fits.bodies in
    let number : s.number ≡ n = number-at order n there in
    let rows = length-map row_item s.rows.entries in
    let opened = length-map open_item s.open_trx.entries in
    (omega (arith, are.rows, number, few, rows), omega (arith, are.opened, number, few, opened))
