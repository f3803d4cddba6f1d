-- Each row that a passed commit changes has before it the value that it had when the transaction saw it.
use Rattle.std.proofs.Common.{◌≡◌, ℕ, zero, suc, ◌+◌, ◌-◌, ◌≤◌, ◌<◌, Bool, true, false, cond, ◌||◌, List, [], ◌∷◌, ◌++◌, length, Option, None, Some, refl, ap, sym, subst, ◌∙◌, arith}
use Rattle.std.specs.Prelude.{map, filter, nat_lt, ◌&&◌, slice_get}
use Rattle.std.specs.List.{AllByRecursion}
use Rattle.std.specs.Ordering.{eq_by_cmp}
use Rattle.std.proofs.lemmas.Bool.{lt-ltb, false_from_ne_true}
use Rattle.std.proofs.lemmas.Option.{same_Some}
use Rattle.finite_map.specs.FiniteMap.{get}
use Rattle.wsrep_base.specs.Trx.{greatest}
use Rattle.wsrep_base.specs.declared.verdict.Judged.{Judged}
use Rattle.wsrep_base.specs.declared.verdict.Judged.TheVariants as became
use Rattle.key_sets.specs.Keys.{Keys, conflicts}
use Rattle.key_sets.specs.Meeting.{covers}
use Rattle.row_model.specs.declared.row.RowId.{RowId}
use Rattle.row_model.specs.declared.ops.Op.{Op}
use Rattle.row_model.specs.Rows.{row_cmp, id_of}
use Rattle.row_model.specs.RowOrder.{row_tied}
use Rattle.order_event.specs.declared.event.Event.{Event}
use Rattle.order_event.specs.declared.event.Event.TheVariants.{Write}
use Rattle.write_set.specs.declared.write_set.WriteSet.{WriteSet}
use Rattle.write_set.specs.Reading.{decoded}
use Rattle.write_set.specs.Rules.{row_parts}
use Rattle.cert_meaning.specs.declared.items.CommitItem.{CommitItem}
use Rattle.cert_meaning.specs.declared.items.Fragment.{Fragment}
use Rattle.cert_meaning.specs.Search.{is_related, greatest_related}
use Rattle.cert_meaning.specs.State.{FoldState, fragments_of}
use Rattle.cert_meaning.specs.Verdict.{trx_of, conflict_of}
use Rattle.cert_meaning.specs.Fold.{effect_of, judged, judged_write, state_at, commit_of}
use Rattle.cert_meaning.specs.Open.{IsUnopposed, changes_row, first_seen, RowsAreAsSeen}
use Rattle.cert_meaning.proofs.FoldLaws.{some_there, number-at}
use Rattle.cert_meaning.proofs.CommitLaws.{as_list, commits-next, commit-number}
use Rattle.cert_meaning.proofs.VerdictLaws.{HasPassed, IsTaken, taken-passed}
use Rattle.cert_meaning.proofs.CoveredLaws.{AllCovered, FragmentsCovered, fragments_covered, decoded_covered, open_covered, row_stays_over}
use Rattle.cert_meaning.proofs.OpenLaws.{open_stay}

-- ---- commits that do not conflict
-- among commits in two parts there is none that conflicts, so neither part has one
none_either : (above : ℕ) (keys : Keys) (front back : List CommitItem) → greatest_related conflicts (front ++ back) above keys ≡ None
    → (greatest_related conflicts front above keys ≡ None) × (greatest_related conflicts back above keys ≡ None)
none_either above keys [] back is = (refl, is)
none_either above keys (c ∷ front) back is = by (is_related conflicts above keys c) is (none_either above keys front back)
  where
    by : (b : Bool)
        → greatest (map (λ (c : CommitItem). c.number) (cond b (c ∷ filter (is_related conflicts above keys) (front ++ back)) (filter (is_related conflicts above keys) (front ++ back)))) ≡ None
        → (greatest_related conflicts (front ++ back) above keys ≡ None
        → (greatest_related conflicts front above keys ≡ None) × (greatest_related conflicts back above keys ≡ None))
        → (greatest (map (λ (c : CommitItem). c.number) (cond b (c ∷ filter (is_related conflicts above keys) front) (filter (is_related conflicts above keys) front))) ≡ None)
        × (greatest_related conflicts back above keys ≡ None)
    by true is rest = cc
    by false is rest = rest is

-- a commit above the number that is not found does not conflict
one_apart : (above : ℕ) (keys : Keys) (commit : CommitItem) → above < commit.number
    → greatest_related conflicts (commit ∷ []) above keys ≡ None → conflicts commit.keys keys ≡ false
one_apart above keys commit higher is = false_from_ne_true _ (λ meet. by (nat_lt above commit.number) (conflicts commit.keys keys) (lt-ltb above commit.number higher) meet is)
  where
    by : (a b : Bool) → a ≡ true → b ≡ true → greatest (map (λ (c : CommitItem). c.number) (cond (a && b) (commit ∷ []) [])) ≡ None → ⊥
    by true true higher meet is = cc
    by true false higher meet is = cc
    by false b higher meet is = cc

-- ---- a row that keys cover stays while no commit conflicts with them
module _ (order : List Event) (id : RowId) (keys : Keys) (own : covers keys (row_parts id) ≡ true) (seen : ℕ) where
  row_same : (d : ℕ) → seen + d ≤ length order → conflict_of (state_at order (seen + d)) seen keys ≡ None
      → get (state_at order (seen + d)).rows id ≡ get (state_at order seen).rows id
  unfolding conflict_of
  row_same zero fits clear = let same : seen + 0 ≡ seen = omega arith in ap (λ m. get (state_at order m).rows id) same
  row_same (suc d) fits clear =
      let same : seen + suc d ≡ (seen + d) + 1 = omega arith in
      let inside : suc (seen + d) ≤ length order = omega (arith, fits) in
      let there = some_there order (seen + d) inside in
      let made = commit_of (state_at order (seen + d)) there.0 in
      let parts = none_either seen keys (state_at order (seen + d)).commits (as_list made)
      (ap (λ commits. greatest_related conflicts commits seen keys)
      (sym (commits-next order (seen + d) there.0 there.1) ∙ ap (λ m. (state_at order m).commits) (sym same)) ∙ clear) in
      ap (λ m. get (state_at order m).rows id) same
      ∙ row_stays_over order (seen + d) there.0 keys id there.1 own
      (λ c is. one_apart seen keys c
      (let number : c.number ≡ (seen + d) + 1 =
      commit-number (state_at order (seen + d)) there.0 c is ∙ ap (λ n. n + 1) (number-at order (seen + d) (omega (arith, fits))) in
      omega (arith, number))
      (ap (λ (o : Option CommitItem). greatest_related conflicts (as_list o) seen keys) (sym is) ∙ parts.1))
      ∙ row_same d (omega (arith, fits)) parts.0

  -- from what was seen up to a state in which no commit since then conflicts
  pub row_as_seen : (n : ℕ) → seen ≤ n → n ≤ length order → conflict_of (state_at order n) seen keys ≡ None
      → get (state_at order n).rows id ≡ get (state_at order seen).rows id
  row_as_seen n past fits clear =
      let same : seen + (n - seen) ≡ n = omega (arith, past) in
      let inside : seen + (n - seen) ≤ length order = omega (arith, past, fits) in
      ap (λ m. get (state_at order m).rows id) (sym same)
      ∙ row_same (n - seen) inside (ap (λ m. conflict_of (state_at order m) seen keys) same ∙ clear)

-- ---- what the first that changes the row had seen
-- changes that keys cover are of rows that the keys cover
pub covers_changed : (keys : Keys) (ops : List Op) (id : RowId) → AllCovered keys ops → changes_row id ops ≡ true
    → covers keys (row_parts id) ≡ true
covers_changed keys [] id all changes = cc
covers_changed keys (op ∷ ops) id all changes = by (eq_by_cmp row_cmp id (id_of op)) refl changes (covers_changed keys ops id all.1)
  where
    by : (b : Bool) → eq_by_cmp row_cmp id (id_of op) ≡ b → b || changes_row id ops ≡ true
        → (changes_row id ops ≡ true → covers keys (row_parts id) ≡ true) → covers keys (row_parts id) ≡ true
    by true tie changes rest = subst (λ (r : RowId). covers keys (row_parts r) ≡ true) (sym (row_tied id (id_of op) tie)) all.0
    by false apart changes rest = rest changes

-- keys that cover the row, and that nothing opposes since what was seen
record Saw (s : FoldState) (id : RowId) (seen : ℕ) : Type 0 where
  keys : Keys
  own : covers keys (row_parts id) ≡ true
  past : seen ≤ s.number
  clear : conflict_of s seen keys ≡ None

saw_by : (s : FoldState) (id : RowId) (seen last_seen : ℕ) (keys : Keys) (ops : List Op) → last_seen ≡ seen → AllCovered keys ops
    → changes_row id ops ≡ true → last_seen ≤ s.number → conflict_of s last_seen keys ≡ None → Saw s id seen
saw_by s id seen last_seen keys ops is all changes past clear = subst (Saw s id) is (record {
  keys = keys;
  own = covers_changed keys ops id all changes;
  past = past;
  clear = clear;
})

first_saw : (s : FoldState) (id : RowId) (w : WriteSet) (seen : ℕ) → AllCovered w.keys w.ops → HasPassed s w → (fs : List Fragment)
    → FragmentsCovered fs → AllByRecursion (IsUnopposed s) fs → first_seen id fs w ≡ Some seen → Saw s id seen
first_saw s id w seen own passed [] covered clear is = by (changes_row id w.ops) refl is
  where
    by : (b : Bool) → changes_row id w.ops ≡ b → cond b (Some w.last_seen) None ≡ Some seen → Saw s id seen
    by true changes is = saw_by s id seen w.last_seen w.keys w.ops (same_Some w.last_seen seen is) own changes passed.seen passed.clear
    by false changes is = cc
first_saw s id w seen own passed (f ∷ fs) covered clear is = by (changes_row id f.ops) refl is (first_saw s id w seen own passed fs covered.1 clear.1)
  where
    by : (b : Bool) → changes_row id f.ops ≡ b → cond b (Some f.last_seen) (first_seen id fs w) ≡ Some seen
        → (first_seen id fs w ≡ Some seen → Saw s id seen) → Saw s id seen
    by true changes is rest = saw_by s id seen f.last_seen f.keys f.ops (same_Some f.last_seen seen is) covered.0 changes clear.0.seen clear.0.clear
    by false changes is rest = rest is

-- a write set that is judged a commit has passed
commit_passed : (s : FoldState) (member : ℕ) (body : List ℕ) (w : WriteSet) → decoded body ≡ Some w
    → judged s (Write member body) ≡ became.Commit → HasPassed s w
unfolding judged
commit_passed s member body w read is =
    taken-passed s member w
    (subst (λ (j : Judged). IsTaken (effect_of j)) (sym (ap (judged_write s member) (sym read) ∙ is)) tt)

inside_order : (order : List Event) (n : ℕ) (event : Event) → slice_get order n ≡ Some event → n ≤ length order
inside_order [] n event there = cc
inside_order (e ∷ es) zero event there = omega arith
inside_order (e ∷ es) (suc n) event there = omega (arith, inside_order es n event there)

pub rows_seen : RowsAreAsSeen
rows_seen order n member body w id seen there read is first =
    let s = state_at order n in
    let fits = inside_order order n (Write member body) there in
    let saw = first_saw s id w seen (decoded_covered body w read) (commit_passed s member body w read is) (fragments_of s (trx_of w))
    (fragments_covered s (trx_of w) (open_covered order n)) ((open_stay order n).clear (trx_of w)) first in
    let number : s.number ≡ n = number-at order n fits in
    row_as_seen order id saw.keys saw.own seen n (omega (arith, number, saw.past)) fits saw.clear
