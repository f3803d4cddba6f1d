-- Rows have names in their form, and commits have keys in their form, in each state of an order.
use Rattle.std.proofs.Common.{◌≡◌, ℕ, zero, suc, ◌+◌, ◌<◌, ◌≤◌, Bool, true, false, cond, List, [], ◌∷◌, ◌++◌, length, map, Option, Some, None, refl, ap}
use Rattle.std.specs.Prelude.{◌&&◌, nat_lt, nat_le, slice_get, slice_index, fold, flat_map}
use Rattle.std.specs.List.{filter, list_all, AllByRecursion}
use Rattle.std.proofs.lemmas.Bool.{le-leb}
use Rattle.finite_map.specs.FiniteMap.{empty, get, remove, len}
use Rattle.finite_map.proofs.Edits.{IsKeyOrder}
use Rattle.key_sets.specs.declared.kind.Kind.{Kind}
use Rattle.key_sets.specs.declared.parts.Parts.{Parts}
use Rattle.key_sets.specs.Kinds.{raised}
use Rattle.key_sets.specs.Parts.{parts_cmp}
use Rattle.key_sets.specs.Keys.{Keys, LIMIT, with_key, with_keys, union}
use Rattle.key_sets.proofs.PartsLemmas.{parts_total, parts_exact}
use Rattle.row_model.specs.declared.ops.Op.{Op}
use Rattle.row_model.specs.declared.ops.Op.TheVariants.{Insert, Update, Delete}
use Rattle.row_model.specs.declared.row.RowId.{RowId}
use Rattle.row_model.specs.declared.row.RowItem.{RowItem}
use Rattle.row_model.specs.Rows.{Rows, row_cmp, row_after, id_of, with_row, op_on, ops_on}
use Rattle.row_model.specs.RowOrder.{row_total, row_exact}
use Rattle.order_event.specs.declared.event.Event.{Event}
use Rattle.order_event.specs.declared.event.Event.TheVariants.{Write, View, Report}
use Rattle.write_set.specs.declared.write_set.WriteSet.{WriteSet}
use Rattle.write_set.specs.declared.rules.TheConstants.{MOST_OPS}
use Rattle.write_set.specs.Laws.{AreKeys, AreOps}
use Rattle.write_set.specs.Rules.{place_fits, op_fits, parts_fit}
use Rattle.write_set.specs.Reading.{decoded}
use Rattle.write_set.proofs.RulesOf.{both, and}
use Rattle.cert_meaning.specs.declared.items.CommitItem.{CommitItem}
use Rattle.cert_meaning.specs.declared.items.Fragment.{Fragment}
use Rattle.cert_meaning.specs.declared.members.Standing.{Standing}
use Rattle.cert_meaning.specs.State.{FoldState, no_events, fragments_of, fragment_keys, whole_keys, whole_ops}
use Rattle.cert_meaning.specs.Verdict.{trx_of}
use Rattle.cert_meaning.specs.Fold.{Effect, Same, Closes, Adds, Commits, effect_of, judged_write, affected, written, commit_by, reported, changed_by, after, after_next, state_at}
use Rattle.cert_meaning.proofs.VerdictLaws.{IsTaken, taken-passed}
use Rattle.state_snapshot.specs.Rules.{FragmentObeys}
use Rattle.state_snapshot.proofs.Points.{HoldsAtEach, HaveTheirForm}
use Rattle.state_snapshot.proofs.Entries.{all_insert, all_kept}
use Rattle.state_snapshot.proofs.StateLaws.{row_item}
use Rattle.state_snapshot.proofs.TrxLaws.{SetObeys, set_obeys, AllGood, before, good_at}

-- ---- rows

rows_order : IsKeyOrder row_cmp
rows_order = record { total = row_total; exact = row_exact }

abbrev IsNamed : RowId × List ℕ → Type 0
IsNamed entry = place_fits entry.0 ≡ true

abbrev AreNamed : Rows → Type 0
AreNamed rows = AllByRecursion IsNamed rows.entries

abbrev NameRows : List Op → Type 0
NameRows ops = AllByRecursion (λ (op : Op). place_fits (id_of op) ≡ true) ops

op_names : (op : Op) → op_fits op ≡ true → place_fits (id_of op) ≡ true
op_names (Insert id values) h = h
op_names (Update id change) h = (both (place_fits id) _ h).0
op_names (Delete id) h = h

all_name : (ops : List Op) → list_all op_fits ops ≡ true → NameRows ops
all_name [] h = tt
all_name (op ∷ ops) h = let each = both (op_fits op) (list_all op_fits ops) h in (op_names op each.0, all_name ops each.1)

ops_name : (ops : List Op) → AreOps ops → NameRows ops
ops_name ops fit = all_name ops (both (nat_le (length ops) MOST_OPS) (list_all op_fits ops) fit).1

names_append : (ops more : List Op) → NameRows ops → NameRows more → NameRows (ops ++ more)
names_append [] more one other = other
names_append (op ∷ ops) more one other = (one.0, names_append ops more one.1 other)

fragments_name : (fragments : List Fragment) → AllByRecursion FragmentObeys fragments
    → NameRows (flat_map (λ (fragment : Fragment). fragment.ops) fragments)
fragments_name [] each = tt
fragments_name (fragment ∷ fragments) each =
    names_append fragment.ops (flat_map (λ (other : Fragment). other.ops) fragments) (ops_name fragment.ops each.0.1) (fragments_name fragments each.1)

row_named : (rows : Rows) (id : RowId) (row : Option (List ℕ)) → place_fits id ≡ true → AreNamed rows → AreNamed (with_row rows id row)
unfolding remove
row_named rows id None fits all =
    all_kept rows_order IsNamed _ IsNamed (λ entry named kept. named) rows all
row_named rows id (Some row) fits all = all_insert rows_order IsNamed rows id row fits all

rows_named : (ops : List Op) (rows : Rows) → NameRows ops → AreNamed rows → AreNamed (ops_on ops rows)
unfolding ops_on
rows_named [] rows names all = all
rows_named (op ∷ ops) rows names all =
    rows_named ops (op_on rows op) names.1 (row_named rows (id_of op) (row_after (get rows (id_of op)) op) names.0 all)

-- ---- keys

keys_order : IsKeyOrder parts_cmp
keys_order = record { total = parts_total; exact = parts_exact }

abbrev HasForm : Parts × Kind → Type 0
HasForm key = parts_fit key.0 ≡ true

abbrev HaveForm : Keys → Type 0
HaveForm keys = AllByRecursion HasForm keys.entries

each_has : (keys : List (Parts × Kind)) → list_all (λ (key : Parts × Kind). parts_fit key.0) keys ≡ true → AllByRecursion HasForm keys
each_has [] h = tt
each_has (key ∷ keys) h =
    let each = both (parts_fit key.0) (list_all (λ (other : Parts × Kind). parts_fit other.0) keys) h in (each.0, each_has keys each.1)

all_have : (keys : List (Parts × Kind)) → AllByRecursion HasForm keys → list_all (λ (key : Parts × Kind). parts_fit key.0) keys ≡ true
all_have [] each = refl
all_have (key ∷ keys) each =
    and (parts_fit key.0) (list_all (λ (other : Parts × Kind). parts_fit other.0) keys) each.0 (all_have keys each.1)

added : (keys : Keys) (more : List (Parts × Kind)) → HaveForm keys → AllByRecursion HasForm more → HaveForm (with_keys keys more)
unfolding with_keys with_key
added keys [] all each = all
added keys (key ∷ more) all each =
    added (with_key keys key.0 key.1) more (all_insert keys_order HasForm keys key.0 (raised (get keys key.0) key.1) each.0 all) each.1

joined : (keys : Keys) (fragments : List Fragment) → HaveForm keys → AllByRecursion FragmentObeys fragments
    → HaveForm (fold (λ (all : Keys) (fragment : Fragment). union all fragment.keys) keys fragments)
joined keys [] all each = all
joined keys (fragment ∷ fragments) all each =
    joined (union keys fragment.keys) fragments (added keys fragment.keys.entries all (each_has fragment.keys.entries each.0.0.1)) each.1

whole_form : (fragments : List Fragment) (keys : Keys) → AllByRecursion FragmentObeys fragments → AreKeys keys
    → len (whole_keys fragments keys) ≤ LIMIT → AreKeys (whole_keys fragments keys)
unfolding empty
whole_form fragments keys each are few =
    let front : HaveForm (fragment_keys fragments) = joined empty fragments tt each in
    let all = added (fragment_keys fragments) keys.entries front (each_has keys.entries are.1) in
    (le-leb (len (whole_keys fragments keys)) LIMIT few, all_have (whole_keys fragments keys).entries all)

-- ---- one event

abbrev AreKeyed : List CommitItem → Type 0
AreKeyed commits = AllByRecursion (λ (commit : CommitItem). AreKeys commit.keys) commits

one_more : (commits : List CommitItem) (commit : CommitItem) → AreKeyed commits → AreKeys commit.keys → AreKeyed (commits ++ commit ∷ [])
one_more [] commit all one = (one, tt)
one_more (other ∷ commits) commit all one = (all.0, one_more commits commit all.1 one)

pub record HasForms (s : FoldState) : Type 0 where
  pub named : AreNamed s.rows
  pub keyed : AreKeyed s.commits

module _ (s : FoldState) (all : AllGood s.number s.members s.open_trx) (forms : HasForms s) where
  by_effect : (member : ℕ) (w : WriteSet) (effect : Effect) → SetObeys w
      → (IsTaken effect → len (whole_keys (fragments_of s (trx_of w)) w.keys) ≤ LIMIT) → HasForms (affected s w effect)
  by_effect member w Same obeys fits = forms
  by_effect member w Closes obeys fits = record { named = forms.named; keyed = forms.keyed }
  by_effect member w Adds obeys fits = record { named = forms.named; keyed = forms.keyed }
  by_effect member w Commits obeys fits =
      let trx = trx_of w in
      let front = fragments_of s trx in
      let order = before s all trx in
      record {
        named = rows_named (whole_ops front w.ops) s.rows
            (names_append (flat_map (λ (fragment : Fragment). fragment.ops) front) w.ops (fragments_name front order.each) (ops_name w.ops obeys.1)) forms.named;
        keyed = one_more s.commits (commit_by s w) forms.keyed (whole_form front w.keys order.each obeys.0 (fits tt));
      }

  by_write : (member : ℕ) (body : List ℕ) (o : Option WriteSet) → ((i : ℕ) → slice_index body i < 256) → decoded body ≡ o
      → HasForms (written s member o)
  by_write member body None fits is = forms
  by_write member body (Some w) fits is =
      by_effect member w (effect_of (judged_write s member (Some w))) (set_obeys body w fits is) (λ taken.
      let passed = taken-passed s member w taken in passed.fits)

  chosen : (b : Bool) (t : FoldState) → HasForms t → HasForms (cond b t s)
  chosen true t one = one
  chosen false t one = forms

  by_report : (member number : ℕ) (o : Option Standing) → HasForms (reported s member number o)
  by_report member number None = forms
  by_report member number (Some standing) =
      chosen (nat_le standing.report number && nat_lt number (s.number + 1)) _ (record { named = forms.named; keyed = forms.keyed })

  by_event : (event : Event) → ((member : ℕ) (body : List ℕ) → event ≡ Write member body → (i : ℕ) → slice_index body i < 256)
      → HasForms (changed_by s event)
  by_event (Write member body) fits = by_write member body (decoded body) (fits member body refl) refl
  by_event (View version members) fits = record { named = forms.named; keyed = forms.keyed }
  by_event (Report member number) fits = by_report member number (get s.members member)

  forms_after : (event : Event) → ((member : ℕ) (body : List ℕ) → event ≡ Write member body → (i : ℕ) → slice_index body i < 256)
      → HasForms (after s event)
  unfolding after
  forms_after event fits = let is = by_event event fits in record { named = is.named; keyed = is.keyed }

forms_next : (s : FoldState) (o : Option Event) → ((member : ℕ) (body : List ℕ) → o ≡ Some (Write member body) → (i : ℕ) → slice_index body i < 256)
    → AllGood s.number s.members s.open_trx → HasForms s → HasForms (after_next s o)
forms_next s None fits all forms = forms
forms_next s (Some event) fits all forms = forms_after s all forms event (λ member body is. fits member body (ap Some is))

forms_at : (order : List Event) (n : ℕ)
    → ((k member : ℕ) (body : List ℕ) → slice_get order k ≡ Some (Write member body) → (i : ℕ) → slice_index body i < 256)
    → HasForms (state_at order n)
unfolding state_at no_events empty
forms_at order zero fits = record { named = tt; keyed = tt }
forms_at order (suc n) fits = forms_next (state_at order n) (slice_get order n) (fits n) (good_at order n fits) (forms_at order n fits)

-- ---- the rules of a snapshot

items_named : (entries : List (RowId × List ℕ)) → AllByRecursion IsNamed entries
    → AllByRecursion (λ (item : RowItem). place_fits item.id ≡ true) (map row_item entries)
items_named [] all = tt
items_named (entry ∷ entries) all = (all.0, items_named entries all.1)

kept_by : (b : Bool) (commit : CommitItem) (rest : List CommitItem) → AreKeys commit.keys → AreKeyed rest → AreKeyed (cond b (commit ∷ rest) rest)
kept_by true commit rest one all = (one, all)
kept_by false commit rest one all = all

kept_keyed : (floor : ℕ) (commits : List CommitItem) → AreKeyed commits → AreKeyed (filter (λ (commit : CommitItem). nat_lt floor commit.number) commits)
kept_keyed floor [] all = tt
kept_keyed floor (commit ∷ commits) all = kept_by (nat_lt floor commit.number) commit _ all.0 (kept_keyed floor commits all.1)

pub have_their_form : HoldsAtEach HaveTheirForm
have_their_form order n there few fits =
    let s = state_at order n in
    let forms = forms_at order n fits.bodies in
    (items_named s.rows.entries forms.named, kept_keyed s.floor s.commits forms.keyed)
