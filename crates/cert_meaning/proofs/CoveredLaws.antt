-- Each change that an event commits is covered by a key of its commit; and a row that a key covers stays over an event whose
-- commit does not conflict with that key.
use Rattle.std.proofs.Common.{◌≡◌, ℕ, zero, suc, ◌+◌, ◌≢◌, Bool, true, false, cond, ◌||◌, ◌&&◌, List, [], ◌∷◌, ◌++◌, length, Option, None, Some, Result, Ok, Err, refl, ap, sym, subst, ◌∙◌, true≢false}
use Rattle.std.specs.Prelude.{◌==◌, not, is_some, is_none, IfOk, slice_get, unwrap_or, fold, flat_map}
use Rattle.std.specs.List.{list_any}
use Rattle.std.specs.Result.{result_ok}
use Rattle.std.specs.Ordering.{eq_by_cmp}
use Rattle.std.proofs.lemmas.Option.{same_Some}
use Rattle.std.proofs.lemmas.Bool.{false_from_ne_true}
use Rattle.finite_map.specs.FiniteMap.{FiniteMap, empty, get, retain_keys, len, get-empty, get-insert, get-remove, get-retain_keys}
use Rattle.finite_map.proofs.Edits.{each_put, each_left}
use Rattle.wsrep_base.specs.declared.ids.TrxId.{TrxId}
use Rattle.wsrep_base.specs.Trx.{trx_cmp}
use Rattle.key_sets.specs.declared.kind.Kind.{Kind}
use Rattle.key_sets.specs.declared.kind.Kind.TheVariants as kind
use Rattle.key_sets.specs.declared.parts.Parts.{Parts}
use Rattle.key_sets.specs.Parts.{table_of}
use Rattle.key_sets.specs.Keys.{Keys, union, conflicts}
use Rattle.key_sets.specs.Meeting.{covers}
use Rattle.key_sets.specs.Meeting as meeting
use Rattle.key_sets.proofs.KeyLaws.{covers-union, conflicts_from_covers}
use Rattle.row_model.specs.declared.row.RowId.{RowId}
use Rattle.row_model.specs.declared.ops.Op.{Op}
use Rattle.row_model.specs.Rows.{Rows, row_cmp, row_after, id_of, with_row, op_on, ops_on}
use Rattle.row_model.specs.RowOrder.{row_total, row_tied}
use Rattle.order_event.specs.declared.event.Event.{Event}
use Rattle.order_event.specs.declared.event.Event.TheVariants.{Write, View, Report}
use Rattle.write_set.specs.declared.fault.WsFault.{WsFault}
use Rattle.write_set.specs.declared.fault.WsFault.TheVariants.{Trailing}
use Rattle.write_set.specs.declared.write_set.WriteSet.{WriteSet}
use Rattle.write_set.specs.Rules as rules
use Rattle.write_set.specs.Rules.{row_parts, is_update, is_covered, uncovered_from}
use Rattle.write_set.specs.Reading.{◌>>=◌, refuse, header_at, keys_at, ops_at, read, decoded, covered, finished, write_set_of}
use Rattle.write_set.specs.Place.{place_in}
use Rattle.cert_meaning.specs.declared.items.CommitItem.{CommitItem}
use Rattle.cert_meaning.specs.declared.items.Fragment.{Fragment}
use Rattle.cert_meaning.specs.declared.members.Standing.{Standing}
use Rattle.cert_meaning.specs.State.{FoldState, no_events, fragments_of, fragment_keys, whole_keys, whole_ops}
use Rattle.cert_meaning.specs.Verdict.{trx_of}
use Rattle.cert_meaning.specs.Fold.{Effect, Same, Closes, Adds, Commits, effect_of, judged_write, affected, written, reported, changed_by, after, after_next, state_at, fragment_by, commit_of, commit_made, commit_written, committed_ops, ops_of, ops_by, ops_written}
use Rattle.cert_meaning.proofs.FoldLaws.{rows-next}
use Rattle.cert_meaning.proofs.TrxLemmas.{transactions, trx_exact}

-- ---- changes that keys cover
-- each change is covered by a key
abbrev pub AllCovered : Keys → List Op → Type 0
AllCovered keys [] = Unit {0}
AllCovered keys (op ∷ ops) = (covers keys (row_parts (id_of op)) ≡ true) × AllCovered keys ops

or_left : (a b : Bool) → a ≡ true → a || b ≡ true
or_left true b h = refl
or_left false b h = cc

or_right : (a b : Bool) → b ≡ true → a || b ≡ true
or_right true b h = refl
or_right false b h = h

covered_by : (u : Bool) (row table : Option Kind) → (rules.is_exclusive row || (u && rules.is_update_kind row)) || rules.is_exclusive table ≡ true
    → meeting.is_change row || meeting.is_exclusive table ≡ true
covered_by u row (Some kind.Exclusive) h = or_right (meeting.is_change row) true refl
covered_by u (Some kind.Exclusive) table h = refl
covered_by u (Some kind.Update) table h = refl
covered_by true (Some kind.Shared) None h = cc
covered_by true (Some kind.Shared) (Some kind.Shared) h = cc
covered_by true (Some kind.Shared) (Some kind.Update) h = cc
covered_by false (Some kind.Shared) None h = cc
covered_by false (Some kind.Shared) (Some kind.Shared) h = cc
covered_by false (Some kind.Shared) (Some kind.Update) h = cc
covered_by true None None h = cc
covered_by true None (Some kind.Shared) h = cc
covered_by true None (Some kind.Update) h = cc
covered_by false None None h = cc
covered_by false None (Some kind.Shared) h = cc
covered_by false None (Some kind.Update) h = cc

-- a change that the rules count as covered is in a row that the keys cover
pub covers_from_rules : (keys : Keys) (op : Op) → is_covered keys op ≡ true → covers keys (row_parts (id_of op)) ≡ true
covers_from_rules keys op h = covered_by (is_update op) (get keys (row_parts (id_of op))) (get keys (table_of (row_parts (id_of op)))) h

first_covered : (at : ℕ) (keys : Keys) (op : Op) (ops : List Op) (b : Bool) → is_covered keys op ≡ b
    → is_none (cond b (uncovered_from (at + 1) keys ops) (Some at)) ≡ true
    → (is_none (uncovered_from (at + 1) keys ops) ≡ true → AllCovered keys ops) → AllCovered keys (op ∷ ops)
first_covered at keys op ops true here none rest = (covers_from_rules keys op here, rest none)
first_covered at keys op ops false here none rest = cc

pub all_from_rules : (at : ℕ) (keys : Keys) (ops : List Op) → is_none (uncovered_from at keys ops) ≡ true → AllCovered keys ops
all_from_rules at keys [] none = tt
all_from_rules at keys (op ∷ ops) none = first_covered at keys op ops (is_covered keys op) refl none (all_from_rules (at + 1) keys ops)

pub all-append : (keys : Keys) (xs ys : List Op) → AllCovered keys xs → AllCovered keys ys → AllCovered keys (xs ++ ys)
all-append keys [] ys one other = other
all-append keys (x ∷ xs) ys one other = (one.0, all-append keys xs ys one.1 other)

-- more keys cover what fewer cover
pub all_wider : (a b : Keys) → ((p : Parts) → covers a p ≡ true → covers b p ≡ true) → (ops : List Op) → AllCovered a ops → AllCovered b ops
all_wider a b wider [] all = tt
all_wider a b wider (op ∷ ops) all = (wider (row_parts (id_of op)) all.0, all_wider a b wider ops all.1)

-- ---- bytes that are read
-- what holds of all that the rest gives holds of what is given
if_ok : {A B : Type 0} (P : B → Type 0) (r : Result A WsFault) (f : A → Result B WsFault) → ((x : A) → IfOk (f x) P) → IfOk (r >>= f) P
if_ok P (Ok x) f rest = rest x
if_ok P (Err fault) f rest = tt

abbrev IsCovered : WriteSet → Type 0
IsCovered w = is_none (uncovered_from 0 w.keys w.ops) ≡ true

covered_end : (w : WriteSet) (bad : Option ℕ) → bad ≡ uncovered_from 0 w.keys w.ops → IfOk (covered bad >>= λ _. Ok w) IsCovered
covered_end w None is = ap is_none (sym is)
covered_end w (Some at) is = tt

finished_covered : (h : _) (keys : Keys) (ops : List Op) → IfOk (finished h keys ops) IsCovered
unfolding finished
finished_covered h keys ops = covered_end (write_set_of h keys ops) (uncovered_from 0 keys ops) refl

read_if : (bytes : List ℕ) → IfOk (read bytes) IsCovered
unfolding read
read_if bytes =
    if_ok IsCovered (header_at (place_in bytes 0)) _ (λ head.
    if_ok IsCovered (keys_at head.1) _ (λ keys.
    if_ok IsCovered (ops_at (head.0.flags == 4) (not (len keys.0 == 0)) keys.1) _ (λ ops.
    if_ok IsCovered (refuse (not (length ops.1.left == 0)) (Trailing ops.1.at)) _ (λ ended. finished_covered head.0 keys.0 ops.0))))

read_covered : (bytes : List ℕ) (w : WriteSet) → read bytes ≡ Ok w → is_none (uncovered_from 0 w.keys w.ops) ≡ true
read_covered bytes w e = subst (λ (r : Result WriteSet WsFault). IfOk r IsCovered) e (read_if bytes)

decoded_read : (r : Result WriteSet WsFault) (w : WriteSet) → result_ok r ≡ Some w → r ≡ Ok w
decoded_read (Ok v) w is = ap (λ o. Ok (unwrap_or o v)) is
decoded_read (Err fault) w is = cc

-- the changes of a write set that is read are covered by its keys
pub decoded_covered : (body : List ℕ) (w : WriteSet) → decoded body ≡ Some w → AllCovered w.keys w.ops
decoded_covered body w is = all_from_rules 0 w.keys w.ops (read_covered body w (decoded_read (read body) w is))

-- ---- fragments of open transactions
-- each fragment's changes are covered by its keys
abbrev pub FragmentsCovered : List Fragment → Type 0
FragmentsCovered [] = Unit {0}
FragmentsCovered (f ∷ fs) = AllCovered f.keys f.ops × FragmentsCovered fs

abbrev Covers : TrxId → List Fragment → Type 0
Covers trx fs = FragmentsCovered fs

abbrev pub OpenCovered : FiniteMap trx_cmp (List Fragment) → Type 0
OpenCovered opened = (trx : TrxId) (fs : List Fragment) → get opened trx ≡ Some fs → FragmentsCovered fs

fragments-append : (fs gs : List Fragment) → FragmentsCovered fs → FragmentsCovered gs → FragmentsCovered (fs ++ gs)
fragments-append [] gs one other = other
fragments-append (f ∷ fs) gs one other = (one.0, fragments-append fs gs one.1 other)

option_covered : (o : Option (List Fragment)) → ((fs : List Fragment) → o ≡ Some fs → FragmentsCovered fs) → FragmentsCovered (unwrap_or o [])
option_covered None all = tt
option_covered (Some fs) all = all fs refl

kept_covered : (b : Bool) (gs : List Fragment) (o : Option (List Fragment)) → cond b o None ≡ Some gs
    → (o ≡ Some gs → FragmentsCovered gs) → FragmentsCovered gs
kept_covered true gs o is there = there is
kept_covered false gs o is there = cc

retained_covered : (opened : FiniteMap trx_cmp (List Fragment)) (test : TrxId → Bool) → OpenCovered opened → OpenCovered (retain_keys opened test)
retained_covered opened test all q gs is =
    kept_covered (test q) gs (get opened q) (sym (get-retain_keys opened test q (λ x same. ap test (sym (trx_exact q x same)))) ∙ is) (all q gs)

-- ---- the fold keeps it
pub fragments_covered : (s : FoldState) (trx : TrxId) → OpenCovered s.open_trx → FragmentsCovered (fragments_of s trx)
fragments_covered s trx all = option_covered (get s.open_trx trx) (all trx)

affected_covered : (s : FoldState) (w : WriteSet) (effect : Effect) → AllCovered w.keys w.ops → OpenCovered s.open_trx
    → OpenCovered (affected s w effect).open_trx
affected_covered s w Same own all = all
affected_covered s w Closes own all = each_left transactions s.open_trx (trx_of w) Covers all
affected_covered s w Adds own all =
    each_put transactions s.open_trx (trx_of w) Covers all (fragments_of s (trx_of w) ++ fragment_by s w ∷ [])
    (fragments-append (fragments_of s (trx_of w)) (fragment_by s w ∷ []) (fragments_covered s (trx_of w) all) (own, tt))
affected_covered s w Commits own all = each_left transactions s.open_trx (trx_of w) Covers all

written_covered : (s : FoldState) (member : ℕ) (body : List ℕ) (o : Option WriteSet) → decoded body ≡ o → OpenCovered s.open_trx
    → OpenCovered (written s member o).open_trx
written_covered s member body None is all = all
written_covered s member body (Some w) is all =
    affected_covered s w (effect_of (judged_write s member (Some w))) (decoded_covered body w is) all

chosen_covered : (b : Bool) (s t : FoldState) → s.open_trx ≡ t.open_trx → OpenCovered t.open_trx → OpenCovered (cond b s t).open_trx
chosen_covered true s t same all = subst OpenCovered (sym same) all
chosen_covered false s t same all = all

reported_covered : (s : FoldState) (member number : ℕ) (o : Option Standing) → OpenCovered s.open_trx → OpenCovered (reported s member number o).open_trx
reported_covered s member number None all = all
reported_covered s member number (Some standing) all = chosen_covered _ _ s refl all

changed_covered : (s : FoldState) (e : Event) → OpenCovered s.open_trx → OpenCovered (changed_by s e).open_trx
changed_covered s (Write member body) all = written_covered s member body (decoded body) refl all
changed_covered s (View version members) all =
    retained_covered s.open_trx (λ trx. list_any (λ member. member == trx.member) members) all
changed_covered s (Report member number) all = reported_covered s member number (get s.members member) all

after_covered : (s : FoldState) (e : Event) → OpenCovered s.open_trx → OpenCovered (after s e).open_trx
unfolding after
after_covered s e all = changed_covered s e all

next_covered : (s : FoldState) (o : Option Event) → OpenCovered s.open_trx → OpenCovered (after_next s o).open_trx
next_covered s None all = all
next_covered s (Some e) all = after_covered s e all

-- the changes of each fragment of an open transaction are covered by its keys
pub open_covered : (order : List Event) (n : ℕ) → OpenCovered (state_at order n).open_trx
unfolding state_at no_events
open_covered order zero trx fs is = absurd (true≢false (ap is_some (sym is ∙ get-empty trx_cmp trx)))
open_covered order (suc n) trx fs is = next_covered (state_at order n) (slice_get order n) (open_covered order n) trx fs is

-- ---- a commit covers what it changes
abbrev joined_keys : Keys → List Fragment → Keys
joined_keys keys fs = fold (λ (all : Keys) (f : Fragment). union all f.keys) keys fs

joined_wider : (keys : Keys) (fs : List Fragment) (p : Parts) → covers keys p ≡ true → covers (joined_keys keys fs) p ≡ true
joined_wider keys [] p h = h
joined_wider keys (f ∷ fs) p h =
    joined_wider (union keys f.keys) fs p (covers-union keys f.keys p ∙ or_left (covers keys p) (covers f.keys p) h)

joined_covered : (keys : Keys) (fs : List Fragment) → FragmentsCovered fs
    → AllCovered (joined_keys keys fs) (flat_map (λ (f : Fragment). f.ops) fs)
joined_covered keys [] all = tt
joined_covered keys (f ∷ fs) all =
    all-append (joined_keys (union keys f.keys) fs) f.ops (flat_map (λ (g : Fragment). g.ops) fs)
    (all_wider f.keys (joined_keys (union keys f.keys) fs)
    (λ p h. joined_wider (union keys f.keys) fs p (covers-union keys f.keys p ∙ or_right (covers keys p) (covers f.keys p) h)) f.ops all.0)
    (joined_covered (union keys f.keys) fs all.1)

-- the whole keys of a transaction cover its whole changes
pub whole_covered : (fs : List Fragment) (keys : Keys) (ops : List Op) → FragmentsCovered fs → AllCovered keys ops
    → AllCovered (whole_keys fs keys) (whole_ops fs ops)
whole_covered fs keys ops fragments own =
    all-append (whole_keys fs keys) (flat_map (λ (f : Fragment). f.ops) fs) ops
    (all_wider (fragment_keys fs) (whole_keys fs keys)
    (λ p h. covers-union (fragment_keys fs) keys p ∙ or_left (covers (fragment_keys fs) p) (covers keys p) h)
    (flat_map (λ (f : Fragment). f.ops) fs) (joined_covered empty fs fragments))
    (all_wider keys (whole_keys fs keys)
    (λ p h. covers-union (fragment_keys fs) keys p ∙ or_right (covers (fragment_keys fs) p) (covers keys p) h) ops own)

item_or : CommitItem → Option CommitItem → CommitItem
item_or c None = c
item_or c (Some d) = d

made_covered : (s : FoldState) (w : WriteSet) (effect : Effect) (c : CommitItem) (ops : List Op) → AllCovered w.keys w.ops → OpenCovered s.open_trx
    → commit_made s w effect ≡ Some c → ops_by s w effect ≡ Some ops → AllCovered c.keys ops
made_covered s w Same c ops own all is changes = cc
made_covered s w Closes c ops own all is changes = cc
made_covered s w Adds c ops own all is changes = cc
made_covered s w Commits c ops own all is changes =
    subst (λ (d : CommitItem). AllCovered d.keys ops) (same_Some _ c is)
    (subst (AllCovered (whole_keys (fragments_of s (trx_of w)) w.keys)) (same_Some (whole_ops (fragments_of s (trx_of w)) w.ops) ops changes)
    (whole_covered (fragments_of s (trx_of w)) w.keys w.ops (fragments_covered s (trx_of w) all) own))

write_covered : (s : FoldState) (member : ℕ) (body : List ℕ) (o : Option WriteSet) (c : CommitItem) (ops : List Op) → decoded body ≡ o
    → OpenCovered s.open_trx → commit_written s member o ≡ Some c → ops_written s member o ≡ Some ops → AllCovered c.keys ops
write_covered s member body None c ops read all is changes = cc
write_covered s member body (Some w) c ops read all is changes =
    made_covered s w (effect_of (judged_write s member (Some w))) c ops (decoded_covered body w read) all is changes

event_covered : (s : FoldState) (e : Event) (c : CommitItem) (ops : List Op) → OpenCovered s.open_trx → commit_of s e ≡ Some c
    → committed_ops s e ≡ Some ops → AllCovered c.keys ops
unfolding commit_of committed_ops
event_covered s (Write member body) c ops all is changes = write_covered s member body (decoded body) c ops refl all is changes
event_covered s (View version members) c ops all is changes = cc
event_covered s (Report member number) c ops all is changes = cc

-- the changes that an event of the order commits are covered by the keys of its commit
pub commit_covered : (order : List Event) (n : ℕ) (e : Event) (c : CommitItem) (ops : List Op) → commit_of (state_at order n) e ≡ Some c
    → committed_ops (state_at order n) e ≡ Some ops → AllCovered c.keys ops
commit_covered order n e c ops is changes = event_covered (state_at order n) e c ops (open_covered order n) is changes

-- ---- rows that stay
-- no change names the row
abbrev NoneNames : RowId → List Op → Type 0
NoneNames id [] = Unit {0}
NoneNames id (op ∷ ops) = (id_of op ≢ id) × NoneNames id ops

untied : (id other : RowId) → other ≢ id → eq_by_cmp row_cmp id other ≡ false
untied id other differs = false_from_ne_true _ (λ same. differs (sym (row_tied id other same)))

row_stays : (rows : Rows) (id other : RowId) (row : Option (List ℕ)) → other ≢ id → get (with_row rows other row) id ≡ get rows id
row_stays rows id other None differs =
    get-remove row_total rows other id ∙ ap (λ b. cond b None (get rows id)) (untied id other differs)
row_stays rows id other (Some row) differs =
    get-insert row_total rows other row id ∙ ap (λ b. cond b (Some row) (get rows id)) (untied id other differs)

-- changes of other rows leave a row as it is
pub row_kept : (ops : List Op) (rows : Rows) (id : RowId) → NoneNames id ops → get (ops_on ops rows) id ≡ get rows id
unfolding ops_on
row_kept [] rows id none = refl
row_kept (op ∷ ops) rows id none =
    row_kept ops (op_on rows op) id none.1 ∙ row_stays rows id (id_of op) (row_after (get rows (id_of op)) op) none.0

none_made : (s : FoldState) (w : WriteSet) (effect : Effect) → commit_made s w effect ≡ None → ops_by s w effect ≡ None
none_made s w Same is = refl
none_made s w Closes is = refl
none_made s w Adds is = refl
none_made s w Commits is = cc

none_written : (s : FoldState) (member : ℕ) (w : Option WriteSet) → commit_written s member w ≡ None → ops_written s member w ≡ None
none_written s member None is = refl
none_written s member (Some w) is = none_made s w (effect_of (judged_write s member (Some w))) is

-- an event that makes no commit commits no change
pub no_ops : (s : FoldState) (e : Event) → commit_of s e ≡ None → committed_ops s e ≡ None
unfolding commit_of committed_ops
no_ops s (Write member body) is = none_written s member (decoded body) is
no_ops s (View version members) is = refl
no_ops s (Report member number) is = refl

some_made : (s : FoldState) (w : WriteSet) (effect : Effect) (c : CommitItem) → commit_made s w effect ≡ Some c
    → (ops : List Op) × (ops_by s w effect ≡ Some ops)
some_made s w Same c is = cc
some_made s w Closes c is = cc
some_made s w Adds c is = cc
some_made s w Commits c is = (_, refl)

some_written : (s : FoldState) (member : ℕ) (w : Option WriteSet) (c : CommitItem) → commit_written s member w ≡ Some c
    → (ops : List Op) × (ops_written s member w ≡ Some ops)
some_written s member None c is = cc
some_written s member (Some w) c is = some_made s w (effect_of (judged_write s member (Some w))) c is

-- and one that makes a commit commits its changes
pub some_ops : (s : FoldState) (e : Event) (c : CommitItem) → commit_of s e ≡ Some c → (ops : List Op) × (committed_ops s e ≡ Some ops)
unfolding commit_of committed_ops
some_ops s (Write member body) c is = some_written s member (decoded body) c is
some_ops s (View version members) c is = cc
some_ops s (Report member number) c is = cc

-- changes that keys cover name no row that keys which do not conflict with those cover
untouched : (a b : Keys) (id : RowId) (ops : List Op) → conflicts a b ≡ false → covers b (row_parts id) ≡ true → AllCovered a ops → NoneNames id ops
untouched a b id [] apart own all = tt
untouched a b id (op ∷ ops) apart own all = (
  λ same. true≢false (sym
      (conflicts_from_covers a b (row_parts id) id.row refl (subst (λ (r : RowId). covers a (row_parts r) ≡ true) same all.0) own) ∙ apart),
  untouched a b id ops apart own all.1,
)

-- what an event does to a row that keys cover, by the commit that it makes
kept_by : (order : List Event) (k : ℕ) (e : Event) (keys : Keys) (id : RowId) (commit : Option CommitItem)
    → commit_of (state_at order k) e ≡ commit → covers keys (row_parts id) ≡ true
    → ((c : CommitItem) → commit ≡ Some c → conflicts c.keys keys ≡ false)
    → get (ops_on (ops_of (state_at order k) e) (state_at order k).rows) id ≡ get (state_at order k).rows id
unfolding ops_on
kept_by order k e keys id None is own clear =
    ap (λ (o : Option (List Op)). get (ops_on (unwrap_or o []) (state_at order k).rows) id) (no_ops (state_at order k) e is)
kept_by order k e keys id (Some c) is own clear =
    let ops = some_ops (state_at order k) e c is in
    ap (λ (o : Option (List Op)). get (ops_on (unwrap_or o []) (state_at order k).rows) id) ops.1
    ∙ row_kept ops.0 (state_at order k).rows id
    (untouched c.keys keys id ops.0 (clear c refl) own (commit_covered order k e c ops.0 is ops.1))

-- a row that keys cover stays over an event whose commit, if it makes one, does not conflict with them
pub row_stays_over : (order : List Event) (k : ℕ) (e : Event) (keys : Keys) (id : RowId) → slice_get order k ≡ Some e
    → covers keys (row_parts id) ≡ true
    → ((c : CommitItem) → commit_of (state_at order k) e ≡ Some c → conflicts c.keys keys ≡ false)
    → get (state_at order (k + 1)).rows id ≡ get (state_at order k).rows id
row_stays_over order k e keys id there own clear =
    ap (λ (rows : Rows). get rows id) (rows-next order k e there)
    ∙ kept_by order k e keys id (commit_of (state_at order k) e) refl own clear
