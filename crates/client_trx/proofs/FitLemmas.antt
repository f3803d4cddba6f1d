-- Keys and changes obey the rules of a write set, also with one more key and change.
use Rattle.std.proofs.Common.{◌≡◌, ℕ, ◌+◌, Bool, true, false, cond, List, [], ◌∷◌, ◌++◌, length, Option, None, Some, refl, sym, ap, ◌∙◌, arith}
use Rattle.std.specs.Prelude.{◌==◌, ◌||◌, ◌&&◌, nat_le, nat_lt, is_none, IfSome, IsTrue}
use Rattle.std.specs.List.{list_all}
use Rattle.std.specs.declared.cmp.Ordering.{Ordering}
use Rattle.std.specs.declared.cmp.Ordering.TheVariants.{Less, Equal, Greater}
use Rattle.std.specs.FinMap.Entries.{put, by_order}
use Rattle.std.proofs.lemmas.Bool.Decides.{nat_tests}
use Rattle.finite_map.specs.FiniteMap.{empty, get, len, len-empty, entries-insert}
use Rattle.key_sets.specs.declared.kind.Kind.{Kind}
use Rattle.key_sets.specs.declared.kind.Kind.TheVariants.{Shared, Update, Exclusive}
use Rattle.key_sets.specs.declared.parts.Parts.{Parts}
use Rattle.key_sets.specs.Kinds.{raised}
use Rattle.key_sets.specs.Parts.{parts_cmp, same_parts}
use Rattle.key_sets.specs.Keys.{Keys, LIMIT, with_key}
use Rattle.key_sets.proofs.PartsLemmas.{parts_total, same_parts-exact, same_parts-itself}
use Rattle.key_sets.proofs.WithKey.{get-with_key}
use Rattle.row_model.specs.declared.ops.Op.{Op}
use Rattle.row_model.specs.declared.ops.Op.TheVariants as op
use Rattle.row_model.specs.Rows.{id_of}
use Rattle.write_set.specs.declared.write_set.WriteSet.{WriteSet}
use Rattle.write_set.specs.Rules.{flags_fit, rollback_is_bare, parts_fit, keys_fit, op_fits, is_exclusive, is_update_kind, is_update, is_covered, row_parts, table_parts, uncovered_from, obeys}
use Rattle.write_set.proofs.RulesOf.{both, and, obeyed}
use Rattle.client_trx.specs.KeyedOps.{Keyed, with_op, with_change, is_over, key_of, IsKeyOf, IsFit}
use Rattle.client_trx.specs.Live.{Live, set_from, commit_flags, fragment_flags}

pub neither : (a b : Bool) → a || b ≡ false → (a ≡ false) × (b ≡ false)
neither true b e = absurd cc
neither false b e = (refl, e)

within : (n limit : ℕ) → nat_lt limit n ≡ false → nat_le n limit ≡ true
within n limit e = grind (arith, nat_tests)

-- ---- the names of the keys

abbrev all_fit : List (Parts × Kind) → Bool
all_fit es = list_all (λ key. parts_fit key.0) es

placed : (k : Parts) (v : Kind) (e : Parts × Kind) (es : List (Parts × Kind)) (r : Ordering)
    → parts_fit k ≡ true → all_fit (e ∷ es) ≡ true → all_fit (put parts_cmp k v es) ≡ true
    → all_fit (by_order r ((k, v) ∷ e ∷ es) ((e.0, v) ∷ es) (e ∷ put parts_cmp k v es)) ≡ true
placed k v e es Less here all rest = and (parts_fit k) (all_fit (e ∷ es)) here all
placed k v e es Equal here all rest = all
placed k v e es Greater here all rest =
    and (parts_fit e.0) (all_fit (put parts_cmp k v es)) (both (parts_fit e.0) (all_fit es) all).0 rest

put_fit : (k : Parts) (v : Kind) (es : List (Parts × Kind)) → parts_fit k ≡ true → all_fit es ≡ true
    → all_fit (put parts_cmp k v es) ≡ true
put_fit k v [] here all = and (parts_fit k) true here refl
put_fit k v (e ∷ es) here all =
    placed k v e es (parts_cmp k e.0) here all (put_fit k v es here (both (parts_fit e.0) (all_fit es) all).1)

with_key_fits : (keys : Keys) (p : Parts) (k : Kind) → parts_fit p ≡ true → keys_fit keys ≡ true
    → keys_fit (with_key keys p k) ≡ true
unfolding with_key
with_key_fits keys p k here all =
    ap all_fit (entries-insert parts_total keys p (raised (get keys p) k))
    ∙ put_fit p (raised (get keys p) k) keys.entries here all

-- ---- the changes are covered

-- the row's own key covers a change, which may be an update
abbrev own_covers : Bool → Option Kind → Bool
own_covers update own = is_exclusive own || (update && is_update_kind own)

raised_own : (update : Bool) (old : Option Kind) (k : Kind) → own_covers update old ≡ true
    → own_covers update (Some (raised old k)) ≡ true
raised_own true None k h = absurd cc
raised_own false None k h = absurd cc
raised_own true (Some Shared) k h = absurd cc
raised_own false (Some Shared) k h = absurd cc
raised_own true (Some Update) Shared h = refl
raised_own true (Some Update) Update h = refl
raised_own true (Some Update) Exclusive h = refl
raised_own false (Some Update) k h = absurd cc
raised_own update (Some Exclusive) k h = refl

raised_whole : (old : Option Kind) (k : Kind) → is_exclusive old ≡ true → is_exclusive (Some (raised old k)) ≡ true
raised_whole None k h = absurd cc
raised_whole (Some Shared) k h = absurd cc
raised_whole (Some Update) k h = absurd cc
raised_whole (Some Exclusive) k h = refl

-- a test that a stronger kind passes too holds of what a set has, also with one more key
kept : (test : Option Kind → Bool) (keys : Keys) (p : Parts) (k : Kind) (q : Parts) (b : Bool)
    → ((old : Option Kind) → test old ≡ true → test (Some (raised old k)) ≡ true)
    → same_parts q p ≡ b → test (get keys q) ≡ true
    → test (cond b (Some (raised (get keys p) k)) (get keys q)) ≡ true
kept test keys p k q true rises same h =
    ap (λ r. test (Some (raised (get keys r) k))) (sym (same_parts-exact q p same)) ∙ rises (get keys q) h
kept test keys p k q false rises same h = h

still : (test : Option Kind → Bool) (keys : Keys) (p : Parts) (k : Kind) (q : Parts)
    → ((old : Option Kind) → test old ≡ true → test (Some (raised old k)) ≡ true)
    → test (get keys q) ≡ true → test (get (with_key keys p k) q) ≡ true
still test keys p k q rises h =
    ap test (get-with_key keys p k q) ∙ kept test keys p k q (same_parts q p) rises refl h

either : (a b c d : Bool) → (a ≡ true → c ≡ true) → (b ≡ true → d ≡ true) → a || b ≡ true → c || d ≡ true
either true b c d left right h = ap (λ x. x || d) (left refl)
either false b true d left right h = refl
either false b false d left right h = right h

still_covered : (keys : Keys) (p : Parts) (k : Kind) (o : Op) → is_covered keys o ≡ true
    → is_covered (with_key keys p k) o ≡ true
still_covered keys p k o h = covered_by (is_update o) (row_parts (id_of o)) (table_parts (id_of o)) h
  where
    covered_by : (update : Bool) (own whole : Parts)
        → (is_exclusive (get keys own) || (update && is_update_kind (get keys own))) || is_exclusive (get keys whole) ≡ true
        → (is_exclusive (get (with_key keys p k) own) || (update && is_update_kind (get (with_key keys p k) own)))
        || is_exclusive (get (with_key keys p k) whole) ≡ true
    covered_by update own whole h =
        either (own_covers update (get keys own)) (is_exclusive (get keys whole)) _ _
        (still (own_covers update) keys p k own (λ old. raised_own update old k))
        (still is_exclusive keys p k whole (λ old. raised_whole old k)) h

left_true : (a b : Bool) → a ≡ true → a || b ≡ true
left_true a b h = ap (λ x. x || b) h

now_exclusive : (old : Option Kind) → own_covers false (Some (raised old Exclusive)) ≡ true
now_exclusive None = refl
now_exclusive (Some Shared) = refl
now_exclusive (Some Update) = refl
now_exclusive (Some Exclusive) = refl

now_update : (old : Option Kind) → own_covers true (Some (raised old Update)) ≡ true
now_update None = refl
now_update (Some Shared) = refl
now_update (Some Update) = refl
now_update (Some Exclusive) = refl

-- what the set has at the parts of the new key
here : (keys : Keys) (p : Parts) (k : Kind) → get (with_key keys p k) p ≡ Some (raised (get keys p) k)
here keys p k =
    get-with_key keys p k p ∙ ap (λ b. cond b (Some (raised (get keys p) k)) (get keys p)) (same_parts-itself p)

own_covered : (keys : Keys) (o : Op) → is_covered (with_key keys (key_of o).0 (key_of o).1) o ≡ true
own_covered keys (op.Insert id row) =
    left_true _ _ (ap (own_covers false) (here keys (row_parts id) Exclusive) ∙ now_exclusive (get keys (row_parts id)))
own_covered keys (op.Update id change) =
    left_true _ _ (ap (own_covers true) (here keys (row_parts id) Update) ∙ now_update (get keys (row_parts id)))
own_covered keys (op.Delete id) =
    left_true _ _ (ap (own_covers false) (here keys (row_parts id) Exclusive) ∙ now_exclusive (get keys (row_parts id)))

now_covered : (keys : Keys) (p : Parts) (k : Kind) (o : Op) → (p, k) ≡ key_of o → is_covered (with_key keys p k) o ≡ true
now_covered keys p k o own = ap (λ key. is_covered (with_key keys key.0 key.1) o) own ∙ own_covered keys o

first_covered : (b : Bool) (rest : Option ℕ) (at : ℕ) → is_none (cond b rest (Some at)) ≡ true
    → (b ≡ true) × (is_none rest ≡ true)
first_covered true rest at h = (refl, h)
first_covered false rest at h = absurd cc

all_covered : (at : ℕ) (keys more : Keys) (ops last : List Op) → ((o : Op) → is_covered keys o ≡ true → is_covered more o ≡ true)
    → ((n : ℕ) → is_none (uncovered_from n more last) ≡ true)
    → is_none (uncovered_from at keys ops) ≡ true → is_none (uncovered_from at more (ops ++ last)) ≡ true
all_covered at keys more [] last keeps new h = new at
all_covered at keys more (first ∷ ops) last keeps new h =
    let each = first_covered (is_covered keys first) (uncovered_from (at + 1) keys ops) at h in
    ap (λ b. is_none (cond b (uncovered_from (at + 1) more (ops ++ last)) (Some at))) (keeps first each.0)
    ∙ all_covered (at + 1) keys more ops last keeps new each.1

same_covered : (at : ℕ) (keys more : Keys) (ops : List Op) → ((o : Op) → is_covered keys o ≡ true → is_covered more o ≡ true)
    → is_none (uncovered_from at keys ops) ≡ true → is_none (uncovered_from at more ops) ≡ true
same_covered at keys more [] keeps h = refl
same_covered at keys more (first ∷ ops) keeps h =
    let each = first_covered (is_covered keys first) (uncovered_from (at + 1) keys ops) at h in
    ap (λ b. is_none (cond b (uncovered_from (at + 1) more ops) (Some at))) (keeps first each.0)
    ∙ same_covered (at + 1) keys more ops keeps each.1

more_covered : (keys : Keys) (ops : List Op) (p : Parts) (k : Kind) (o : Option Op) → IfSome o (λ o. IsKeyOf p k o)
    → is_none (uncovered_from 0 keys ops) ≡ true → is_none (uncovered_from 0 (with_key keys p k) (with_op ops o)) ≡ true
more_covered keys ops p k None own h = same_covered 0 keys (with_key keys p k) ops (still_covered keys p k) h
more_covered keys ops p k (Some o) own h =
    all_covered 0 keys (with_key keys p k) ops (o ∷ []) (still_covered keys p k)
    (λ n. ap (λ b. is_none (cond b None (Some n))) (now_covered keys p k o own.key)) h

-- ---- the form of the changes

all_more : (test : Op → Bool) (ops : List Op) (o : Op) → list_all test ops ≡ true → test o ≡ true
    → list_all test (ops ++ o ∷ []) ≡ true
all_more test [] o all new = and (test o) true new refl
all_more test (first ∷ ops) o all new =
    let each = both (test first) (list_all test ops) all in
    and (test first) (list_all test (ops ++ o ∷ [])) each.0 (all_more test ops o each.1 new)

more_in_form : (ops : List Op) (p : Parts) (k : Kind) (o : Option Op) → IfSome o (λ o. IsKeyOf p k o)
    → list_all op_fits ops ≡ true → list_all op_fits (with_op ops o) ≡ true
more_in_form ops p k None own all = all
more_in_form ops p k (Some o) own all = all_more op_fits ops o all own.form

-- ---- keys and changes that fit

pub none_fit : (keys : Keys) (ops : List Op) → keys ≡ empty → ops ≡ [] → IsFit keys ops
unfolding empty
none_fit keys ops no_keys no_ops = rw (no_keys, no_ops) (record {
  few_keys = ap (λ n. nat_le n LIMIT) (len-empty parts_cmp Kind);
  key_names = refl;
  op_names = refl;
  covered = refl;
})

with_change_fits : (all : Keyed) (p : Parts) (k : Kind) (o : Option Op) → IsTrue (parts_fit p) → IfSome o (λ o. IsKeyOf p k o)
    → is_over (with_change all p k o) ≡ false → IsFit all.keys all.ops
    → IsFit (with_key all.keys p k) (with_op all.ops o)
with_change_fits all p k o names own room fit =
    let few = neither _ _ room in
    let old = both (nat_le (length all.ops) 8192) (list_all op_fits all.ops) fit.op_names in
    record {
      few_keys = within (len (with_key all.keys p k)) LIMIT few.0;
      key_names = with_key_fits all.keys p k names fit.key_names;
      op_names = and _ _ (within (length (with_op all.ops o)) 8192 few.1) (more_in_form all.ops p k o own old.1);
      covered = more_covered all.keys all.ops p k o own fit.covered;
    }

-- one more key and change, where there is room, fit with those that fit
pub more_fit : (all : Keyed) (keys : Keys) (ops : List Op) (p : Parts) (k : Kind) (o : Option Op)
    → IsTrue (parts_fit p) → IfSome o (λ o. IsKeyOf p k o) → is_over (with_change all p k o) ≡ false
    → IsFit all.keys all.ops → keys ≡ with_key all.keys p k → ops ≡ with_op all.ops o → IsFit keys ops
more_fit all keys ops p k o names own room fit keys_are ops_are =
    rw (keys_are, ops_are) (with_change_fits all p k o names own room fit)

pub same_fit : (keys more : Keys) (ops others : List Op) → IsFit keys ops → more ≡ keys → others ≡ ops → IsFit more others
same_fit keys more ops others fit keys_are ops_are = rw (keys_are, ops_are) fit

-- ---- write sets that are sent

-- one of keys and changes that fit obeys the rules, where its flags do
set_obeys : (w : WriteSet) → flags_fit w.flags w.fragment ≡ true → rollback_is_bare w.flags (len w.keys) (length w.ops) ≡ true
    → IsFit w.keys w.ops → IsTrue (obeys w)
set_obeys w flags bare fit =
    let ops = both (nat_le (length w.ops) 8192) (list_all op_fits w.ops) fit.op_names in
    obeyed w (record {
      flags = flags;
      bare = bare;
      few_keys = fit.few_keys;
      keys = fit.key_names;
      few_ops = ops.0;
      ops = ops.1;
      covered = fit.covered;
    })

commit_flags_fit : (b : Bool) (sent : ℕ) → (sent == 0) ≡ b → flags_fit (cond b 3 2) sent ≡ true
commit_flags_fit true sent first = ap (λ b. cond b true false) first
commit_flags_fit false sent later = ap (λ b. cond b false true) later

commit_bare : (b : Bool) (keys ops : ℕ) → rollback_is_bare (cond b 3 2) keys ops ≡ true
commit_bare true keys ops = refl
commit_bare false keys ops = refl

-- a commit obeys the rules
pub commit_obeys : (w : WriteSet) → w.flags ≡ commit_flags w.fragment → IsFit w.keys w.ops → IsTrue (obeys w)
commit_obeys w flags fit =
    set_obeys w (ap (λ f. flags_fit f w.fragment) flags ∙ commit_flags_fit (w.fragment == 0) w.fragment refl)
    (ap (λ f. rollback_is_bare f (len w.keys) (length w.ops)) flags
    ∙ commit_bare (w.fragment == 0) (len w.keys) (length w.ops)) fit

pub commit_valid : (t : Live) (all : Keyed) (serial last_seen flags : ℕ) (w : WriteSet)
    → w ≡ set_from t all serial last_seen flags → flags ≡ commit_flags t.sent → IsFit w.keys w.ops → IsTrue (obeys w)
commit_valid t all serial last_seen flags w is flags_are fit =
    commit_obeys w (ap (λ (w : WriteSet). w.flags) is ∙ flags_are ∙ ap (λ (w : WriteSet). commit_flags w.fragment) (sym is)) fit

fragment_flags_fit : (b : Bool) (sent : ℕ) → (sent == 0) ≡ b → flags_fit (cond b 1 0) sent ≡ true
fragment_flags_fit true sent first = ap (λ b. cond b true false) first
fragment_flags_fit false sent later = ap (λ b. cond b false true) later

fragment_bare : (b : Bool) (keys ops : ℕ) → rollback_is_bare (cond b 1 0) keys ops ≡ true
fragment_bare true keys ops = refl
fragment_bare false keys ops = refl

-- a fragment obeys the rules
pub fragment_obeys : (w : WriteSet) → w.flags ≡ fragment_flags w.fragment → IsFit w.keys w.ops → IsTrue (obeys w)
fragment_obeys w flags fit =
    set_obeys w (ap (λ f. flags_fit f w.fragment) flags ∙ fragment_flags_fit (w.fragment == 0) w.fragment refl)
    (ap (λ f. rollback_is_bare f (len w.keys) (length w.ops)) flags
    ∙ fragment_bare (w.fragment == 0) (len w.keys) (length w.ops)) fit

pub fragment_valid : (t : Live) (all : Keyed) (serial last_seen flags : ℕ) (w : WriteSet)
    → w ≡ set_from t all serial last_seen flags → flags ≡ fragment_flags t.sent → IsFit w.keys w.ops → IsTrue (obeys w)
fragment_valid t all serial last_seen flags w is flags_are fit =
    fragment_obeys w (ap (λ (w : WriteSet). w.flags) is ∙ flags_are ∙ ap (λ (w : WriteSet). fragment_flags w.fragment) (sym is)) fit

-- a rollback obeys the rules
pub rollback_obeys : (w : WriteSet) → w.flags ≡ 4 → w.fragment ≡ 0 → w.keys ≡ empty → w.ops ≡ [] → IsTrue (obeys w)
rollback_obeys w flags fragment keys ops =
    set_obeys w (ap (λ f. flags_fit f w.fragment) flags ∙ ap (λ n. n == 0) fragment)
    (ap (λ f. rollback_is_bare f (len w.keys) (length w.ops)) flags
    ∙ ap (λ (k : Keys). rollback_is_bare 4 (len k) (length w.ops)) keys
    ∙ ap (λ (n : ℕ). rollback_is_bare 4 n (length w.ops)) (len-empty parts_cmp Kind)
    ∙ ap (λ (o : List Op). rollback_is_bare 4 0 (length o)) ops) (none_fit w.keys w.ops keys ops)
