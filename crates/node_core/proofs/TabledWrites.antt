-- What a statement that changes a row leaves of a table of rows.
use Rattle.std.proofs.Common.{◌≡◌, ℕ, Bool, true, false, List, [], ◌∷◌, ◌++◌, refl, sym, ap, ◌∙◌, cond, ◌||◌, ◌&&◌, true≢false}
use Rattle.std.specs.Prelude.{Option, Some, None, ◌==◌}
use Rattle.std.proofs.Math.Bool.{or-false}
use Rattle.std.proofs.lemmas.Bool.{eq-eqb, false_from_ne_true}
use Rattle.std.proofs.lemmas.List.Folds.{list_any-append}
use Rattle.std.specs.Ordering.{nat_cmp, eq_by_cmp}
use Rattle.std.specs.List.{list_any}
use Rattle.std.proofs.lemmas.Cmp.{eq_by_cmp_equiv}
use Rattle.finite_map.proofs.Edits.{numbers, tied}
use Rattle.finite_map.specs.FiniteMap.{FiniteMap, empty, get, insert, get-insert}
use Rattle.key_sets.specs.declared.kind.Kind.{Kind}
use Rattle.key_sets.specs.declared.parts.Parts.{Parts}
use Rattle.key_sets.specs.Keys.{touches, one_key}
use Rattle.key_sets.specs.Meeting.{covers, is_change}
use Rattle.key_sets.proofs.KeyLaws.{covers_one_key, conflicts_from_covers, touches_from_conflicts}
use Rattle.row_model.specs.declared.row.RowId.{RowId}
use Rattle.row_model.specs.declared.ops.Op.{Op}
use Rattle.row_model.specs.declared.ops.Op.TheVariants as op
use Rattle.row_model.specs.Rows.{Rows, row_cmp, row_after, id_of, ops_on}
use Rattle.row_model.specs.RowOrder.{row_total, row_ties, row_same}
use Rattle.write_set.specs.Rules.{row_parts}
use Rattle.apply_unit.specs.RowChanges.{names_row}
use Rattle.apply_unit.proofs.RowLemmas.{get-op_on, ops_on-append}
use Rattle.client_trx.specs.Live.{Live, has_locks}
use Rattle.client_trx.specs.KeyedOps.{IsKeyOf}
use Rattle.row_locks.specs.Locks.{blocker, keys_at}
use Rattle.row_locks.specs.Holders.{same_holder}
use Rattle.row_locks.specs.declared.holder.Holder.TheVariants.{Session}
use Rattle.undo_rows.specs.RowTable.{RowTable, Change, seen, other_owner}
use Rattle.order_event.specs.declared.event.Event.{Event}
use Rattle.node_meaning.specs.Node.{ModelNode, locks_of}
use Rattle.node_meaning.specs.Facts.{Facts}
use Rattle.cert_meaning.proofs.CoveredLaws.{all_from_rules}
use Rattle.node_meaning.proofs.LockLaws.{keys_at-session, keys_of_live}
use Rattle.node_meaning.proofs.TouchedLocks.{free-blocker}
use Rattle.node_core.proofs.UnitRows.{covered_row}
use Rattle.node_core.specs.Tabled.{Tabled, changes_row, made_by, shown_of}
use Rattle.node_core.proofs.Tabling.{sees, own_shown, not_other, made-from, put_at, tabled-edited}

-- ---- a change more
any_more : (test : Op → Bool) (ops : List Op) (o : Op)
    → list_any test (ops ++ o ∷ []) ≡ list_any test ops || test o
any_more test ops o =
    list_any-append test ops (o ∷ []) ∙ ap (λ b. list_any test ops || b) (or-false (test o))

row_more : (rows : Rows) (ops : List Op) (o : Op) (id : RowId)
    → get (ops_on (ops ++ o ∷ []) rows) id
    ≡ cond (names_row id o) (row_after (get (ops_on ops rows) id) o) (get (ops_on ops rows) id)
unfolding ops_on
row_more rows ops o id = ap (λ (r : Rows). get r id) (ops_on-append ops (o ∷ []) rows) ∙ get-op_on (ops_on ops rows) o id

-- what a transaction made of a row, with a change more
made_more : (rows : Rows) (t u : Live) (o : Op) (id : RowId) → has_locks t.status ≡ true → has_locks u.status ≡ true
    → u.ops ≡ t.ops ++ o ∷ []
    → made_by rows id (Some u) ≡ cond (names_row id o) (Some (row_after (get (ops_on t.ops rows) id) o)) (made_by rows id (Some t))
made_more rows t u o id locks has ops =
    (λ i. cond (has i && changes_row id (ops i)) (Some (get (ops_on (ops i) rows) id)) None)
    ∙ (λ i. cond (any_more (names_row id) t.ops o i) (Some (row_more rows t.ops o id i)) None)
    ∙ by (names_row id o) (changes_row id t.ops) (row_after (get (ops_on t.ops rows) id) o) (get (ops_on t.ops rows) id)
    ∙ ap (λ b. cond (names_row id o) (Some (row_after (get (ops_on t.ops rows) id) o))
    (cond (b && changes_row id t.ops) (Some (get (ops_on t.ops rows) id)) None)) (sym locks)
  where
    by : (n c : Bool) (x r : Option (List ℕ)) → cond (c || n) (Some (cond n x r)) None ≡ cond n (Some x) (cond c (Some r) None)
    by true true x r = refl
    by true false x r = refl
    by false true x r = refl
    by false false x r = refl

-- the order's test, and the test of a change
names_tied : (id : RowId) (o : Op) → eq_by_cmp row_cmp id (id_of o) ≡ names_row id o
names_tied id o = (eq_by_cmp_equiv row_total).symm id (id_of o) ∙ sym (row_ties (id_of o) id)

-- a row of no other session is not shown as one's
not_shown : (s q : ℕ) (c : Option Change) → eq_by_cmp nat_cmp q s ≡ false → other_owner s c ≡ None → shown_of q c ≡ None
not_shown s q None other none = refl
not_shown s q (Some c) other none = by (c.0 == s) refl none
  where
    by : (b : Bool) → (c.0 == s) ≡ b → cond b None (Some c.0) ≡ None → shown_of q (Some c) ≡ None
    by true own none = ap (λ b. cond b (Some c.1) None) (not_other c.0 q s other own)
    by false own none = cc

module _ (rows : Rows) (live : FiniteMap nat_cmp Live) (table after : RowTable) (tabled : Tabled rows live table) (s : ℕ) (t u : Live)
    (o : Op) (there : get live s ≡ Some t) (locks : has_locks t.status ≡ true) (ops : u.ops ≡ t.ops ++ o ∷ [])
    (has : has_locks u.status ≡ true) (free : other_owner s (get table.changes (id_of o)) ≡ None)
    (committed : after.committed ≡ table.committed)
    (written : after.changes ≡ insert table.changes (id_of o) (s, row_after (seen table s (id_of o)) o)) where
  abbrev new_row : Option (List ℕ)
  new_row = row_after (seen table s (id_of o)) o

  get_after : (id : RowId) → get after.changes id ≡ cond (names_row id o) (Some (s, new_row)) (get table.changes id)
  get_after id =
      ap (λ c. get c id) written ∙ get-insert row_total table.changes (id_of o) (s, new_row) id
      ∙ ap (λ b. cond b (Some (s, new_row)) (get table.changes id)) (names_tied id o)

  own : (id : RowId) → shown_of s (get after.changes id) ≡ made_by rows id (Some u)
  own id = ap (shown_of s) (get_after id) ∙ by (names_row id o) refl ∙ sym (made_more rows t u o id locks has ops)
    where
      by : (b : Bool) → names_row id o ≡ b → shown_of s (cond b (Some (s, new_row)) (get table.changes id))
          ≡ cond b (Some (row_after (get (ops_on t.ops rows) id) o)) (made_by rows id (Some t))
      by true named =
          own_shown s new_row
          ∙ ap (λ r. Some (row_after r o)) (sees rows live table tabled s (id_of o) (Some t) there
          ∙ ap (λ b. get (cond b (ops_on t.ops rows) rows) (id_of o)) locks
          ∙ ap (get (ops_on t.ops rows)) (row_same (id_of o) id named))
      by false named = tabled.changed s id ∙ ap (made_by rows id) there

  others : (q : ℕ) (id : RowId) → eq_by_cmp nat_cmp q s ≡ false → shown_of q (get after.changes id) ≡ shown_of q (get table.changes id)
  others q id other = ap (shown_of q) (get_after id) ∙ by (names_row id o) refl
    where
      by : (b : Bool) → names_row id o ≡ b → shown_of q (cond b (Some (s, new_row)) (get table.changes id)) ≡ shown_of q (get table.changes id)
      by true named =
          ap (λ b. cond b (Some new_row) None) (not_other s q s other (eq-eqb s s refl))
          ∙ sym (ap (λ r. shown_of q (get table.changes r)) (sym (row_same (id_of o) id named))
          ∙ not_shown s q (get table.changes (id_of o)) other free)
      by false named = refl

  -- a transaction changes a row that no other one has changed
  pub tabled-written : Tabled rows (insert live s u) after
  tabled-written =
      tabled-edited rows live table after tabled rows (insert live s u) s (Some u) (put_at live s u) (committed ∙ tabled.committed)
      own others (λ q id other. refl)

-- ---- a row that a free key names is changed by no other session
-- a change has a key that changes its row
pub key_changes : (p : Parts) (k : Kind) (o : Op) → IsKeyOf p k o → (p ≡ row_parts (id_of o)) × (is_change (Some k) ≡ true)
key_changes p k (op.Insert id row) own =
    (ap (λ (e : Parts × Kind). e.0) own.key, ap (λ (e : Parts × Kind). is_change (Some e.1)) own.key)
key_changes p k _ own =
    (ap (λ (e : Parts × Kind). e.0) own.key, ap (λ (e : Parts × Kind). is_change (Some e.1)) own.key)

pub free_row : (order : List Event) (n : ModelNode) (rows : Rows) (table : RowTable) → Facts order n → Tabled rows n.live table
    → (s : ℕ) (id : RowId) (k : Kind) → is_change (Some k) ≡ true
    → blocker (locks_of n.live n.units) (Session s) (row_parts id) k ≡ None → other_owner s (get table.changes id) ≡ None
free_row order n rows table f tabled s id k changes none = by (get table.changes id) refl
  where
    touched : (o : ℕ) (t : Live) → get n.live o ≡ Some t → has_locks t.status ≡ true → changes_row id t.ops ≡ true → (o == s) ≡ false → ⊥
    touched o t is locked names differs =
        let locks = locks_of n.live n.units in
        let fit = (f.sendable o t is).fit in
        let covered : covers t.keys (row_parts id) ≡ true =
        covered_row t.keys t.ops id (all_from_rules 0 t.keys t.ops fit.covered) names in
        let at : keys_at locks (Session o) ≡ t.keys =
        keys_at-session n.live n.units o ∙ ap keys_of_live is ∙ ap (λ b. cond b t.keys empty) locked in
        let apart : same_holder (Session s) (Session o) ≡ false =
        false_from_ne_true (eq_by_cmp nat_cmp s o) (λ tie.
        true≢false (sym (eq-eqb o s (sym (tied numbers s o tie))) ∙ differs)) in
        true≢false (sym (touches_from_conflicts (one_key (row_parts id) k) t.keys
        (conflicts_from_covers (one_key (row_parts id) k) t.keys (row_parts id) id.row refl
        (covers_one_key (row_parts id) k changes) covered))
        ∙ ap (touches (one_key (row_parts id) k)) (sym at)
        ∙ free-blocker locks (Session s) (row_parts id) k none (Session o) apart)

    by_owner : (c : Change) → get table.changes id ≡ Some c → (b : Bool) → (c.0 == s) ≡ b → cond b None (Some c.0) ≡ None
    by_owner c is true e = refl
    by_owner c is false e =
        let owns = made-from rows id (get n.live c.0) c.1
        (sym (tabled.changed c.0 id) ∙ ap (shown_of c.0) is ∙ own_shown c.0 c.1) in
        absurd (touched c.0 owns.0 owns.1 owns.2 owns.3 e)

    by : (c : Option Change) → get table.changes id ≡ c → other_owner s c ≡ None
    by None is = refl
    by (Some c) is = by_owner c is (c.0 == s) refl
