-- What an edit at one session leaves of a table of rows.
use Rattle.std.proofs.Common.{◌≡◌, ℕ, Bool, true, false, List, refl, sym, ap, subst, ◌∙◌}
use Rattle.std.specs.Prelude.{Option, Some, None, cond, not, ◌==◌, ◌&&◌}
use Rattle.std.specs.Option.{unwrap_or}
use Rattle.std.specs.Ordering.{nat_cmp, eq_by_cmp}
use Rattle.std.proofs.lemmas.Bool.{eqb-true, eq-eqb, false_from_ne_true}
use Rattle.finite_map.proofs.Edits.{numbers, tied, untied, get-put, get-put_beside, get-taken, get-taken_beside}
use Rattle.finite_map.specs.FiniteMap.{FiniteMap, get, insert, remove, same_map}
use Rattle.row_model.specs.declared.row.RowId.{RowId}
use Rattle.row_model.specs.Rows.{Rows, ops_on}
use Rattle.row_model.specs.RowOrder.{row_total, row_exact}
use Rattle.apply_unit.specs.RowChanges.{row_after_ops}
use Rattle.apply_unit.proofs.RowLemmas.{get-unnamed, get-ops_on}
use Rattle.client_trx.specs.Live.{Live, has_locks}
use Rattle.undo_rows.specs.RowTable.{RowTable, Change, Changes, seen, seen_of, without, is_owned_by}
use Rattle.undo_rows.proofs.RowTableLemmas.{get-without}
use Rattle.node_meaning.specs.Node.{seen_rows}
use Rattle.node_core.specs.Tabled.{Tabled, changes_row, made_by, shown_of}

-- ---- what a transaction made of a row
pub made-seen : (rows : Rows) (id : RowId) (o : Option Live) → unwrap_or (made_by rows id o) (get rows id) ≡ get (seen_rows rows o) id
made-seen rows id None = refl
made-seen rows id (Some t) = by (has_locks t.status) (changes_row id t.ops) refl
  where
    by : (b c : Bool) → changes_row id t.ops ≡ c
        → unwrap_or (cond (b && c) (Some (get (ops_on t.ops rows) id)) None) (get rows id) ≡ get (cond b (ops_on t.ops rows) rows) id
    by true true is = refl
    by true false is = sym (get-unnamed t.ops rows id is)
    by false c is = refl

-- who made something of a row has locks and changes it
pub made-from : (rows : Rows) (id : RowId) (o : Option Live) (row : Option (List ℕ)) → made_by rows id o ≡ Some row
    → (t : Live) × (o ≡ Some t) × (has_locks t.status ≡ true) × (changes_row id t.ops ≡ true)
made-from rows id None row is = cc
made-from rows id (Some t) row is = by (has_locks t.status) (changes_row id t.ops) refl refl is
  where
    by : (b c : Bool) → has_locks t.status ≡ b → changes_row id t.ops ≡ c
        → cond (b && c) (Some (get (ops_on t.ops rows) id)) None ≡ Some row
        → (u : Live) × (Some t ≡ Some u) × (has_locks u.status ≡ true) × (changes_row id u.ops ≡ true)
    by true true locks changes is = (t, refl, locks, changes)
    by true false locks changes is = cc
    by false c locks changes is = cc

-- two that have locks alike and the same changes make the same
pub made-alike : (rows : Rows) (id : RowId) (u t : Live) → has_locks u.status ≡ has_locks t.status → u.ops ≡ t.ops
    → made_by rows id (Some u) ≡ made_by rows id (Some t)
made-alike rows id u t locks ops = λ i. cond (locks i && changes_row id (ops i)) (Some (get (ops_on (ops i) rows) id)) None

-- it makes the same of other rows, where the row that it changes is the same
pub made-same : (rows others : Rows) (id : RowId) (o : Option Live)
    → ((row : Option (List ℕ)) → made_by rows id o ≡ Some row → get others id ≡ get rows id) → made_by others id o ≡ made_by rows id o
made-same rows others id None same = refl
made-same rows others id (Some t) same = by (has_locks t.status && changes_row id t.ops) refl
  where
    by : (b : Bool) → (has_locks t.status && changes_row id t.ops) ≡ b
        → cond b (Some (get (ops_on t.ops others) id)) None ≡ cond b (Some (get (ops_on t.ops rows) id)) None
    by true is =
        ap Some (get-ops_on t.ops others id
        ∙ ap (row_after_ops id t.ops) (same (get (ops_on t.ops rows) id) (ap (λ b. cond b (Some (get (ops_on t.ops rows) id)) None) is))
        ∙ sym (get-ops_on t.ops rows id))
    by false is = refl

-- ---- what a table shows of a change
shown-seen : (s : ℕ) (c : Option Change) (row : Option (List ℕ)) → seen_of s c row ≡ unwrap_or (shown_of s c) row
shown-seen s None row = refl
shown-seen s (Some c) row = by (c.0 == s)
  where
    by : (b : Bool) → cond b c.1 row ≡ unwrap_or (cond b (Some c.1) None) row
    by true = refl
    by false = refl

-- each session sees what the model's does
pub sees : (rows : Rows) (live : FiniteMap nat_cmp Live) (table : RowTable) → Tabled rows live table → (s : ℕ) (id : RowId)
    (o : Option Live) → get live s ≡ o → seen table s id ≡ get (seen_rows rows o) id
sees rows live table tabled s id o is =
    shown-seen s (get table.changes id) (get table.committed id)
    ∙ (λ i. unwrap_or ((tabled.changed s id ∙ ap (made_by rows id) is) i) (get (tabled.committed i) id))
    ∙ made-seen rows id o

pub own_shown : (s : ℕ) (row : Option (List ℕ)) → shown_of s (Some (s, row)) ≡ Some row
own_shown s row = ap (λ b. cond b (Some row) None) (eq-eqb s s refl)

-- a number is not both
pub not_other : (n o s : ℕ) → eq_by_cmp nat_cmp o s ≡ false → (n == s) ≡ true → (n == o) ≡ false
not_other n o s other is = false_from_ne_true (n == o) (λ same. untied numbers o s other (sym (eqb-true n o same) ∙ eqb-true n s is))

-- a change is one session's alone
pub other_shown : (s o : ℕ) (c : Option Change) (row : Option (List ℕ)) → eq_by_cmp nat_cmp o s ≡ false → shown_of o c ≡ Some row
    → shown_of s c ≡ None
other_shown s o None row other is = refl
other_shown s o (Some c) row other is = by (c.0 == s) refl
  where
    by : (b : Bool) → (c.0 == s) ≡ b → cond b (Some c.1) None ≡ None
    by true own = let none : shown_of o (Some c) ≡ None = ap (λ b. cond b (Some c.1) None) (not_other c.0 o s other own) in cc
    by false own = refl

-- without the changes of one session
module _ (changes : Changes) (s : ℕ) where
  own_gone : (id : RowId) → shown_of s (get (without changes s) id) ≡ None
  own_gone id = ap (shown_of s) (get-without changes s id) ∙ by (get changes id)
    where
      gone : (c : Change) (b : Bool) → (c.0 == s) ≡ b → shown_of s (cond (not b) (Some c) None) ≡ None
      gone c true is = refl
      gone c false is = ap (λ b. cond b (Some c.1) None) is

      by : (c : Option Change) → shown_of s (cond (not (is_owned_by s c)) c None) ≡ None
      by None = refl
      by (Some c) = gone c (c.0 == s) refl

  others_stay : (o : ℕ) (id : RowId) → eq_by_cmp nat_cmp o s ≡ false
      → shown_of o (get (without changes s) id) ≡ shown_of o (get changes id)
  others_stay o id other = ap (shown_of o) (get-without changes s id) ∙ by (get changes id)
    where
      left : (c : Change) (b : Bool) → (c.0 == s) ≡ b → shown_of o (cond (not b) (Some c) None) ≡ shown_of o (Some c)
      left c true is = sym (ap (λ b. cond b (Some c.1) None) (not_other c.0 o s other is))
      left c false is = refl

      by : (c : Option Change) → shown_of o (cond (not (is_owned_by s c)) c None) ≡ shown_of o c
      by None = refl
      by (Some c) = left c (c.0 == s) refl

-- ---- the live transactions after an edit at a session
pub record LiveAt (live new : FiniteMap nat_cmp Live) (s : ℕ) (o : Option Live) : Type 0 where
  pub own : get new s ≡ o
  pub others : (q : ℕ) → eq_by_cmp nat_cmp q s ≡ false → get new q ≡ get live q

pub put_at : (live : FiniteMap nat_cmp Live) (s : ℕ) (u : Live) → LiveAt live (insert live s u) s (Some u)
put_at live s u =
    record { own = get-put numbers live s u; others = get-put_beside numbers live s u }

pub ended_at : (live : FiniteMap nat_cmp Live) (s : ℕ) → LiveAt live (remove live s) s None
ended_at live s =
    record { own = get-taken numbers live s; others = get-taken_beside numbers live s }

module _ (rows : Rows) (live : FiniteMap nat_cmp Live) (table after : RowTable) (tabled : Tabled rows live table) where
  -- after an edit at a session the table shows what the session made, and of the others what it showed
  pub tabled-edited : (others : Rows) (new : FiniteMap nat_cmp Live) (s : ℕ) (o : Option Live) → LiveAt live new s o → after.committed ≡ others
      → ((id : RowId) → shown_of s (get after.changes id) ≡ made_by others id o)
      → ((q : ℕ) (id : RowId) → eq_by_cmp nat_cmp q s ≡ false → shown_of q (get after.changes id) ≡ shown_of q (get table.changes id))
      → ((q : ℕ) (id : RowId) → eq_by_cmp nat_cmp q s ≡ false → made_by others id (get live q) ≡ made_by rows id (get live q))
      → Tabled others new after
  tabled-edited others new s o at committed own shown made = record {
    committed = committed;
    changed = λ q id. by q id (eq_by_cmp nat_cmp q s) refl;
  }
    where
      by : (q : ℕ) (id : RowId) (b : Bool) → eq_by_cmp nat_cmp q s ≡ b → shown_of q (get after.changes id) ≡ made_by others id (get new q)
      by q id true tie =
          subst (λ r. shown_of r (get after.changes id) ≡ made_by others id (get new r)) (sym (tied numbers q s tie))
          (own id ∙ ap (made_by others id) (sym at.own))
      by q id false tie =
          shown q id tie ∙ tabled.changed q id ∙ sym (made q id tie) ∙ ap (made_by others id) (sym (at.others q tie))

  -- the session's changes go
  pub tabled-cleared : (new : FiniteMap nat_cmp Live) (s : ℕ) (o : Option Live) → LiveAt live new s o
      → ((id : RowId) → made_by rows id o ≡ None) → after.committed ≡ table.committed → after.changes ≡ without table.changes s
      → Tabled rows new after
  tabled-cleared new s o at none committed gone =
      tabled-edited rows new s o at (committed ∙ tabled.committed)
      (λ id. ap (λ m. shown_of s (get m id)) gone ∙ own_gone table.changes s id ∙ sym (none id))
      (λ q id other. ap (λ m. shown_of q (get m id)) gone ∙ others_stay table.changes s q id other)
      (λ q id other. refl)

  -- they stay, and its transaction has made the same
  pub tabled-left : (new : FiniteMap nat_cmp Live) (s : ℕ) (o : Option Live) → LiveAt live new s o
      → ((id : RowId) → made_by rows id o ≡ made_by rows id (get live s)) → after.committed ≡ table.committed
      → after.changes ≡ table.changes → Tabled rows new after
  tabled-left new s o at same committed changes =
      tabled-edited rows new s o at (committed ∙ tabled.committed)
      (λ id. ap (λ m. shown_of s (get m id)) changes ∙ tabled.changed s id ∙ sym (same id))
      (λ q id other. ap (λ m. shown_of q (get m id)) changes)
      (λ q id other. refl)

  -- other rows are committed, the same where a transaction changes them
  pub tabled-put : (others : Rows) → after.committed ≡ others → after.changes ≡ table.changes
      → ((q : ℕ) (id : RowId) (row : Option (List ℕ)) → made_by rows id (get live q) ≡ Some row → get others id ≡ get rows id)
      → Tabled others live after
  tabled-put others committed changes left = record {
    committed = committed;
    changed = λ q id.
        ap (λ m. shown_of q (get m id)) changes ∙ tabled.changed q id ∙ sym (made-same rows others id (get live q) (left q id));
  }

  -- what the session sees is committed, and its transaction ends
  pub tabled-kept : (s : ℕ) → ((id : RowId) → get after.committed id ≡ seen table s id) → after.changes ≡ without table.changes s
      → Tabled (seen_rows rows (get live s)) (remove live s) after
  tabled-kept s kept gone =
      let mine = seen_rows rows (get live s) in
      tabled-edited mine (remove live s) s None (ended_at live s)
      (same_map row_total row_exact after.committed mine (λ id. kept id ∙ sees rows live table tabled s id (get live s) refl))
      (λ id. ap (λ m. shown_of s (get m id)) gone ∙ own_gone table.changes s id)
      (λ q id other. ap (λ m. shown_of q (get m id)) gone ∙ others_stay table.changes s q id other)
      (λ q id other. made-same rows mine id (get live q) (λ row is.
      sym (made-seen rows id (get live s))
      ∙ ap (λ m. unwrap_or m (get rows id))
      (sym (tabled.changed s id) ∙ other_shown s q (get table.changes id) row other (tabled.changed q id ∙ is))))

-- the same table, with other room
pub same_tabled : (rows : Rows) (live : FiniteMap nat_cmp Live) (table after : RowTable) → Tabled rows live table
    → after.committed ≡ table.committed → after.changes ≡ table.changes → Tabled rows live after
same_tabled rows live table after tabled committed changes =
    tabled-put rows live table after tabled rows (committed ∙ tabled.committed) changes (λ q id row is. refl)
