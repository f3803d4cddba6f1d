-- What aborting a session's transaction leaves of the parts of a node.
use Rattle.std.proofs.Common.{rules, ◌≡◌, ℕ, ◌+◌, ◌≤◌, ◌<◌, false, cond, List, length, take, fold, get_or, refl, sym, ap, ◌∙◌, arith}
use Rattle.std.specs.Prelude.{Option, Some, None, ◌&&◌}
use Rattle.std.proofs.lemmas.List.Sums.{fold_more}
use Rattle.std.specs.Ordering.{nat_cmp}
use Rattle.finite_map.proofs.Edits.{numbers, insert-remove}
use Rattle.finite_map.specs.FiniteMap.{FiniteMap, get, insert, remove}
use Rattle.row_model.specs.declared.calls.Reply.{Reply}
use Rattle.row_model.specs.declared.row.RowId.{RowId}
use Rattle.row_model.specs.Rows.{Rows, ops_on}
use Rattle.client_trx.specs.Live.{Live, has_locks, killed_in, killed_by}
use Rattle.client_trx.specs.declared.status.Status.{Status}
use Rattle.client_trx.specs.declared.status.Status.TheVariants as status
use Rattle.client_trx.specs.declared.status.Outcome.{Outcome}
use Rattle.client_trx.specs.declared.status.Outcome.TheVariants.{Lives, Ends}
use Rattle.row_locks.specs.declared.holder.Holder.TheVariants.{Session}
use Rattle.row_locks.specs.Locks.{LockState}
use Rattle.row_locks.proofs.AlikeLaws.{alike_between, alike-remove}
use Rattle.undo_rows.specs.RowTable.{RowTable, without}
use Rattle.node_parts.proofs.MapLaws.{removed_absent}
use Rattle.node_meaning.specs.Node.{ModelNode, ApplyUnit, locks_of}
use Rattle.node_meaning.specs.Steps.{told, ended_session, end_killed}
use Rattle.node_meaning.proofs.LockLaws.{lock_keys, locks_of-remove, locks_of-unlocked}
use Rattle.node_core.specs.declared.node.NodeParts.{NodeParts}
use Rattle.node_core.proofs.Standing.{rings_kept}
use Rattle.node_core.proofs.CertifyCalls.{not_ended}
use Rattle.node_core.specs.Tabled.{made_by, changes_row}
use Rattle.node_core.specs.Stands.{plain_of}
use Rattle.node_core.specs.Starting.{Aborts}
use Rattle.node_core.proofs.Tabling.{LiveAt, put_at, ended_at, tabled-cleared}

-- ---- what becomes of the transaction
-- one that lives on has no locks
killed_unlocked : (t u : Live) (st : Status) (n : ℕ) → t.status ≡ st → (Lives, u) ≡ killed_in st n t
    → has_locks u.status ≡ false
killed_unlocked t u status.CommitSent n at is = ap (λ (r : Outcome × Live). has_locks r.1.status) is
killed_unlocked t u (status.Certified m) n at is =
    ap (λ (r : Outcome × Live). has_locks r.1.status) is
killed_unlocked t u status.Running n at is = absurd (not_ended u t _ is)
killed_unlocked t u status.FragmentSent n at is = absurd (not_ended u t _ is)
killed_unlocked t u _ n at is =
    ap (λ (r : Outcome × Live). has_locks r.1.status) is ∙ ap has_locks at

-- ---- the three cases
pub kill_none : (old : NodeParts) (live : FiniteMap nat_cmp Live) (number s : ℕ)
    → get old.live s ≡ None → live ≡ remove old.live s
    → Aborts (λ n. end_killed number n s) old (record old { live = live })
kill_none old live number s none taken =
    let same = ap (ended_session number (plain_of old) s) (sym none) in
    rw (taken, removed_absent old.live s none) (search rules)

module _ (old : NodeParts) (number s : ℕ) (t : Live) (locks : LockState) (rows : RowTable) (there : get old.live s ≡ Some t)
    (released : locks.locks ≡ remove old.locks.locks (Session s)) (spare : old.locks.spare ≤ locks.spare)
    (committed : rows.committed ≡ old.rows.committed) (changes : rows.changes ≡ without old.rows.changes s)
    (room : old.rows.spare ≤ rows.spare) where
  -- it has no locks where it lives on, and else its session is told
  ended : (f : ModelNode → ModelNode) (live : FiniteMap nat_cmp Live)
      (waiting : FiniteMap nat_cmp Reply) (o : Option Live) → LiveAt old.live live s o
      → ((base : Rows) (id : RowId) → made_by base id o ≡ None)
      → ((older : FiniteMap nat_cmp ApplyUnit)
      → locks_of live older ≡ remove (locks_of old.live older) (Session s))
      → record (plain_of old) { live = live; waiting = waiting } ≡ f (plain_of old)
      → Aborts f old (record old { live = live; waiting = waiting; locks = locks; rows = rows })
  ended f live waiting o at none unlocked plain = record {
    plain = plain;
    at = refl;
    inbox = refl;
    ring = record { ring = refl; since = refl; id = refl };
    certification = refl;
    units = refl;
    spare = spare;
    room = room;
    locks = λ older same.
        alike_between _ _ _ _ released
        (alike-remove old.locks.locks (locks_of old.live older) (Session s) same)
        (sym (unlocked older));
    rows = λ base tabled.
        tabled-cleared base old.live old.rows rows tabled live s o at (none base) committed changes;
  }

  -- it lives on without locks
  pub kill_lives : (u : Live) (live : FiniteMap nat_cmp Live)
      → live ≡ insert (remove old.live s) s u
      → (o : Outcome) → o ≡ Lives → (o, u) ≡ killed_by number t
      → Aborts (λ n. end_killed number n s) old
      (record old { live = live; locks = locks; rows = rows })
  kill_lives u live put o is by =
      let killed : ◌≡◌ {A = Outcome × Live} (Lives, u) (killed_by number t) =
      ap (λ (p : Outcome). (p, u)) (sym is) ∙ by in
      let none = killed_unlocked t u t.status number refl killed in
      rw (put, insert-remove numbers old.live s u)
      (ended (λ n. end_killed number n s) (insert old.live s u) old.waiting (Some u)
      (put_at old.live s u)
      (λ base id. ap (λ b. cond (b && changes_row id u.ops) (Some (get (ops_on u.ops base) id))
      None) none)
      (λ older. locks_of-unlocked old.live older s u (ap (λ b. lock_keys b u.keys) none))
      (ap (told (plain_of old) s) killed ∙ ap (ended_session number (plain_of old) s) (sym there)))

  -- it ends
  pub kill_ends : (u : Live) (reply : Reply) (live : FiniteMap nat_cmp Live)
      (waiting : FiniteMap nat_cmp Reply) → live ≡ remove old.live s
      → waiting ≡ insert old.waiting s reply
      → (o : Outcome) → o ≡ Ends reply → (o, u) ≡ killed_by number t
      → Aborts (λ n. end_killed number n s) old
      (record old { live = live; waiting = waiting; locks = locks; rows = rows })
  kill_ends u reply live waiting gone told_so o is by =
      rw (gone, told_so)
      (ended (λ n. end_killed number n s) (remove old.live s) (insert old.waiting s reply) None
      (ended_at old.live s) (λ base id. refl) (λ older. locks_of-remove old.live older s)
      (ap (told (plain_of old) s) (ap (λ (p : Outcome). (p, u)) (sym is) ∙ by)
      ∙ ap (ended_session number (plain_of old) s) (sym there)))

-- ---- one after another
-- one more of the sessions
pub kills_more : (number : ℕ) (sessions : List ℕ) (i d : ℕ) (a b c : NodeParts)
    → i < length sessions → Aborts (λ n. fold (end_killed number) n (take i sessions)) a b
    → Aborts (λ n. end_killed number n (get_or sessions i d)) b c
    → Aborts (λ n. fold (end_killed number) n (take (i + 1) sessions)) a c
kills_more number sessions i d a b c below one two = record {
  plain = two.plain ∙ ap (λ n. end_killed number n (get_or sessions i d)) one.plain
      ∙ sym (fold_more (end_killed number) (plain_of a) sessions i d below);
  at = two.at ∙ one.at;
  inbox = two.inbox ∙ one.inbox;
  ring = rings_kept a b c one.ring two.ring;
  certification = two.certification ∙ one.certification;
  units = two.units ∙ one.units;
  spare = omega (arith, one.spare, two.spare);
  room = omega (arith, one.room, two.room);
  locks = λ older is. two.locks older (one.locks older is);
  rows = λ rows tabled. two.rows rows (one.rows rows tabled);
}
