-- What the client calls of a node leave of it.
use Rattle.std.proofs.Common.{rules, ◌≡◌, ◌+◌, ◌≤◌, ℕ, zero, suc, Bool, true, false, cond, ◌&&◌, List, [], ◌∷◌, length, refl, sym, ap, subst, ◌∙◌, arith}
use Rattle.std.proofs.Math.Dec.{eqb-suc-zero}
use Rattle.std.specs.Prelude.{Option, Some, None, Result, Ok, Err, OnErr, is_some, not, nat_lt, ◌==◌, IsTrue}
use Rattle.std.specs.Ordering.{nat_cmp}
use Rattle.finite_map.proofs.Edits.{numbers, remove-absent, insert-remove}
use Rattle.finite_map.specs.FiniteMap.{FiniteMap, get, insert, remove, empty, len-empty}
use Rattle.key_sets.specs.Parts.{parts_cmp}
use Rattle.key_sets.specs.declared.kind.Kind.{Kind}
use Rattle.row_model.specs.declared.calls.Reply.TheVariants as reply
use Rattle.row_model.specs.declared.ops.Op.{Op}
use Rattle.order_event.specs.declared.event.Event.{Event}
use Rattle.write_set.specs.declared.write_set.WriteSet.{WriteSet}
use Rattle.client_trx.specs.Live.{Live, has_locks, is_running, begun, with_status, commit_of, is_uncommitted, rollback_of, rollback_due}
use Rattle.client_trx.specs.declared.status.Status.{Status}
use Rattle.client_trx.specs.declared.status.Status.TheVariants as status
use Rattle.row_locks.specs.declared.holder.Holder.TheVariants.{Session}
use Rattle.row_locks.specs.Alike.{HoldAlike}
use Rattle.row_locks.specs.Locks.{LockState}
use Rattle.row_locks.proofs.AlikeLaws.{alike_between, alike-remove}
use Rattle.undo_rows.specs.RowTable.{RowTable, without}
use Rattle.node_meaning.specs.Node.{ModelNode, rows_at, locks_of, end_live, send_any}
use Rattle.node_meaning.specs.Client.{begin_call, commit_call, rollback_call, is_pending}
use Rattle.node_meaning.specs.Facts.{ProgressInRange}
use Rattle.node_meaning.proofs.LockLaws.{lock_keys, lock_of_live, locks_of-remove, locks_of-replace, locks_of-same}
use Rattle.node_core.specs.declared.node.NodeParts.{NodeParts}
use Rattle.node_core.specs.Client.{sends_commit, sends_rollback}
use Rattle.node_core.specs.Sending.{node_sent, node_sent_any, with_commit}
use Rattle.node_core.specs.Tabled.{Tabled, made_by}
use Rattle.node_laws.proofs.StepFacts.{begin_keeps, commit_keeps, rollback_keeps}
use Rattle.node_core.specs.Stands.{Stands, AreWorked, Unchanged, Moves, DoneOver, plain_of}
use Rattle.node_core.proofs.Standing.{done_by, rings_kept, unchanged_ring}
use Rattle.node_core.proofs.Tabling.{same_tabled, made-alike, put_at, ended_at, tabled-cleared, tabled-left}

-- more room changes nothing that it stands for
pub unchanged_stands : (order : List Event) (old new : NodeParts) → Unchanged old new → Stands order old → Stands order new
unchanged_stands order old new same st =
    let units : new.units ≡ old.units = λ i. record {
      units = (same.plain i).units;
      work = same.work i;
      room = same.unit_room i;
    } in
    (done_by {A = Unit {0}} order (λ n. (tt, n)) old new tt st (ap (λ n. (tt, n)) same.plain)
    (λ f. f) old.at.serial old.at.begin (ap (λ (n : ModelNode). n.at) same.plain)
    (unchanged_ring old new same) same.inbox same.certification
    (record {
      locks = alike_between _ _ _ _ same.locks st.tables.locks
          (ap (λ (n : ModelNode). locks_of n.live n.units) (sym same.plain));
      rows = subst (λ (n : ModelNode). Tabled (rows_at order n.at.committed) n.live new.rows)
          (sym same.plain)
          (same_tabled (rows_at order old.at.committed) old.live old.rows new.rows st.tables.rows
          same.committed same.changes);
      units = subst (AreWorked order) (sym units) st.tables.units;
      room = omega (arith, st.tables.room, same.unit_room, same.room);
    })).stands

-- ---- a transaction that is Running
pub running_status : (s : Status) → not (is_running s) ≡ false → s ≡ status.Running
running_status status.Running h = refl
running_status _ h = cc

-- what holds, holds where memory ends
pub where_err : {A E P : Type 0} (r : Result A E) → P → OnErr r P
where_err (Ok x) h = tt
where_err (Err e) h = h

-- ---- a transaction ends
pub moves_ended : (old : NodeParts) (s : ℕ) (live : FiniteMap nat_cmp Live) (locks : LockState)
    (rows : RowTable) → live ≡ remove old.live s → locks.locks ≡ remove old.locks.locks (Session s)
    → rows.committed ≡ old.rows.committed → rows.changes ≡ without old.rows.changes s
    → old.rows.spare ≤ rows.spare
    → Moves (λ n. end_live n s) old (record old { live = live; locks = locks; rows = rows })
moves_ended old s live locks rows gone released committed changes spare = record {
  plain = ap (λ l. record (plain_of old) { live = l }) gone;
  inbox = refl;
  ring = record { ring = refl; since = refl; id = refl };
  certification = refl;
  tables = λ order tables.
      let base = rows_at order old.at.committed in record {
        locks = alike_between _ _ _ _ released
            (alike-remove old.locks.locks _ (Session s) tables.locks)
            (sym (locks_of-remove old.live old.units.units s)
            ∙ ap (λ l. locks_of l old.units.units) (sym gone));
        rows = subst (λ l. Tabled base l rows) (sym gone)
            (tabled-cleared base old.live old.rows rows tables.rows (remove old.live s) s None
            (ended_at old.live s) (λ id. refl) committed changes);
        units = tables.units;
        room = omega (arith, tables.room, spare);
      };
}

-- what a node sends changes none of its tables
sends_any : (node : NodeParts) (o : Option WriteSet)
    → Moves (λ n. send_any n o) node (node_sent_any node o)
sends_any node None = search rules
sends_any node (Some w) = search rules

sent_at : (n : ModelNode) (o : Option WriteSet)
    → (send_any n o).at ≡ record n.at { serial = (send_any n o).at.serial }
sent_at n None = refl
sent_at n (Some w) = refl

-- the rollback that is due is sent, and the transaction ends
pub rolled_back : (order : List Event) (old mid new : NodeParts) (s : ℕ) (t : Live) (due : Option WriteSet) → get old.live s ≡ Some t
    → ProgressInRange old.at → due ≡ rollback_due t old.at.serial old.at.committed → mid ≡ node_sent_any old due
    → Moves (λ n. end_live n s) mid new → Stands order old
    → DoneOver order (λ n. rollback_call n s (get n.live s)) old new reply.RolledBack
rolled_back order old mid new s t due is range due_is mid_is moves st =
    let w = rollback_due t old.at.serial old.at.committed in
    let sent = sends_any old w in
    let ended = subst (λ m. Moves (λ n. end_live n s) m new)
    (mid_is ∙ ap (node_sent_any old) due_is) moves in
    let plain = ended.plain ∙ ap (λ n. end_live n s) sent.plain in
    done_by order (λ n. rollback_call n s (get n.live s)) old new reply.RolledBack st
    (ap (λ n. (reply.RolledBack, n)) plain ∙ ap (rollback_call (plain_of old) s) (sym is))
    (rollback_keeps order (plain_of old) s (get old.live s) refl range)
    (send_any (plain_of old) w).at.serial old.at.begin
    (ap (λ (n : ModelNode). n.at) plain ∙ sent_at (plain_of old) w)
    (rings_kept old (node_sent_any old w) new sent.ring ended.ring)
    (ended.inbox ∙ sent.inbox) (ended.certification ∙ sent.certification)
    (ended.tables order (sent.tables order st.tables))

-- a rollback is due only where a fragment was sent
back_due : (b c : Bool) (w : WriteSet) → is_some (cond (b && c) (Some w) None) ≡ true → c ≡ true
back_due true true w some = refl
back_due true false w some = cc
back_due false c w some = cc

pub sends_back : (o : Option Live) (t : Live) (due : Option WriteSet) (serial last_seen : ℕ) → o ≡ Some t
    → due ≡ rollback_due t serial last_seen → IsTrue (is_some due) → IsTrue (sends_rollback o)
sends_back o t due serial last_seen is due_is some =
    ap sends_rollback is
    ∙ back_due (is_uncommitted t.status) (nat_lt 0 t.sent) (rollback_of t serial last_seen) (ap is_some (sym due_is) ∙ some)

pub committed_nothing : (order : List Event) (old new : NodeParts) (s : ℕ) (t : Live)
    → get old.live s ≡ Some t → is_pending (get old.live s) ≡ false
    → (length t.ops == 0 && t.sent == 0) ≡ true → ProgressInRange old.at
    → Moves (λ n. end_live n s) old new → Stands order old
    → DoneOver order (λ n. commit_call n s (get n.live s)) old new (reply.Committed 0)
committed_nothing order old new s t is idle none range moves st =
    done_by order (λ n. commit_call n s (get n.live s)) old new (reply.Committed 0) st
    (rw (is, none) (ap (λ n. (reply.Committed 0, n)) moves.plain))
    (commit_keeps order (plain_of old) s (get old.live s) refl idle range)
    old.at.serial old.at.begin (ap (λ (n : ModelNode). n.at) moves.plain)
    moves.ring moves.inbox moves.certification (moves.tables order st.tables)

-- ---- a transaction begins
pub is_free : {A : Type 0} (o : Option A) → is_some o ≡ false → o ≡ None
is_free None none = refl
is_free (Some a) none = cc

no_lock : lock_keys true empty ≡ None
no_lock = ap (λ n. cond (n == 0) None (Some empty)) (len-empty parts_cmp Kind)

pub began : (order : List Event) (old : NodeParts) (s unit : ℕ) (live : FiniteMap nat_cmp Live)
    → is_some (get old.live s) ≡ false
    → live ≡ insert old.live s
    (begun (record { member = old.at.member; begin = old.at.begin }) unit) → Stands order old
    → DoneOver order (λ n. begin_call n s unit (get n.live s)) old
    (record old { at = record old.at { begin = old.at.begin + 1 }; live = live }) reply.Done
began order old s unit live absent put st =
    let t = begun (record { member = old.at.member; begin = old.at.begin }) unit in
    let base = rows_at order old.at.committed in
    let free = is_free (get old.live s) absent in
    rw put (done_by order (λ n. begin_call n s unit (get n.live s)) old _ reply.Done st
    (ap (begin_call (plain_of old) s unit) (sym free))
    (begin_keeps order (plain_of old) s unit (get old.live s) refl) old.at.serial (old.at.begin + 1)
    refl (record { ring = refl; since = refl; id = refl }) refl refl
    (record {
      locks = subst (HoldAlike old.locks.locks)
          (sym (locks_of-replace old.live old.units.units s t (ap lock_of_live free ∙ sym no_lock)))
          st.tables.locks;
      rows = tabled-left base old.live old.rows old.rows st.tables.rows (insert old.live s t) s
          (Some t) (put_at old.live s t) (λ id. ap (made_by base id) (sym free)) refl refl;
      units = st.tables.units;
      room = st.tables.room;
    }))

-- ---- a commit is sent
-- the node once the commit of the session's transaction is sent
abbrev pub after_commit : NodeParts → ℕ → Live → NodeParts
after_commit old s t = record (node_sent old (commit_of t old.at.serial old.at.committed)) {
  live = insert old.live s (with_status t status.CommitSent);
}

pub commit_by_none : (node : NodeParts) (s : ℕ) (taken : FiniteMap nat_cmp Live) → None ≡ get node.live s → taken ≡ remove node.live s
    → record node { live = taken } ≡ record node { live = with_commit node.live s (get node.live s) }
commit_by_none node s taken none left =
    ap (λ l. record node { live = l }) (left ∙ remove-absent numbers node.live s (sym none) ∙ ap (with_commit node.live s) none)

pub commit_put : (node : NodeParts) (s : ℕ) (trx new : Live) (taken live : FiniteMap nat_cmp Live) → Some trx ≡ get node.live s
    → taken ≡ remove node.live s → new ≡ with_status trx status.CommitSent → live ≡ insert taken s new
    → record node { live = live } ≡ record node { live = with_commit node.live s (get node.live s) }
commit_put node s trx new taken live mine left new_is live_is =
    ap (λ l. record node { live = l })
    (live_is ∙ ap (λ l. insert l s new) left ∙ insert-remove numbers node.live s new ∙ ap (insert node.live s) new_is
    ∙ ap (with_commit node.live s) mine)

pub sent_node : (old mid : NodeParts) (s : ℕ) (t : Live) (w : WriteSet) → get old.live s ≡ Some t → mid ≡ node_sent old w
    → w ≡ commit_of t old.at.serial old.at.committed
    → record mid { live = with_commit mid.live s (get mid.live s) } ≡ after_commit old s t
sent_node old mid s t w is mid_is w_is =
    ap (λ (n : NodeParts). record n { live = with_commit n.live s (get n.live s) }) (mid_is ∙ ap (node_sent old) w_is)
    ∙ ap (λ o. record (node_sent old (commit_of t old.at.serial old.at.committed)) { live = with_commit old.live s o }) is

pub commit_sent : (order : List Event) (old new : NodeParts) (s : ℕ) (t : Live)
    → get old.live s ≡ Some t → is_pending (get old.live s) ≡ false
    → (length t.ops == 0 && t.sent == 0) ≡ false → ProgressInRange old.at
    → new ≡ after_commit old s t → Stands order old
    → DoneOver order (λ n. commit_call n s (get n.live s)) old new reply.Pending
commit_sent order old new s t is idle some range new_is st =
    let u = with_status t status.CommitSent in
    let base = rows_at order old.at.committed in
    let locked = ap has_locks (running_status t.status (ap is_pending (sym is) ∙ idle)) in
    rw new_is (done_by order (λ n. commit_call n s (get n.live s)) old (after_commit old s t)
    reply.Pending st (rw (is, some) refl)
    (commit_keeps order (plain_of old) s (get old.live s) refl idle range)
    (old.at.serial + 1) old.at.begin refl (record { ring = refl; since = refl; id = refl })
    refl refl
    (record {
      locks = subst (HoldAlike old.locks.locks)
          (sym (locks_of-same old.live old.units.units s t u is (sym locked) refl)) st.tables.locks;
      rows = tabled-left base old.live old.rows old.rows st.tables.rows (insert old.live s u) s
          (Some u) (put_at old.live s u) (λ id. made-alike base id u t (sym locked) refl
          ∙ ap (made_by base id) (sym is)) refl refl;
      units = st.tables.units;
      room = st.tables.room;
    }))

pub nothing_done : (ops : List Op) (sent : ℕ) → ops ≡ [] → sent ≡ 0 → (length ops == 0 && sent == 0) ≡ true
nothing_done ops sent no_ops none = λ i. length (no_ops i) == 0 && none i == 0

pub some_done : (ops : List Op) (sent : ℕ) → (ops ≡ [] → sent ≡ 0 → ⊥) → (length ops == 0 && sent == 0) ≡ false
some_done [] zero some = absurd (some refl refl)
some_done [] (suc n) some = eqb-suc-zero n
some_done (x ∷ ops) sent some = ap (λ b. b && sent == 0) (eqb-suc-zero (length ops))

-- a commit that changes something is sent
pub sends : {T E : Type 0} (r : Result T E) (o : Option Live) (t : Live) → o ≡ Some t → (length t.ops == 0 && t.sent == 0) ≡ false
    → OnErr r (IsTrue (sends_commit o))
sends (Ok x) o t is some = tt
sends (Err e) o t is some = ap sends_commit is ∙ ap not some
