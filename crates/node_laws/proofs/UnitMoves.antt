-- Starting a unit is a move for each victim and one for the unit; finishing it is one.
use Rattle.std.proofs.Common.{◌≡◌, ℕ, ◌+◌, ◌≤◌, ◌<◌, ◌^◌, Bool, true, false, cond, List, [], ◌∷◌, Option, None, Some, refl, ap, sym, subst, ◌∙◌, arith, length, true≢false}
use Rattle.std.specs.Prelude.{◌&&◌, nat_lt, is_some, fold}
use Rattle.std.specs.Ordering.{nat_cmp}
use Rattle.std.proofs.lemmas.Bool.{false_from_ne_true}
use Rattle.finite_map.specs.FiniteMap.{FiniteMap, get, insert, len}
use Rattle.finite_map.proofs.Edits.{numbers, insert-there, len-left}
use Rattle.wsrep_base.specs.Trx.{greatest}
use Rattle.key_sets.specs.Keys.{touches}
use Rattle.row_model.specs.declared.calls.Reply.TheVariants as reply
use Rattle.order_event.specs.declared.event.Event.{Event}
use Rattle.order_event.specs.declared.step.Answer.TheVariants as answer
use Rattle.cert_meaning.specs.declared.items.CommitItem.{CommitItem}
use Rattle.write_set.specs.declared.write_set.WriteSet.{WriteSet}
use Rattle.client_trx.specs.Live.{Live, has_locks, is_uncommitted, rollback_of, rollback_due, killed_by, killed_in}
use Rattle.client_trx.specs.declared.status.Outcome.{Outcome}
use Rattle.client_trx.specs.declared.status.Outcome.TheVariants.{Lives, Ends as Stops}
use Rattle.client_trx.specs.declared.status.Status.{Status}
use Rattle.client_trx.specs.declared.status.Status.TheVariants as status
use Rattle.row_locks.specs.Locks.{touching_sessions}
use Rattle.node_meaning.specs.declared.progress.Stage.{Stage}
use Rattle.node_meaning.specs.declared.progress.Stage.TheVariants.{Started, Finished}
use Rattle.node_meaning.specs.Node.{ModelNode, ApplyUnit, locks_of, set_live, send, send_any, ahead, passed_at}
use Rattle.node_meaning.specs.Steps.{is_certified_at, is_local, told, killed_session, kill_session, started, touching_before, start_after, start_unit, start_step, finish_stage, finish_unit, finish_step}
use Rattle.node_meaning.proofs.EntryLaws.{no_entry, entries_fail}
use Rattle.node_meaning.proofs.TouchedLocks.{Touched, touched_in}
use Rattle.node_meaning.proofs.StartFacts.{kills_fewer, kills_unlock}
use Rattle.node_meaning.specs.Facts.{ProgressInRange}
use Rattle.node_laws.proofs.Counts.{Grows, reach_grows}
use Rattle.node_laws.proofs.Moves.{Unlocked, Sent, Passed, MayStart, with_unit, ended_with, Ends, TakesBack, Unlocks, Starts, Finishes, Reaches, Here, one, worked, joined, chosen, to_same}

pub put_again : (n : ModelNode) (s : ℕ) (t : Live) → get n.live s ≡ Some t → set_live n s t ≡ n
put_again n s t there = ap (λ (live : FiniteMap nat_cmp Live). record n { live = live }) (insert-there numbers n.live s t there)

-- ---- what is known where rollbacks may be sent
-- the node's numbers are in range, also with a write set of each live transaction
pub record CanTakeBack (n : ModelNode) : Type 0 where
  pub member : n.at.member < 2 ^ 32
  pub committed : n.at.committed < 2 ^ 64
  pub serial : n.at.serial + len n.live ≤ 2 ^ 64
  pub begin : n.at.begin < 2 ^ 64

-- moves that pay nothing and commit nothing leave it so
pub still_back : (n m : ModelNode) → Grows 0 n m → m.at.committed ≡ n.at.committed → CanTakeBack n → CanTakeBack m
still_back n m grows committed can = record {
  member = subst (λ k. k < 2 ^ 32) (sym grows.member) can.member;
  committed = subst (λ k. k < 2 ^ 64) (sym committed) can.committed;
  serial = omega (arith, grows.serial, can.serial);
  begin = omega (arith, grows.begin, can.begin);
}

pub range_back : (n : ModelNode) (s : ℕ) (t : Live) → get n.live s ≡ Some t → CanTakeBack n → ProgressInRange n.at
range_back n s t there can =
    let l = len-left numbers n.live s t there in
    record { member = can.member; committed = can.committed; serial = omega (arith, can.serial, l); begin = can.begin }

-- ---- kills change live transactions, waiting answers and what is sent alone, whatever the units are
abbrev pub IsOnly : ModelNode → ModelNode → Type 0
IsOnly n m =
    m ≡ record n {
      at = record n.at { serial = m.at.serial };
      outbox = m.outbox;
      live = m.live;
      waiting = m.waiting;
    }

abbrev pub over : FiniteMap nat_cmp ApplyUnit → ModelNode → ModelNode
over units n = record n { units = units }

any_only : (n : ModelNode) (s : ℕ) (due : Option WriteSet) (x : Outcome × Live) → IsOnly n (told (send_any n due) s x)
any_only n s None (Lives, t) = refl
any_only n s None (Stops reply, t) = refl
any_only n s (Some w) (Lives, t) = refl
any_only n s (Some w) (Stops reply, t) = refl

any_over : (units : FiniteMap nat_cmp ApplyUnit) (n : ModelNode) (s : ℕ) (due : Option WriteSet) (x : Outcome × Live)
    → told (send_any (over units n) due) s x ≡ over units (told (send_any n due) s x)
any_over units n s None (Lives, t) = refl
any_over units n s None (Stops reply, t) = refl
any_over units n s (Some w) (Lives, t) = refl
any_over units n s (Some w) (Stops reply, t) = refl

module _ (number : ℕ) where
  pub session_only : (n : ModelNode) (s : ℕ) (o : Option Live) → IsOnly n (killed_session number n s o)
  session_only n s None = refl
  session_only n s (Some t) = any_only n s (rollback_due t n.at.serial n.at.committed) (killed_by number t)

  session_over : (units : FiniteMap nat_cmp ApplyUnit) (n : ModelNode) (s : ℕ) (o : Option Live)
      → killed_session number (over units n) s o ≡ over units (killed_session number n s o)
  session_over units n s None = refl
  session_over units n s (Some t) = any_over units n s (rollback_due t n.at.serial n.at.committed) (killed_by number t)

  kills_only : (victims : List ℕ) (n : ModelNode) → IsOnly n (fold (kill_session number) n victims)
  kills_only [] n = refl
  kills_only (v ∷ vs) n =
      let last = fold (kill_session number) (kill_session number n v) vs in
      kills_only vs (kill_session number n v)
      ∙ ap (λ (m : ModelNode). record m {
        at = record m.at { serial = last.at.serial };
        outbox = last.outbox;
        live = last.live;
        waiting = last.waiting;
      }) (session_only n v (get n.live v))

  pub kills_over : (units : FiniteMap nat_cmp ApplyUnit) (victims : List ℕ) (n : ModelNode)
      → fold (kill_session number) (over units n) victims ≡ over units (fold (kill_session number) n victims)
  kills_over units [] n = refl
  kills_over units (v ∷ vs) n =
      ap (λ m. fold (kill_session number) m vs) (session_over units n v (get n.live v)) ∙ kills_over units vs (kill_session number n v)

-- ---- one transaction is killed
module _ (order : List Event) (given : Type 0) (number : ℕ) where
  -- what is known of each node on the way
  abbrev pub Room : ModelNode → Type 0
  Room n = given → n.at.committed ≤ length order → CanTakeBack n

  status_moves : (n : ModelNode) (s : ℕ) (t : Live) (st : Status) → get n.live s ≡ Some t → t.status ≡ st
      → Reaches order given true n 0 (told n s (killed_in st number t))
  status_moves n s t status.Running there now = one 0 n _ (Ends s t (Some (reply.DeadlockBf number)) there)
  status_moves n s t status.FragmentSent there now = one 0 n _ (Ends s t (Some (reply.DeadlockBf number)) there)
  status_moves n s t status.CommitSent there now =
      one 0 n _ (Unlocks s t status.KilledSent there (subst (λ x. Unlocked x status.KilledSent) (sym now) Sent))
  status_moves n s t (status.Certified m) there now =
      one 0 n _ (Unlocks s t (status.Replaying m) there (subst (λ x. Unlocked x (status.Replaying m)) (sym now) (Passed m)))
  status_moves n s t status.KilledSent there now = to_same 0 n n _ (put_again n s t there) Here
  status_moves n s t (status.Replaying m) there now = to_same 0 n n _ (put_again n s t there) Here

  module _ (n : ModelNode) (s : ℕ) (t : Live) (there : get n.live s ≡ Some t) (room : Room n) where
    takes_back : (w : WriteSet) → rollback_due t n.at.serial n.at.committed ≡ Some w
        → Reaches order given true n 0 (ended_with n s w (Some (reply.DeadlockBf number)))
    takes_back w due =
        one 0 n _ (TakesBack s t w (Some (reply.DeadlockBf number)) there due (λ g inside. range_back n s t there (room g inside)))

    back_moves : (w : WriteSet) → rollback_due t n.at.serial n.at.committed ≡ Some w → (st : Status) → is_uncommitted st ≡ true
        → Reaches order given true n 0 (told (send n w) s (killed_in st number t))
    back_moves w due status.Running may = takes_back w due
    back_moves w due status.FragmentSent may = takes_back w due
    back_moves w due status.CommitSent may = cc
    back_moves w due (status.Certified m) may = cc
    back_moves w due status.KilledSent may = cc
    back_moves w due (status.Replaying m) may = cc

    due_open : (w : WriteSet) (a b : Bool) → cond (a && b) (Some (rollback_of t n.at.serial n.at.committed)) None ≡ Some w → a ≡ true
    due_open w true b due = refl
    due_open w false b due = cc

    due_moves : (due : Option WriteSet) → rollback_due t n.at.serial n.at.committed ≡ due
        → Reaches order given true n 0 (told (send_any n due) s (killed_in t.status number t))
    due_moves None due = status_moves n s t t.status there refl
    due_moves (Some w) due = back_moves w due t.status (due_open w (is_uncommitted t.status) (nat_lt 0 t.sent) due)

  pub session_moves : (n : ModelNode) (s : ℕ) (o : Option Live) → get n.live s ≡ o → Room n → Reaches order given true n 0 (killed_session number n s o)
  session_moves n s None there room = Here
  session_moves n s (Some t) there room = due_moves n s t there room (rollback_due t n.at.serial n.at.committed) refl

  kills_moves : (victims : List ℕ) (n : ModelNode) → Room n → Reaches order given true n 0 (fold (kill_session number) n victims)
  kills_moves [] n room = Here
  kills_moves (v ∷ vs) n room =
      let next = kill_session number n v in
      let first = session_moves n v (get n.live v) refl room in
      let same : next.at.committed ≡ n.at.committed = ap (λ (m : ModelNode). m.at.committed) (session_only number n v (get n.live v)) in
      joined n next 0 _ first (kills_moves vs next (λ g inside.
      still_back n next (reach_grows order given true n 0 next first) same (room g (omega (arith, inside, same)))))

locked_from : (number : ℕ) (st : Status) → is_certified_at number st ≡ true → has_locks st ≡ true
locked_from number status.Running h = refl
locked_from number status.FragmentSent h = refl
locked_from number status.CommitSent h = refl
locked_from number (status.Certified m) h = refl
locked_from number status.KilledSent h = cc
locked_from number (status.Replaying m) h = cc

-- ---- the unit starts
module _ (order : List Event) (given : Type 0) (n : ModelNode) (number : ℕ) where
  module _ (room : given → n.at.committed ≤ length order → CanTakeBack n) where
    module _ (commit : CommitItem) (passed : passed_at order n.at.committed n.at.certified number ≡ Some commit)
        (fresh : get n.units number ≡ None) (remote : is_local n.live number ≡ false)
        (clear : greatest (touching_before (ahead order n.at.committed n.at.certified) number commit.keys) ≡ None) where
      abbrev victims : List ℕ
      victims = touching_sessions (locks_of n.live n.units) commit.keys

      abbrev killed : ModelNode
      killed = fold (kill_session number) n victims

      units_are : killed.units ≡ n.units
      units_are = ap (λ (m : ModelNode). m.units) (kills_only number victims n)

      may_start : MayStart order killed number commit
      may_start = record {
        passed = ap (λ (m : ModelNode). passed_at order m.at.committed m.at.certified number) (kills_only number victims n) ∙ passed;
        fresh = ap (λ (units : FiniteMap nat_cmp ApplyUnit). get units number) units_are ∙ fresh;
        remote = entries_fail killed.live (λ e. is_certified_at number e.1.status) (λ s t there.
            false_from_ne_true (is_certified_at number t.status) (λ yes.
            true≢false (sym yes ∙ no_entry n.live (λ e. is_certified_at number e.1.status) s t remote
            (kills_fewer number victims n s t there (locked_from number t.status yes)))));
        clear = ap (λ (m : ModelNode). greatest (touching_before (ahead order m.at.committed m.at.certified) number commit.keys)) (kills_only number victims n) ∙ clear;
        free = λ s t there locks.
            false_from_ne_true (touches commit.keys t.keys) (λ touching.
            let before = kills_fewer number victims n s t there locks in
            let way : Touched n.live commit.keys s = record { trx = t; is = before; locked = locks; touches = touching } in
            true≢false (sym locks ∙ kills_unlock number victims n s t (touched_in n.live n.units commit.keys s way) there));
      }

      pub started_moves : Reaches order given true n 0 (started n number commit.keys victims).1
      started_moves =
          let u : ApplyUnit = record { stage = Started; keys = commit.keys } in
          to_same 0 n (with_unit killed number u) _
          (kills_over number (insert n.units number u) victims n
          ∙ ap (λ (units : FiniteMap nat_cmp ApplyUnit). over (insert units number u) killed) (sym units_are))
          (joined n killed 0 _ (kills_moves order given number victims n room) (worked 0 killed _ (Starts number commit may_start)))

    after_moves : (commit : CommitItem) → passed_at order n.at.committed n.at.certified number ≡ Some commit → get n.units number ≡ None
        → is_local n.live number ≡ false → (o : Option ℕ)
        → greatest (touching_before (ahead order n.at.committed n.at.certified) number commit.keys) ≡ o
        → Reaches order given true n 0 (start_after n number commit.keys o).1
    after_moves commit passed fresh remote (Some earlier) is = Here
    after_moves commit passed fresh remote None is = started_moves commit passed fresh remote is

    none_from : (o : Option ApplyUnit) → is_some o ≡ false → o ≡ None
    none_from None h = refl
    none_from (Some u) h = cc

    commit_moves : (o : Option CommitItem) → passed_at order n.at.committed n.at.certified number ≡ o → Reaches order given true n 0 (start_unit order n number o).1
    commit_moves None passed = Here
    commit_moves (Some commit) passed =
        let way = greatest (touching_before (ahead order n.at.committed n.at.certified) number commit.keys) in
        let after = start_after n number commit.keys way in
        chosen 0 n (is_some (get n.units number)) (answer.NoUnit number, n) _ (λ _. Here) (λ fresh.
        chosen 0 n (is_local n.live number) (answer.Local number, n) after (λ _. Here) (λ remote.
        after_moves commit passed (none_from (get n.units number) fresh) remote way refl))

    pub start_moves : Reaches order given true n 0 (start_step order n number).1
    unfolding start_step
    start_moves = commit_moves (passed_at order n.at.committed n.at.certified number) refl

  -- ---- it finishes
  stage_moves : (u : ApplyUnit) (stage : Stage) → get n.units number ≡ Some u → u.stage ≡ stage
      → Reaches order given true n 0 (finish_stage n number u.keys stage).1
  stage_moves u Started there is = worked 0 n _ (Finishes number u there is)
  stage_moves u Finished there is = Here

  unit_moves : (o : Option ApplyUnit) → get n.units number ≡ o → Reaches order given true n 0 (finish_unit n number o).1
  unit_moves None there = Here
  unit_moves (Some u) there = stage_moves u u.stage there refl

  pub finish_moves : Reaches order given true n 0 (finish_step n number).1
  unfolding finish_step
  finish_moves = unit_moves (get n.units number) refl
