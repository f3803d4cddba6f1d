-- A unit that starts aborts transactions: each answer that this leaves claims what holds.
use Rattle.std.proofs.Common.{◌≡◌, ℕ, ◌≤◌, true, List, [], ◌∷◌, inl, inr, Option, Some, None, refl, ap, sym, subst, ◌∙◌}
use Rattle.std.specs.Prelude.{fold, is_some}
use Rattle.std.specs.Ordering.{nat_cmp}
use Rattle.std.proofs.lemmas.Option.{same_Some}
use Rattle.std.proofs.lemmas.Bool.{cond_both}
use Rattle.finite_map.specs.FiniteMap.{FiniteMap, get, insert}
use Rattle.wsrep_base.specs.Trx.{greatest}
use Rattle.key_sets.specs.Keys.{touches}
use Rattle.key_sets.proofs.ListLemmas.{In}
use Rattle.row_model.specs.declared.calls.Reply.TheVariants as reply
use Rattle.order_event.specs.declared.event.Event.{Event}
use Rattle.order_event.specs.declared.step.Answer.{Answer}
use Rattle.write_set.specs.declared.write_set.WriteSet.{WriteSet}
use Rattle.cert_meaning.specs.declared.items.CommitItem.{CommitItem}
use Rattle.client_trx.specs.Live.{Live, has_locks, is_uncommitted, killed_in, rollback_due, with_status}
use Rattle.client_trx.specs.declared.status.Status.{Status}
use Rattle.client_trx.specs.declared.status.Status.TheVariants as status
use Rattle.row_locks.specs.Locks.{touching_sessions}
use Rattle.node_meaning.specs.declared.progress.Stage.TheVariants.{Started}
use Rattle.node_meaning.specs.Node.{ModelNode, ApplyUnit, locks_of, set_live, send_any, end_with, ahead, passed_at}
use Rattle.node_meaning.specs.Steps.{told, killed_session, kill_session, is_local, touching_before, started, start_after, start_unit, start_step}
use Rattle.node_meaning.specs.Facts.{commit_at, ProgressInRange}
use Rattle.node_meaning.proofs.TouchedLocks.{touched_from}
use Rattle.node_meaning.proofs.PassedLaws.{from_passed}
use Rattle.node_meaning.proofs.StartFacts.{kill_leaves}
use Rattle.node_laws.proofs.Counts.{reach_grows}
use Rattle.node_laws.proofs.Moves.{Reaches}
use Rattle.node_laws.proofs.UnitMoves.{CanTakeBack, over, kills_over, session_only, session_moves, still_back, range_back}
use Rattle.course_laws.proofs.PendingSets.{within_order}
use Rattle.answer_laws.specs.Answers.{Asker, asker_of}
use Rattle.answer_laws.proofs.Causes.{shut_ended, shut_back, unit_defeats}
use Rattle.answer_laws.proofs.Telling.{Stays, Waits, Tells, same_tells, put_tells, end_tells, still_waits, still_kept}

module _ (order : List Event) (member number : ℕ) (item : CommitItem)
    (is : commit_at order number ≡ Some item) where
  -- ---- one transaction
  module _ (n : ModelNode) (h : Stays order member n) (within : number ≤ n.at.certified)
      (s : ℕ) (t : Live) (there : get n.live s ≡ Some t) (range : ProgressInRange n.at) where
    put_due : (due : Option WriteSet) (u : Live) → asker_of t ≡ asker_of u
        → Tells order n (set_live (send_any n due) s u)
    put_due None u same = put_tells order n _ s t u there same refl refl
    put_due (Some w) u same = put_tells order n _ s t u there same refl refl

    module _ (touching : touches item.keys t.keys ≡ true)
        (may : is_uncommitted t.status ≡ true) where
      end_due : (due : Option WriteSet) → rollback_due t n.at.serial n.at.committed ≡ due
          → Tells order n (end_with (send_any n due) s (reply.DeadlockBf number))
      end_due None due =
          end_tells order n _ s t (reply.DeadlockBf number) there refl refl
          (unit_defeats order n h.follows.facts h.past s t there number item within is touching may
          n.outbox (shut_ended order n h.follows.facts h.past s t there may))
      end_due (Some w) due =
          end_tells order n _ s t (reply.DeadlockBf number) there refl refl
          (unit_defeats order n h.follows.facts h.past s t there number item within is touching may
          (send_any n (Some w)).outbox
          (shut_back order n h.follows.facts h.past s t there may range (Some w) due))

    status_by : (st : Status) → t.status ≡ st
        → (has_locks st ≡ true → touches item.keys t.keys ≡ true)
        → Tells order n (told (send_any n (rollback_due t n.at.serial n.at.committed)) s
        (killed_in st number t))
    status_by status.Running now touching =
        end_due (touching refl) (ap is_uncommitted now) _ refl
    status_by status.FragmentSent now touching =
        end_due (touching refl) (ap is_uncommitted now) _ refl
    status_by status.CommitSent now touching = put_due _ (with_status t status.KilledSent) refl
    status_by (status.Certified k) now touching =
        put_due _ (with_status t (status.Replaying k)) refl
    status_by _ now touching = put_due _ t refl

  -- what is known of each node on the way
  record Way (former : List ℕ) (askers : FiniteMap nat_cmp Asker) (n : ModelNode)
      : Type 0 where
    stays : Stays order member n
    waits : Waits former order n askers
    can : CanTakeBack n
    within : number ≤ n.at.certified

  module _ (former : List ℕ) (askers : FiniteMap nat_cmp Asker) where
    abbrev Touching : ModelNode → ℕ → Type 0
    Touching n s = (t : Live) → get n.live s ≡ Some t → has_locks t.status ≡ true
        → touches item.keys t.keys ≡ true

    session_tells : (n : ModelNode) → Way former askers n → (s : ℕ)
        → (o : Option Live) → get n.live s ≡ o → Touching n s
        → Tells order n (killed_session number n s o)
    session_tells n h s None there touching = same_tells order n n refl refl
    session_tells n h s (Some t) there touching =
        status_by n h.stays h.within s t there (range_back n s t there h.can) t.status refl
        (touching t there)

    killed_one : (n : ModelNode) → Way former askers n → (s : ℕ) → Touching n s
        → Way former askers (kill_session number n s)
    killed_one n h s touching =
        let m = kill_session number n s in
        let row : Reaches order (Unit {0}) true n 0 m =
        session_moves order (Unit {0}) number n s (get n.live s) refl (λ _ _. h.can) in
        let only = session_only number n s (get n.live s) in
        record {
          stays = (still_kept former order member (Unit {0}) tt n m row h.stays).stays;
          waits = still_waits former order member (Unit {0}) tt n m row h.stays askers h.waits
              (session_tells n h s (get n.live s) refl touching);
          can = still_back n m (reach_grows order (Unit {0}) true n 0 m row)
              (ap (λ (x : ModelNode). x.at.committed) only) h.can;
          within = subst (λ k. number ≤ k)
              (sym (ap (λ (x : ModelNode). x.at.certified) only)) h.within;
        }

    killed_all : (victims : List ℕ) (n : ModelNode) → Way former askers n
        → ((s : ℕ) → In s victims → Touching n s)
        → Way former askers (fold (kill_session number) n victims)
    killed_all [] n h touching = h
    killed_all (v ∷ victims) n h touching =
        killed_all victims (kill_session number n v) (killed_one n h v (touching v (inl refl)))
        (λ s i t there locks. touching s (inr i) t
        ((kill_leaves number n v).fewer s t there locks) locks)

-- ---- a unit starts
module _ (former : List ℕ) (order : List Event) (member : ℕ) (askers : FiniteMap nat_cmp Asker)
    (n : ModelNode) (h : Stays order member n) (w : Waits former order n askers)
    (can : CanTakeBack n) (number : ℕ) where
  waits_over : (units : FiniteMap nat_cmp ApplyUnit) (m : ModelNode) → Waits former order m askers
      → Waits former order (over units m) askers
  waits_over units m w = record { asked = w.asked; claims = w.claims }

  module _ (item : CommitItem)
      (passed : passed_at order n.at.committed n.at.certified number ≡ Some item) where
    started_waits : Waits former order (started n number item.keys
        (touching_sessions (locks_of n.live n.units) item.keys)).1 askers
    started_waits =
        let f = h.follows.facts in
        let p = from_passed order n.at.committed n.at.certified number item
        (within_order order n f) passed in
        let victims = touching_sessions (locks_of n.live n.units) item.keys in
        let u : ApplyUnit = record { stage = Started; keys = item.keys } in
        let killed = killed_all order member number item p.is_commit former askers victims n
        (record { stays = h; waits = w; can = can; within = p.within })
        (λ s i t there locks.
        let way = touched_from n.live n.units item.keys s i in
        let same : way.trx ≡ t = same_Some way.trx t (sym way.is ∙ there) in
        subst (λ (x : Live). touches item.keys x.keys ≡ true) same way.touches) in
        subst (λ m. Waits former order m askers)
        (sym (kills_over number (insert n.units number u) victims n))
        (waits_over (insert n.units number u) (fold (kill_session number) n victims) killed.waits)

    after_waits : (o : Option ℕ) → Waits former order (start_after n number item.keys o).1 askers
    after_waits (Some earlier) = w
    after_waits None = started_waits

  abbrev After : Answer × ModelNode → Type 0
  After x = Waits former order x.1 askers

  unit_waits : (o : Option CommitItem)
      → passed_at order n.at.committed n.at.certified number ≡ o
      → Waits former order (start_unit order n number o).1 askers
  unit_waits None passed = w
  unit_waits (Some item) passed =
      cond_both (is_some (get n.units number)) _ _ After (λ _. w) (λ _.
      cond_both (is_local n.live number) _ _ After (λ _. w) (λ _. after_waits item passed (greatest
      (touching_before (ahead order n.at.committed n.at.certified) number item.keys))))

  pub start_waits : Waits former order (start_step order n number).1 askers
  unfolding start_step
  start_waits = unit_waits (passed_at order n.at.committed n.at.certified number) refl
