-- Every move keeps what a node has sent of each transaction.
use Rattle.std.proofs.Common.{◌≡◌, ℕ, ◌+◌, ◌≤◌, true, false, List, length, Option, Some, None, refl, ap, sym, subst, ◌∙◌, arith, eq-eqb, true≢false, inl, inr}
use Rattle.std.specs.Prelude.{◌==◌, ◌||◌, slice_get}
use Rattle.std.proofs.lemmas.Option.{same_Some}
use Rattle.std.proofs.lemmas.Bool.{cases_lt, cond_both}
use Rattle.finite_map.specs.FiniteMap.{get, insert, remove}
use Rattle.finite_map.proofs.Edits.{numbers, untied, left, each_put}
use Rattle.wsrep_base.specs.declared.ids.TrxId.{TrxId}
use Rattle.wsrep_base.specs.declared.verdict.Verdict.TheVariants as verdict
use Rattle.row_model.specs.declared.calls.Reply.{Reply}
use Rattle.row_model.specs.declared.calls.Reply.TheVariants as reply
use Rattle.order_event.specs.declared.event.Event.{Event}
use Rattle.order_event.specs.declared.event.Event.TheVariants as event
use Rattle.write_set.specs.declared.write_set.WriteSet.{WriteSet}
use Rattle.cert_meaning.specs.Verdict as rules
use Rattle.cert_meaning.specs.Verdict.{is_end}
use Rattle.cert_meaning.specs.Fold.{state_at}
use Rattle.client_trx.specs.Live.{Live, is_uncommitted, is_sent, passed_status, with_status, commit_of, fragment_of, rollback_of}
use Rattle.client_trx.specs.declared.status.Status.{Status}
use Rattle.node_meaning.specs.Node.{ModelNode}
use Rattle.node_meaning.specs.Client.{extended}
use Rattle.node_meaning.specs.Steps.{session_of}
use Rattle.node_meaning.specs.Facts.{Facts, Lined}
use Rattle.node_meaning.proofs.EntryLaws.{entry_found, entry_missed, less_from}
use Rattle.node_meaning.proofs.RangeLaws.{commit-decoded, fragment-decoded, rollback-decoded}
use Rattle.node_laws.proofs.SetLists.{equal}
use Rattle.node_laws.proofs.Heads.{head_waits}
use Rattle.node_laws.proofs.Sendable.{due_is}
use Rattle.node_laws.proofs.Moves.{Kind, Move, May, Tells, Begins, Extends, Streams, Sends, Ends, TakesBack, Unlocks, Reports, Orders, Leaves, Certifies, Passes, Fails, Commits, IsJudged, verdict_next, MayCertify, Unlocked, Sent, Passed, with_certified, with_reply, ended_with}
use Rattle.course_laws.specs.Ordered.{pending_sets, Stage, Early, Since}
use Rattle.course_laws.proofs.Placing.{conflict_not}
use Rattle.course_laws.proofs.PendingSets.{sets_lined, within_order, own_next}
use Rattle.course_laws.proofs.Certifying.{own_decided}
use Rattle.answer_laws.specs.Answers.{IsWriteAt, PassesAt}
use Rattle.answer_laws.proofs.Pasts.{HasPast, Past, Pasts, put_past, gone_past, begun_past, reported_past, sent_past, last_past, fragment_past, commit_past, still_idle}

module _ (order : List Event) (n : ModelNode) (f : Facts order n) where
  abbrev m : ℕ
  m = n.at.member

  abbrev c : ℕ
  c = n.at.certified

  l : Lined order m n.at.begin n.at.serial n.at.committed c n.live (pending_sets order n)
  l = sets_lined order n f

  -- the next event is a write set of a live transaction
  own_there : (s : ℕ) (t : Live) (w : WriteSet) → get n.live s ≡ Some t
      → (at : IsWriteAt order c t.trx w) → slice_get order c ≡ Some (event.Write m at.body)
  own_there s t w there at =
      at.there ∙ ap (λ k. Some (event.Write k at.body)) (l.each s t there).of_member

  begin_is : (t : Live) (w : WriteSet) → (at : IsWriteAt order c t.trx w) → t.trx.begin ≡ w.begin
  begin_is t w at = ap (λ (x : TrxId). x.begin) (sym at.of_trx)

  -- where it is certified, and no transaction is told, it is none of them
  module _ (stage : Stage order n) (e : Event) (may : MayCertify order n e) where
    judged_by : (s : ℕ) (t : Live) (w : WriteSet) → get n.live s ≡ Some t
        → IsWriteAt order c t.trx w → Stage order n → ⊥
    judged_by s t w there at (Early early) = early.idle s t there
    judged_by s t w there at (Since o) =
        by (session_of n.live w.begin) refl
      where
        here : slice_get order c ≡ Some (event.Write m at.body)
        here = own_there s t w there at

        by : (found : Option (ℕ × Live)) → session_of n.live w.begin ≡ found → ⊥
        by None none = true≢false
            (sym (eq-eqb t.trx.begin w.begin (begin_is t w at))
            ∙ entry_missed n.live (λ e. e.1.trx.begin == w.begin) s t none there)
        by (Some x) found =
            let entry = entry_found n.live (λ e. e.1.trx.begin == w.begin) x found in
            let begin : x.1.trx.begin ≡ w.begin = equal x.1.trx.begin w.begin entry.passes in
            let own = own_next order n f at.body may.more here in
            let same : own.set ≡ w = same_Some own.set w (sym own.read ∙ at.is) in
            let lined = subst (Lined order m n.at.begin n.at.serial n.at.committed c n.live)
            own.sets_are l in
            let below = less_from c n.at.taken f.in_order.certified_fits may.more in
            conflict_not (verdict_next order n w)
            (own_decided order n f o may.more at.body here w at.is)
            (may.undecided x.0 x.1 at.body w (record {
              more = may.more;
              next = here;
              is = at.is;
              found = found;
              there = entry.there;
              begin = begin;
              waits = head_waits order m n.at.begin n.at.serial n.at.committed c n.live own.set
                  (pending_sets order (with_certified n)) lined at.body here own.read
                  (omega (arith, below, f.in_order.taken_fits)) f.in_order.committed_fits x.0 x.1
                  entry.there (begin ∙ ap (λ (y : WriteSet). y.begin) (sym same));
            }))

    pub unjudged : (s : ℕ) (t : Live) (w : WriteSet) → get n.live s ≡ Some t
        → IsWriteAt order c t.trx w → ⊥
    unjudged s t w there at = judged_by s t w there at stage

  module _ (h : Pasts order n) where
    -- one more is certified, and passes where it is the transaction's
    later_past : (s : ℕ) (t : Live) → get n.live s ≡ Some t
        → ((w : WriteSet) → IsWriteAt order c t.trx w → PassesAt order c w)
        → HasPast order m (c + 1) n.outbox t
    later_past s t there last = record {
      unended = (h.each s t there).unended;
      unsent = (h.each s t there).unsent;
      passed = λ before w inside at. elim (cases_lt before c) [
        | inl below ↦ (h.each s t there).passed before w below at
        | inr above ↦
            let here : before ≡ c = omega (arith, inside, above) in
            subst (λ k. PassesAt order k w) (sym here)
            (last w (subst (λ k. IsWriteAt order k t.trx w) here at))
      ];
    }

    certified_past : (stage : Stage order n) (e : Event) → MayCertify order n e
        → Past order m n.at.begin (c + 1) n.outbox n.live n.waiting
    certified_past stage e may = record {
      fresh = h.fresh;
      once = h.once;
      each = λ s t there. later_past s t there
          (λ w at. absurd (unjudged stage e may s t w there at));
      idle = h.idle;
    }

    -- the write set of a live transaction is judged
    module _ (s : ℕ) (t : Live) (body : List ℕ) (w : WriteSet)
        (judged : IsJudged order n s t body w) where
      same_set : (q : ℕ) (u : Live) (x : WriteSet) → get n.live q ≡ Some u
          → IsWriteAt order c u.trx x → x ≡ w
      same_set q u x there at = let own = own_there q u x there at in cc

      pass_last : verdict_next order n w ≡ verdict.Pass → (q : ℕ) (u : Live)
          → get n.live q ≡ Some u → (x : WriteSet) → IsWriteAt order c u.trx x
          → PassesAt order c x
      pass_last pass q u there x at =
          let home : x.member ≡ m = ap (λ (k : TrxId). k.member) at.of_trx
          ∙ (l.each q u there).of_member in
          ap (λ k. rules.verdict (state_at order c) k x) home
          ∙ ap (verdict_next order n) (same_set q u x there at) ∙ pass

      still_open : (st : Status) → is_sent st ≡ true
          → is_uncommitted (passed_status (c + 1) st) ≡ true → is_uncommitted st ≡ true
      still_open st waits o = grind arith

      passes_past : verdict_next order n w ≡ verdict.Pass
          → Past order m n.at.begin (c + 1) n.outbox
          (insert n.live s (with_status t (passed_status (c + 1) t.status))) n.waiting
      passes_past pass =
          let later = later_past s t judged.there (pass_last pass s t judged.there) in
          let now = with_status t (passed_status (c + 1) t.status) in
          record {
            fresh = h.fresh;
            once = h.once;
            each = each_put numbers n.live s (λ _ v. HasPast order m (c + 1) n.outbox v)
                (λ q v at. later_past q v at (pass_last pass q v at)) now (record {
                  unended = λ o. later.unended (still_open t.status judged.waits o);
                  unsent = λ o none. later.unsent (still_open t.status judged.waits o) none;
                  passed = later.passed;
                });
            idle = still_idle order n h s t now judged.there;
          }

      fails_past : (o : Option Reply) → Past order m n.at.begin (c + 1) n.outbox (remove n.live s)
          (with_reply n.waiting s o)
      fails_past o = record {
        fresh = h.fresh;
        once = h.once;
        each = λ q v at.
            let was = left numbers n.live s q v at in
            later_past q v was.there (λ x here. absurd
            (untied numbers q s was.elsewhere (l.begins q s v t was.there judged.there
            (begin_is v x here
            ∙ ap (λ (y : WriteSet). y.begin) (same_set q v x was.there here)
            ∙ sym judged.begin))));
        idle = (gone_past order n h s o).idle;
      }

-- ---- the flags of what is sent
fragment_no_end : (t : Live) (serial seen : ℕ) → is_end (fragment_of t serial seen) ≡ false
fragment_no_end t serial seen =
    cond_both (t.sent == 0) 1 0 (λ k. k == 2 || k == 3 ≡ false) (λ _. refl) (λ _. refl)

unlocked_open : (from to : Status) → Unlocked from to → is_uncommitted to ≡ true
    → is_uncommitted from ≡ true
unlocked_open from to Sent o = absurd (true≢false (sym o))
unlocked_open from to (Passed number) o = absurd (true≢false (sym o))

-- ---- all moves over one order
module _ (order : List Event) (n : ModelNode) (f : Facts order n) (stage : Stage order n)
    (h : Pasts order n) where
  pub past_moved : (given : Type 0) → given → (k : Kind) (m : ModelNode) → May true k
      → Move order given n k m → Pasts order m
  past_moved given g k m may (Tells s) = record {
    fresh = h.fresh;
    once = h.once;
    each = h.each;
    idle = λ q r at. h.idle q r (left numbers n.waiting s q r at).there;
  }
  past_moved given g k m may (Begins s unit can) = begun_past order n h s unit can
  past_moved given g k m may (Extends s t st here fits free) =
      let past = h.each s t here.there in
      put_past order n h s t (extended t st) here.there (record {
        unended = past.unended;
        unsent = past.unsent;
        passed = past.passed;
      })
  past_moved given g k m may (Streams s t here change range) =
      let own = (sets_lined order n f).each s t here.there in
      let w = fragment_of t n.at.serial n.at.committed in
      let read = fragment-decoded n.at t (range g) own.of_member own.begun
      (f.sendable s t here.there) in
      let none = fragment_no_end t n.at.serial n.at.committed in
      sent_past order n h f s t here.there w refl read
      (λ ends. absurd (true≢false (sym ends ∙ none))) _
      (fragment_past order n h f s t here.there w refl read none
      (ap is_uncommitted here.running))
  past_moved given g k m may (Sends s t here range) =
      let own = (sets_lined order n f).each s t here.there in
      let w = commit_of t n.at.serial n.at.committed in
      let read = commit-decoded n.at t (range g) own.of_member own.begun
      (f.sendable s t here.there) in
      sent_past order n h f s t here.there w refl read (λ ends. ap is_uncommitted here.running) _
      (commit_past order n h f s t here.there w refl read)
  past_moved given g k m may (Ends s t o there) = gone_past order n h s o
  past_moved given g k m may (TakesBack s t w o there due range) =
      let own = (sets_lined order n f).each s t there in
      let inside : n.at.committed ≤ length order =
      omega (arith, f.in_order.committed_fits, within_order order n f) in
      let read = rollback-decoded n.at t (range g inside) own.of_member own.begun
      (f.sendable s t there) in
      subst (λ x. Pasts order (ended_with n s x o)) (due_is t n.at.serial n.at.committed w due)
      (last_past order n h f s t there (rollback_of t n.at.serial n.at.committed) refl read refl o)
  past_moved given g k m may (Unlocks s t to there unlocked) =
      let past = h.each s t there in
      put_past order n h s t (with_status t to) there (record {
        unended = λ o. past.unended (unlocked_open t.status to unlocked o);
        unsent = λ o none. past.unsent (unlocked_open t.status to unlocked o) none;
        passed = past.passed;
      })
  past_moved given g k m may (Reports stays) = reported_past order n h
  past_moved given g k m may (Orders front back is) = absurd may
  past_moved given g k m may (Leaves stay) = absurd may
  past_moved given g k m may (Certifies e can) = certified_past order n f h stage e can
  past_moved given g k m may (Passes s t body w judged pass) =
      passes_past order n f h s t body w judged pass
  past_moved given g k m may (Fails s t body w v judged came) =
      fails_past order n f h s t body w judged (Some (reply.DeadlockCert v))
  past_moved given g k m may (Commits s t can there is) =
      gone_past order n h s (Some (reply.Committed (n.at.committed + 1)))
  past_moved given g k m may _ = h
