-- What waits after each step of a node by itself: what waited, and a new answer that claims what
-- holds.
use Rattle.std.proofs.Common.{◌≡◌, ℕ, ◌+◌, Bool, true, false, cond, List, Option, Some, None, refl, ap, sym, subst, ◌∙◌, add-one, arith}
use Rattle.std.specs.Prelude.{◌==◌, slice_get}
use Rattle.std.specs.List.{find}
use Rattle.std.proofs.lemmas.Bool.{cond_both}
use Rattle.finite_map.specs.FiniteMap.{get}
use Rattle.wsrep_base.specs.declared.verdict.Verdict.{Verdict}
use Rattle.wsrep_base.specs.declared.verdict.Verdict.TheVariants as verdict
use Rattle.row_model.specs.declared.calls.Reply.TheVariants as reply
use Rattle.order_event.specs.declared.event.Event.{Event}
use Rattle.order_event.specs.declared.event.Event.TheVariants as event
use Rattle.order_event.specs.declared.step.Answer.{Answer}
use Rattle.write_set.specs.declared.write_set.WriteSet.{WriteSet}
use Rattle.write_set.specs.Reading.{decoded}
use Rattle.cert_meaning.specs.Fold.{judged, judged_write, state_at}
use Rattle.client_trx.specs.Live.{Live, is_sent, judged_by, passed_status, with_status}
use Rattle.node_meaning.specs.declared.progress.Stage.{Stage}
use Rattle.node_meaning.specs.declared.progress.Stage.TheVariants.{Started, Finished}
use Rattle.node_meaning.specs.Node.{ModelNode, ApplyUnit, is_connected, set_live, end_with}
use Rattle.node_meaning.specs.Steps.{is_write, is_report, is_this_write, without_first, took, take_event, take_step, verdict_of, told, session_of, told_verdict, told_own, certify_event, certify_step, finish_stage, finish_unit, finish_step, report_step, committer_of, told_committed, is_ready, advance_step}
use Rattle.node_meaning.specs.Status.{status_step}
use Rattle.node_meaning.specs.Facts.{Facts}
use Rattle.node_meaning.proofs.EntryLaws.{entry_found}
use Rattle.node_meaning.proofs.CertifyFacts.{verdict_again}
use Rattle.node_meaning.proofs.AdvanceFacts.{commits_at}
use Rattle.node_laws.proofs.SetLists.{equal}
use Rattle.node_laws.proofs.Moves.{IsJudged, verdict_next, CameFirst, AsCommit, AsFragment, with_certified, with_committed}
use Rattle.course_laws.specs.Ordered.{Stage as Time}
use Rattle.answer_laws.specs.Answers.{asker_of}
use Rattle.answer_laws.proofs.Pasts.{Pasts}
use Rattle.answer_laws.proofs.Claims.{Claim, Stands}
use Rattle.answer_laws.proofs.Causes.{commit_stands}
use Rattle.answer_laws.proofs.Deadlocks.{cert_defeats}
use Rattle.answer_laws.proofs.Telling.{Tells, same_tells, put_tells, end_tells}

-- ---- reporting
pub report_waiting : (n : ModelNode) → (report_step n).1.waiting ≡ n.waiting
unfolding report_step
report_waiting n =
    grind arith

-- a node's status changes nothing
pub status_same : (order : List Event) (n : ModelNode) → (status_step order n).1 ≡ n
unfolding status_step
status_same order n = refl

module _ (order : List Event) (n : ModelNode) where
  still : Tells order n n
  still = same_tells order n n refl refl

  abbrev After : Answer × ModelNode → Type 0
  After x = Tells order n x.1

  -- ---- taking
  unqueued_write : (body : List ℕ) (a b : Bool)
      → Tells order n (took n (cond a (Some n) (cond b
      (Some (record n { ordered = without_first is_write n.ordered })) None))).1
  unqueued_write body true b = same_tells order n _ refl refl
  unqueued_write body false true = same_tells order n _ refl refl
  unqueued_write body false false = still

  unqueued_report : (a : Bool)
      → Tells order n (took n (cond a
      (Some (record n { ordered = without_first is_report n.ordered })) (Some n))).1
  unqueued_report true = same_tells order n _ refl refl
  unqueued_report false = same_tells order n _ refl refl

  take_by : (o : Option Event) → Tells order n (take_event n o).1
  take_by None = still
  take_by (Some (event.Write sender body)) =
      unqueued_write body _ (is_this_write body (find is_write n.ordered))
  take_by (Some (event.View version members)) = same_tells order n _ refl refl
  take_by (Some (event.Report sender number)) = unqueued_report (sender == n.at.member)

  pub take_tells : Tells order n (take_step order n).1
  unfolding take_step
  take_tells = cond_both (is_connected n.at.phase) _ _ After
      (λ _. take_by (slice_get order n.at.taken)) (λ _. still)

  -- ---- finishing
  finish_by : (number : ℕ) (u : ApplyUnit) (stage : Stage)
      → Tells order n (finish_stage n number u.keys stage).1
  finish_by number u Started = same_tells order n _ refl refl
  finish_by number u Finished = still

  unit_by : (number : ℕ) (o : Option ApplyUnit) → Tells order n (finish_unit n number o).1
  unit_by number None = still
  unit_by number (Some u) = finish_by number u u.stage

  pub finish_tells : (number : ℕ) → Tells order n (finish_step n number).1
  unfolding finish_step
  finish_tells number = unit_by number (get n.units number)

  -- ---- committing
  module _ (f : Facts order n) where
    committer_by : (o : Option (ℕ × Live)) → committer_of n.live (n.at.committed + 1) ≡ o
        → Tells order n
        (told_committed (with_committed n n.live n.waiting) (n.at.committed + 1) o)
    committer_by None found = same_tells order n _ refl refl
    committer_by (Some e) found =
        let number = n.at.committed + 1 in
        let there = (entry_found n.live (commits_at number) e found).there in
        let stands = commit_stands order n f e.0 e.1 there found in
        let last = end_with (with_committed n n.live n.waiting) e.0 (reply.Committed number) in
        end_tells order n last e.0 e.1 (reply.Committed number) there refl refl
        (subst (λ k. Claim order last (asker_of e.1) (reply.Committed k))
        (sym (add-one n.at.committed))
        (subst (λ k. Stands order n.at.member number k (asker_of e.1)) (add-one n.at.committed)
        stands))

    pub advance_tells : Tells order n (advance_step order n).1
    unfolding advance_step
    advance_tells =
        cond_both (n.at.committed == n.at.certified) _ _ After (λ _. still) (λ _.
        cond_both (is_ready order n (n.at.committed + 1)) _ _ After
        (λ _. committer_by (committer_of n.live (n.at.committed + 1)) refl) (λ _. still))

  -- ---- certifying
  module _ (f : Facts order n) (stage : Time order n) (h : Pasts order n)
      (more : n.at.certified == n.at.taken ≡ false) where
    certified_same : Tells order n (with_certified n)
    certified_same = same_tells order n (with_certified n) refl refl

    module _ (body : List ℕ)
        (there : slice_get order n.at.certified ≡ Some (event.Write n.at.member body))
        (w : WriteSet) (s : ℕ) (t : Live) (now : IsJudged order n s t body w) where
      put_same : Tells order n (set_live (with_certified n) s t)
      put_same = put_tells order n (set_live (with_certified n) s t) s t t now.there refl refl refl

      ends_by : (v : ℕ) (x : Verdict) → CameFirst v x → verdict_next order n w ≡ x
          → Tells order n (end_with (with_certified n) s (reply.DeadlockCert v))
      ends_by v x first is =
          end_tells order n (end_with (with_certified n) s (reply.DeadlockCert v)) s t
          (reply.DeadlockCert v) now.there refl refl
          (cert_defeats order n f stage h s t body w now v (subst (CameFirst v) (sym is) first))

      verdict_by : (v : Verdict) → verdict_next order n w ≡ v
          → Tells order n (told (with_certified n) s (judged_by (n.at.certified + 1) v t))
      verdict_by verdict.Pass is =
          put_tells order n _ s t (with_status t (passed_status (n.at.certified + 1) t.status))
          now.there refl refl refl
      verdict_by (verdict.Conflict v) is = ends_by v (verdict.Conflict v) AsCommit is
      verdict_by (verdict.Held v) is = ends_by v (verdict.Held v) AsFragment is
      verdict_by _ is = put_same

    module _ (body : List ℕ)
        (there : slice_get order n.at.certified ≡ Some (event.Write n.at.member body)) where
      found_by : (w : WriteSet) → decoded body ≡ Some w → (o : Option (ℕ × Live))
          → session_of n.live w.begin ≡ o
          → Tells order n (told_verdict (with_certified n) (n.at.certified + 1)
          (verdict_next order n w) o)
      found_by w is None found = certified_same
      found_by w is (Some e) found =
          let entry = entry_found n.live (λ e. e.1.trx.begin == w.begin) e found in
          cond_both (is_sent e.1.status) (told (with_certified n) e.0
          (judged_by (n.at.certified + 1) (verdict_next order n w) e.1)) (with_certified n)
          (Tells order n)
          (λ waits. verdict_by body there w e.0 e.1 (record {
            more = more;
            next = there;
            is = is;
            found = found;
            there = entry.there;
            begin = equal e.1.trx.begin w.begin entry.passes;
            waits = waits;
          }) (verdict_next order n w) refl)
          (λ idle. certified_same)

      verdict_is : (w : WriteSet) → decoded body ≡ Some w
          → verdict_of (judged (state_at order n.at.certified) (event.Write n.at.member body))
          ≡ verdict_next order n w
      unfolding judged
      verdict_is w is =
          ap (λ o. verdict_of (judged_write (state_at order n.at.certified) n.at.member o)) is
          ∙ verdict_again w (verdict_next order n w)

      own_by : (o : Option WriteSet) → decoded body ≡ o
          → Tells order n (told_own (with_certified n) (n.at.certified + 1)
          (verdict_of (judged (state_at order n.at.certified) (event.Write n.at.member body))) o)
      own_by None is = certified_same
      own_by (Some w) is =
          subst (λ v. Tells order n
          (told_own (with_certified n) (n.at.certified + 1) v (Some w))) (sym (verdict_is w is))
          (found_by w is (session_of n.live w.begin) refl)

    abbrev told_by : ℕ → List ℕ → ModelNode
    told_by sender body =
        told_own (with_certified n) (n.at.certified + 1)
        (verdict_of (judged (state_at order n.at.certified) (event.Write sender body)))
        (decoded body)

    event_by : (e : Event) → slice_get order n.at.certified ≡ Some e
        → Tells order n (certify_event order n (Some e)).1
    event_by (event.Write sender body) there =
        cond_both (sender == n.at.member) (told_by sender body) (with_certified n) (Tells order n)
        (λ own.
        let same : sender ≡ n.at.member = equal sender n.at.member own in
        subst (λ k. Tells order n (told_by k body)) (sym same)
        (own_by body (there ∙ ap (λ k. Some (event.Write k body)) same) (decoded body) refl))
        (λ alien. certified_same)
    event_by (event.View version members) there = certified_same
    event_by (event.Report sender number) there = certified_same

    next_by : (o : Option Event) → slice_get order n.at.certified ≡ o
        → Tells order n (certify_event order n o).1
    next_by None there = still
    next_by (Some e) there = event_by e there

  pub certify_tells : Facts order n → Time order n → Pasts order n
      → Tells order n (certify_step order n).1
  unfolding certify_step
  certify_tells f stage h =
      cond_both (n.at.certified == n.at.taken) _ _ After (λ _. still)
      (λ more. next_by f stage h more (slice_get order n.at.certified) refl)
