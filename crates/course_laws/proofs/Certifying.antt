-- Certifying the next event keeps what holds over the order so far, whatever it does to the
-- transaction that sent it; the verdict on the node's own is one that a cluster gives.
use Rattle.std.proofs.Common.{◌≡◌, ℕ, ◌+◌, ◌≤◌, true, false, cond, List, ◌∷◌, inl, inr, Option, Some, None, refl, ap, sym, subst, subst₂, ◌∙◌, arith, eq-eqb}
use Rattle.std.specs.Prelude.{◌==◌, max, slice_get}
use Rattle.std.specs.List.{filter_map, cons_option, list_any}
use Rattle.std.specs.Option.{option_map}
use Rattle.std.specs.Ordering.{nat_cmp, eq_by_cmp}
use Rattle.std.proofs.lemmas.Bool.{cases_Bool, eqb-false}
use Rattle.std.proofs.lemmas.Option.{same_Some}
use Rattle.finite_map.specs.FiniteMap.{FiniteMap, get, insert, remove}
use Rattle.finite_map.proofs.Edits.{numbers, AtKey, Elsewhere, inserted, left}
use Rattle.wsrep_base.specs.declared.ids.TrxId.{TrxId}
use Rattle.wsrep_base.specs.declared.verdict.Verdict.TheVariants as verdict
use Rattle.order_event.specs.declared.event.Event.{Event}
use Rattle.order_event.specs.declared.event.Event.TheVariants as event
use Rattle.order_event.specs.declared.event.Message.TheVariants as message
use Rattle.write_set.specs.declared.write_set.WriteSet.{WriteSet}
use Rattle.write_set.specs.Reading.{decoded}
use Rattle.cert_meaning.specs.declared.members.Standing.{Standing}
use Rattle.cert_meaning.specs.State.{FoldState}
use Rattle.cert_meaning.specs.Verdict as rules
use Rattle.cert_meaning.specs.Verdict.{trx_of}
use Rattle.cert_meaning.specs.Fold.{after, state_at}
use Rattle.cert_meaning.proofs.FoldLaws.{number-at, state_at-next}
use Rattle.client_trx.specs.Live.{Live, with_status, passed_status, is_sent}
use Rattle.client_trx.specs.declared.status.Status.{Status}
use Rattle.client_trx.specs.declared.status.Status.TheVariants as status
use Rattle.node_meaning.specs.Node.{ModelNode}
use Rattle.node_meaning.specs.Steps.{session_of}
use Rattle.node_meaning.specs.Facts.{Facts, Lined, IsFragmentOf, One, Lost, StandsBy, sets_of, own_body, pending}
use Rattle.node_meaning.proofs.EntryLaws.{entry_found, entry_missed, less_from}
use Rattle.node_laws.proofs.Moves.{IsJudged, verdict_next, MayCertify, with_certified}
use Rattle.node_laws.proofs.SetLists.{equal, unequal, of-first}
use Rattle.node_laws.proofs.Lining.{elsewhere}
use Rattle.node_laws.proofs.Heads.{head_waits}
use Rattle.node_laws.specs.InStep.{message_of}
use Rattle.node_laws.proofs.SentMoved.{certifies_pending}
use Rattle.course_laws.specs.Laws.{IsByConflict}
use Rattle.course_laws.specs.Ordered.{pending_sets, seen_ahead, Rises, HasSent, GoesOn, Entered, OrderedFacts, Keeps}
use Rattle.course_laws.proofs.Members.{IsApart, member_foreign, member_view, member_report_foreign, member_reported}
use Rattle.course_laws.proofs.Placing.{conflict_not, rises_lower}
use Rattle.course_laws.proofs.NextEvent.{beside_entered, head_decided, other_goes, fragment_sent_passed, head_entered}
use Rattle.course_laws.proofs.PendingSets.{seen_next, sets_lined, within_order, OwnNext, own_next}

module _ (order : List Event) (n : ModelNode) (f : Facts order n) (h : OrderedFacts order n) where
  abbrev m : ℕ
  m = n.at.member

  abbrev p : ℕ
  p = n.at.committed

  abbrev c : ℕ
  c = n.at.certified

  abbrev s : FoldState
  s = state_at order c

  abbrev next : List ℕ → FoldState
  next body = after s (event.Write m body)

  abbrev left_sets : List WriteSet
  left_sets = pending_sets order (with_certified n)

  abbrev left_seen : List ℕ
  left_seen = seen_ahead order (with_certified n)

  -- what holds behind the next event, where these are live
  abbrev Behind : FiniteMap nat_cmp Live → Type 0
  Behind now =
      Entered (state_at order (c + 1)) m n.at.view n.at.begin n.at.serial p now left_sets left_seen

  module _ (more : n.at.certified == n.at.taken ≡ false) where
    -- ---- an event that is none of the member's write sets
    beside_certified : (e : Event) → slice_get order c ≡ Some e → own_body m e ≡ None
        → ((trx : TrxId) → trx.member ≡ m → IsApart e trx) → (now : Standing)
        → get (after s e).members m ≡ Some now → now.serial ≡ h.standing.serial
        → Rises now.report left_seen (max p n.at.view) → OrderedFacts order (with_certified n)
    beside_certified e there none apart now stands same rises =
        let l = sets_lined order n f in
        let sets = ap (filter_map decoded) (certifies_pending order n f.in_order f.sent more e there
        ∙ ap (λ o. cons_option o (pending order (with_certified n))) none) in
        rw (state_at-next order c e there, ← sets)
        (beside_entered s e m n.at.view n.at.begin n.at.serial p n.live (pending_sets order n)
        (seen_ahead order n) left_seen h apart now stands same rises
        (λ se t is. (l.each se t is).of_member) l.ours)

    -- it is none of the member's messages, and leaves it as it was
    foreign_certified : (e : Event) → slice_get order c ≡ Some e → own_body m e ≡ None
        → message_of m e ≡ None → ((trx : TrxId) → trx.member ≡ m → IsApart e trx)
        → get (after s e).members m ≡ Some h.standing → OrderedFacts order (with_certified n)
    foreign_certified e there none no_message apart stays =
        beside_certified e there none apart h.standing stays refl
        (rw (seen_next order n e None there no_message) at h.rises)

    -- it is the member's report, which is not below the one before
    report_certified : (number : ℕ) → slice_get order c ≡ Some (event.Report m number)
        → OrderedFacts order (with_certified n)
    report_certified number there =
        let e = event.Report m number in
        let seen = seen_next order n e (Some (message.Report number)) there (grind arith) in
        let rises = rw seen at h.rises in
        let after_it = member_reported s m number h.standing h.is_member rises.0 in
        beside_certified e there refl (λ trx member. tt) after_it.now after_it.stands
        after_it.serial
        (rises_lower after_it.now.report number left_seen (max p n.at.view) after_it.report rises.1)

    -- ---- the member's own write set
    module _ (body : List ℕ) (there : slice_get order c ≡ Some (event.Write m body))
        (w : WriteSet) (read : decoded body ≡ Some w) where
      sets_are : pending_sets order n ≡ w ∷ left_sets
      sets_are =
          let own = own_next order n f body more there in
          own.sets_are ∙ ap (λ x. x ∷ left_sets) (same_Some own.set w (sym own.read ∙ read))

      l : Lined order m n.at.begin n.at.serial p c n.live (w ∷ left_sets)
      l = subst (Lined order m n.at.begin n.at.serial p c n.live) sets_are (sets_lined order n f)

      ahead : Entered s m n.at.view n.at.begin n.at.serial p n.live (w ∷ left_sets)
          (w.last_seen ∷ left_seen)
      ahead =
          subst₂ (Entered s m n.at.view n.at.begin n.at.serial p n.live) sets_are
          (seen_next order n (event.Write m body) (Some (message.Write body)) there (grind arith)
          ∙ ap (λ o. cons_option (option_map (λ (x : WriteSet). x.last_seen) o) left_seen) read) h

      behind : p ≤ s.number
      behind = rw (number-at order c (within_order order n f)) f.in_order.committed_fits

      -- it is decided
      pub own_decided : IsByConflict (verdict_next order n w)
      own_decided =
          head_decided s m n.at.view n.at.begin n.at.serial p n.live w left_sets left_seen ahead
          l.ours body read behind

      others : (t : Live) → w.begin == t.trx.begin ≡ false → GoesOn s n.at.view p t
          → GoesOn (next body) n.at.view p t
      others = other_goes s m n.at.view n.at.begin n.at.serial p n.live w left_sets left_seen ahead
          l.ours body read behind

      now_entered : (now : FiniteMap nat_cmp Live)
          → ((se : ℕ) (t : Live) → get now se ≡ Some t → GoesOn (next body) n.at.view p t)
          → Behind now
      now_entered now each =
          rw (state_at-next order c (event.Write m body) there)
          (head_entered s m n.at.view n.at.begin n.at.serial p n.live w left_sets left_seen ahead
          l.ours body read behind now each)

      -- its transaction waits, where it is live
      waits : (se : ℕ) (t : Live) → get n.live se ≡ Some t → t.trx.begin ≡ w.begin
          → is_sent t.status ≡ true
      waits =
          let below = less_from c n.at.taken f.in_order.certified_fits more in
          head_waits order m n.at.begin n.at.serial p c n.live w left_sets l body there read
          (omega (arith, below, f.in_order.taken_fits)) f.in_order.committed_fits

  -- ---- of a live transaction
  module _ (se : ℕ) (t : Live) (body : List ℕ) (w : WriteSet) (j : IsJudged order n se t body w)
    where
      abbrev own_lined : Lined order m n.at.begin n.at.serial p c n.live (w ∷ left_sets)
      own_lined = l j.more body j.next w j.is

      beside : (o : ℕ) (u : Live) → eq_by_cmp nat_cmp o se ≡ false → get n.live o ≡ Some u
          → GoesOn (next body) n.at.view p u
      beside o u differs at =
          others j.more body j.next w j.is u (ap (λ k. k == u.trx.begin) (sym j.begin)
          ∙ elsewhere order m n.at.begin n.at.serial p c n.live (w ∷ left_sets) own_lined se t
          j.there o u differs at) (h.each o u at)

      -- it ends
      pub fails_ordered : Behind (remove n.live se)
      fails_ordered = now_entered j.more body j.next w j.is (remove n.live se) (λ o u at.
          let was = left numbers n.live se o u at in beside o u was.elsewhere was.there)

      of_trx : trx_of w ≡ t.trx
      of_trx =
          let member = own_lined.ours.0.of_member ∙ sym (own_lined.each se t j.there).of_member in
          λ i. record { member = member i; begin = sym j.begin i }

      fragment : t.status ≡ status.FragmentSent → IsFragmentOf s t w
      fragment now =
          let mine = sets_of t.trx.begin (w ∷ left_sets) in
          let first =
          of-first t.trx.begin w left_sets true (eq-eqb w.begin t.trx.begin (sym j.begin)) in
          elim (subst (StandsBy order p c mine t) now (own_lined.each se t j.there).stands) [
            | One x is fits ↦ let same : x ≡ w = cc in subst (IsFragmentOf s t) same fits
            | Lost none failed ↦ cc
          ]

      running_sent : (st : Status) → t.status ≡ st → is_sent st ≡ true
          → rules.verdict s m w ≡ verdict.Pass → passed_status (c + 1) st ≡ status.Running
          → HasSent (next body) p (with_status t (passed_status (c + 1) st))
      running_sent status.FragmentSent now sent pass running =
          fragment_sent_passed s m n.at.view n.at.begin n.at.serial p n.live w left_sets left_seen
          (ahead j.more body j.next w j.is) own_lined.ours body j.is
          (behind j.more body j.next w j.is) t (with_status t status.Running) pass of_trx
          (fragment now) refl refl
      running_sent _ now sent pass running = cc

      abbrev passed : Live
      passed = with_status t (passed_status (c + 1) t.status)

      pub passes_ordered : verdict_next order n w ≡ verdict.Pass → Behind (insert n.live se passed)
      passes_ordered pass = now_entered j.more body j.next w j.is (insert n.live se passed)
          (λ o u at. elim (inserted numbers n.live se passed o u at) [
            | AtKey here same ↦ subst (GoesOn (next body) n.at.view p) (sym same) (record {
              synced = (h.each se t j.there).synced;
              sent = running_sent t.status refl j.waits pass;
            })
            | Elsewhere differs was ↦ beside o u differs was
          ])

  -- ---- of none that is live, as it is decided
  module _ (body : List ℕ) (may : MayCertify order n (event.Write m body)) where
    abbrev own : OwnNext order n f body
    own = own_next order n f body may.more may.next

    none_by : (o : Option (ℕ × Live)) → session_of n.live own.set.begin ≡ o → (q : ℕ) (u : Live)
        → get n.live q ≡ Some u → own.set.begin == u.trx.begin ≡ false
    none_by None none q u at =
        unequal own.set.begin u.trx.begin (λ same.
        eqb-false u.trx.begin own.set.begin
        (entry_missed n.live (λ e. e.1.trx.begin == own.set.begin) q u none at) (sym same))
    none_by (Some e) found q u at =
        let entry = entry_found n.live (λ e. e.1.trx.begin == own.set.begin) e found in
        let begin : e.1.trx.begin ≡ own.set.begin =
        equal e.1.trx.begin own.set.begin entry.passes in
        absurd (conflict_not (verdict_next order n own.set)
        (own_decided may.more body may.next own.set own.read)
        (may.undecided e.0 e.1 body own.set (record {
          more = may.more;
          next = may.next;
          is = own.read;
          found = found;
          there = entry.there;
          begin = begin;
          waits = waits may.more body may.next own.set own.read e.0 e.1 entry.there begin;
        })))

    none_entered : OrderedFacts order (with_certified n)
    none_entered = now_entered may.more body may.next own.set own.read n.live (λ q u at.
        others may.more body may.next own.set own.read u
        (none_by (session_of n.live own.set.begin) refl q u at) (h.each q u at))

  -- ---- any event
  other_number : (k : ℕ) → k == m ≡ false → m == k ≡ false
  other_number k differs = unequal m k (λ same. eqb-false k m differs (sym same))

  pub certified_ordered : (e : Event) → MayCertify order n e → Keeps n.at.member e
      → OrderedFacts order (with_certified n)
  certified_ordered (event.Write sender body) may keeps = elim (cases_Bool (sender == m)) [
    | inl is ↦
        none_entered body
        (subst (λ k. MayCertify order n (event.Write k body)) (equal sender m is) may)
    | inr is ↦
        foreign_certified may.more (event.Write sender body) may.next
        (ap (λ b. cond b (Some body) None) is)
        (ap (λ b. cond b (Some (message.Write body)) None) is)
        (λ trx member w read from of_trx. eqb-false sender m is (from ∙ member))
        (member_foreign s sender body m (other_number sender is) ∙ h.is_member)
  ]
  certified_ordered (event.View version members) may keeps =
      foreign_certified may.more (event.View version members) may.next refl refl
      (λ trx member. ap (λ k. list_any (λ j. j == k) members) member ∙ keeps)
      (member_view s version members m h.standing keeps h.is_member)
  certified_ordered (event.Report sender number) may keeps = elim (cases_Bool (sender == m)) [
    | inl is ↦
        report_certified may.more number
        (may.next ∙ ap (λ k. Some (event.Report k number)) (equal sender m is))
    | inr is ↦
        foreign_certified may.more (event.Report sender number) may.next refl
        (ap (λ b. cond b (Some (message.Report number)) None) is) (λ trx member. tt)
        (member_report_foreign s sender number m (other_number sender is) ∙ h.is_member)
  ]
