-- What a node sends goes on from what is pending; and what holds over the order so far holds when a
-- transaction begins, changes or ends.
use Rattle.std.proofs.Common.{◌≡◌, ℕ, ◌+◌, ◌≤◌, List, [], ◌∷◌, ◌++◌, length, Option, Some, refl, ap, sym, subst, ◌∙◌, arith, true≢false, false}
use Rattle.std.specs.Prelude.{◌==◌, max, not, is_some, unwrap_or}
use Rattle.std.specs.List.{AllByRecursion, filter_map}
use Rattle.std.specs.Option.{option_map}
use Rattle.std.specs.Ordering.{nat_cmp}
use Rattle.std.proofs.lemmas.Bool.Decides.{nat_tests}
use Rattle.std.proofs.lemmas.List.{append_assoc}
use Rattle.std.proofs.lemmas.List.Elements.{filter_map-append}
use Rattle.finite_map.specs.FiniteMap.{FiniteMap, get, insert, remove, len}
use Rattle.finite_map.proofs.Edits.{numbers, each_put, each_left}
use Rattle.key_sets.specs.Keys.{LIMIT}
use Rattle.order_event.specs.declared.event.Event.{Event}
use Rattle.order_event.specs.declared.event.Message.{Message}
use Rattle.order_event.specs.declared.event.Message.TheVariants as message
use Rattle.write_set.specs.declared.write_set.WriteSet.{WriteSet}
use Rattle.write_set.specs.Reading.{decoded}
use Rattle.write_set.specs.Spelling.{spelling}
use Rattle.cert_meaning.specs.declared.items.Fragment.{Fragment}
use Rattle.cert_meaning.specs.State.{FoldState, is_open, fragments_of, last_seen_of}
use Rattle.cert_meaning.specs.Verdict.{is_broken}
use Rattle.cert_meaning.specs.Fold.{state_at}
use Rattle.client_trx.specs.Live.{Live, with_status, gathered, fragment_flags, commit_flags, commit_of, fragment_of, fragment_sent, rollback_of}
use Rattle.client_trx.specs.declared.status.Status.{Status}
use Rattle.client_trx.specs.declared.status.Status.TheVariants as status
use Rattle.node_meaning.specs.Node.{ModelNode}
use Rattle.node_meaning.specs.Steps.{put_report}
use Rattle.node_meaning.specs.Facts.{Facts, ProgressInRange, SerialsRise, StandsBy, Gathered, sets_of, pending, pending_in}
use Rattle.node_meaning.proofs.ClientFacts.{first}
use Rattle.node_meaning.proofs.RangeLaws.{commit-decoded, fragment-decoded, rollback-decoded}
use Rattle.node_meaning.proofs.SentLaws.{pending-sent, pending-reported}
use Rattle.node_laws.proofs.Moves.{IsRunning, Unlocked, Sent, Passed}
use Rattle.node_laws.proofs.SetLists.{serials_push, all_push}
use Rattle.node_laws.specs.InStep.{messages_behind}
use Rattle.course_laws.specs.Ordered.{pending_sets, seen_in, seen_ahead, Rises, IsPlaced, AllEnd, GoesOn, Entered, OrderedFacts}
use Rattle.course_laws.proofs.PendingSets.{sets_lined}
use Rattle.course_laws.proofs.Placing.{fragment_placed, commit_placed, ends_push, ends_rollback, rises_push, rises_higher}

module _ (order : List Event) (n : ModelNode) (f : Facts order n) (h : OrderedFacts order n) where
  abbrev m : ℕ
  m = n.at.member

  abbrev p : ℕ
  p = n.at.committed

  abbrev s : FoldState
  s = state_at order n.at.certified

  abbrev sets : List WriteSet
  sets = pending_sets order n

  abbrev seen : List ℕ
  seen = seen_ahead order n

  abbrev Goes : Live → Type 0
  Goes t = GoesOn s n.at.view p t

  -- with more of what it sends, and other live transactions
  entered_now : (begin serial : ℕ) (now : FiniteMap nat_cmp Live) (ws : List WriteSet)
      (ks : List ℕ) → n.at.begin ≤ begin → SerialsRise h.standing.serial ws serial
      → Rises h.standing.report ks (max p n.at.view) → AllByRecursion (IsPlaced s) ws → AllEnd ws
      → ((se : ℕ) (t : Live) → get now se ≡ Some t → Goes t)
      → Entered s m n.at.view begin serial p now ws ks
  entered_now begin serial now ws ks later serials rises placed ends each = record {
    entered = h.entered;
    standing = h.standing;
    is_member = h.is_member;
    floor = h.floor;
    serials = serials;
    rises = rises;
    placed = placed;
    ends = ends;
    each = each;
    unbegun = λ trx member above. h.unbegun trx member (omega (arith, above, later));
  }

  -- ---- nothing is sent
  put_goes : (se : ℕ) (u : Live) → Goes u → (q : ℕ) (t : Live)
      → get (insert n.live se u) q ≡ Some t → Goes t
  put_goes se u = each_put numbers n.live se (λ _ t. Goes t) h.each u

  left_goes : (se : ℕ) (q : ℕ) (t : Live) → get (remove n.live se) q ≡ Some t → Goes t
  left_goes se = each_left numbers n.live se (λ _ t. Goes t) h.each

  pub put_entered : (se : ℕ) (u : Live) → Goes u
      → Entered s m n.at.view n.at.begin n.at.serial p (insert n.live se u) sets seen
  put_entered se u goes = entered_now n.at.begin n.at.serial (insert n.live se u) sets seen
      (omega arith) h.serials h.rises h.placed h.ends (put_goes se u goes)

  pub left_entered : (se : ℕ)
      → Entered s m n.at.view n.at.begin n.at.serial p (remove n.live se) sets seen
  left_entered se = entered_now n.at.begin n.at.serial (remove n.live se) sets seen (omega arith)
      h.serials h.rises h.placed h.ends (left_goes se)

  -- ---- a transaction begins
  begun_goes : n.at.view ≤ p → (unit : ℕ) → Goes (first m n.at.begin unit)
  begun_goes synced unit =
      let none = h.unbegun (record { member = m; begin = n.at.begin }) refl (omega arith) in
      record {
        synced = synced;
        sent = λ running. record {
          opened = ap is_some none;
          count = ap (λ (o : Option (List Fragment)). length (unwrap_or o [])) none;
          seen = rw none (omega arith);
        };
      }

  pub begun_entered : n.at.view ≤ p → (se unit : ℕ)
      → Entered s m n.at.view (n.at.begin + 1) n.at.serial p
      (insert n.live se (first m n.at.begin unit)) sets seen
  begun_entered synced se unit =
      let u = first m n.at.begin unit in
      entered_now (n.at.begin + 1) n.at.serial (insert n.live se u) sets seen (omega arith)
      h.serials h.rises h.placed h.ends (put_goes se u (begun_goes synced unit))

  -- ---- what is sent has seen all that is committed, and so no less than what was sent before
  synced_rises : n.at.view ≤ p → Rises h.standing.report (seen ++ p ∷ []) (max p n.at.view)
  synced_rises synced =
      rises_higher h.standing.report (seen ++ p ∷ []) p (max p n.at.view) (omega arith)
      (rises_push h.standing.report seen (max p n.at.view) p (omega (arith, synced)) h.rises)

  abbrev seen_more : Message → List ℕ
  seen_more x = filter_map seen_in
      (messages_behind m n.at.certified order ++ (n.outbox ++ x ∷ []))

  seen_sent : (x : Message) → seen_in x ≡ Some p → seen_more x ≡ seen ++ p ∷ []
  seen_sent x is =
      let behind = messages_behind m n.at.certified order in
      rw (
        ← append_assoc behind n.outbox (x ∷ []),
        filter_map-append seen_in (behind ++ n.outbox) (x ∷ []),
        is,
      )

  -- a report
  pub report_entered : n.at.view ≤ p → OrderedFacts order (put_report n)
  report_entered synced =
      let bodies = pending-reported order m n.at.certified n.at.taken n.ordered n.outbox p in
      rw (seen_sent (message.Report p) refl, ← bodies)
      (entered_now n.at.begin n.at.serial n.live sets (seen ++ p ∷ []) (omega arith) h.serials
      (synced_rises synced) h.placed h.ends h.each)

  -- one more write set: its bytes are behind what was pending
  abbrev OverMore : ℕ → List ℕ → FiniteMap nat_cmp Live → Type 0
  OverMore serial body now =
      Entered s m n.at.view n.at.begin serial p now
      (filter_map decoded (pending_in order m n.at.certified n.at.taken
      (n.ordered ++ (n.outbox ++ message.Write body ∷ [])))) (seen_more (message.Write body))

  sent_more : (w : WriteSet) (now : FiniteMap nat_cmp Live) → decoded (spelling w) ≡ Some w
      → w.last_seen ≡ p → w.serial ≡ n.at.serial → n.at.view ≤ p → IsPlaced s w
      → AllEnd (sets ++ w ∷ []) → ((se : ℕ) (t : Live) → get now se ≡ Some t → Goes t)
      → OverMore (n.at.serial + 1) (spelling w) now
  sent_more w now read is number synced placed ends each =
      rw (
        seen_sent (message.Write (spelling w))
            (ap (option_map (λ (x : WriteSet). x.last_seen)) read ∙ ap Some is),
        pending-sent order m n.at.certified n.at.taken n.ordered n.outbox (spelling w),
        filter_map-append decoded (pending order n) (spelling w ∷ []),
        read,
      )
      (entered_now n.at.begin (n.at.serial + 1) now (sets ++ w ∷ []) (seen ++ p ∷ []) (omega arith)
      (serials_push h.standing.serial sets n.at.serial w number h.serials) (synced_rises synced)
      (all_push (IsPlaced s) sets w h.placed placed) ends each)

  -- ---- a live transaction
  module _ (se : ℕ) (t : Live) (there : get n.live se ≡ Some t) where
    -- it rests
    pub resting : (u : Live) → (u.status ≡ status.Running → ⊥) → Goes u
    resting u rests = record {
      synced = (h.each se t there).synced;
      sent = λ running. absurd (rests running);
    }

    -- it ends, and its rollback is sent
    pub taken_back_entered : ProgressInRange n.at
        → OverMore (n.at.serial + 1) (spelling (rollback_of t n.at.serial p)) (remove n.live se)
    taken_back_entered range =
        let w = rollback_of t n.at.serial p in
        let was = (sets_lined order n f).each se t there in
        sent_more w (remove n.live se)
        (rollback-decoded n.at t range was.of_member was.begun (f.sendable se t there)) refl refl
        (h.each se t there).synced (λ back. absurd (true≢false back))
        (ends_rollback sets w refl h.ends) (left_goes se)

  -- ---- one that is Running
  module _ (se : ℕ) (t : Live) (here : IsRunning n se t) where
    idle : (sets_of t.trx.begin sets ≡ []) × Gathered s t t.new_keys t.new_ops t.sent
    idle = subst (StandsBy order p n.at.certified (sets_of t.trx.begin sets) t) here.running
        ((sets_lined order n f).each se t here.there).stands

    few : len t.keys ≤ LIMIT
    few = let is = (f.sendable se t here.there).fit.few_keys in grind (arith, nat_tests, is)

    -- it goes on
    pub again : (u : Live) → u.trx ≡ t.trx → u.sent ≡ t.sent → Goes u
    again u trx sent =
        let goes = h.each se t here.there in
        let g = goes.sent here.running in record {
          synced = goes.synced;
          sent = λ _. record {
            opened = ap (is_open s) trx ∙ g.opened ∙ ap (λ k. not (k == 0)) (sym sent);
            count = ap (λ x. length (fragments_of s x)) trx ∙ g.count ∙ sym sent;
            seen = subst (λ x. last_seen_of (fragments_of s x) ≤ p) (sym trx) g.seen;
          };
        }

    -- what it gathered is sent, and it rests
    sent_on : (flags : ℕ) (u : Live) → is_broken s (gathered t n.at.serial p flags) ≡ false
        → decoded (spelling (gathered t n.at.serial p flags))
        ≡ Some (gathered t n.at.serial p flags) → (u.status ≡ status.Running → ⊥)
        → OverMore (n.at.serial + 1) (spelling (gathered t n.at.serial p flags))
        (insert n.live se u)
    sent_on flags u placed read rests =
        let w = gathered t n.at.serial p flags in
        sent_more w (insert n.live se u) read refl refl (h.each se t here.there).synced
        (λ back. placed) (ends_push sets w idle.0 h.ends)
        (put_goes se u (resting se t here.there u rests))

    -- its fragment is sent
    pub fragment_entered : ProgressInRange n.at
        → OverMore (n.at.serial + 1) (spelling (fragment_of t n.at.serial p))
        (insert n.live se (fragment_sent t))
    fragment_entered range =
        let was = (sets_lined order n f).each se t here.there in
        sent_on (fragment_flags t.sent) (fragment_sent t)
        (fragment_placed s t n.at.serial p ((h.each se t here.there).sent here.running) idle.1 few)
        (fragment-decoded n.at t range was.of_member was.begun (f.sendable se t here.there))
        (λ is. cc)

    -- its commit is sent
    pub commit_entered : ProgressInRange n.at
        → OverMore (n.at.serial + 1) (spelling (commit_of t n.at.serial p))
        (insert n.live se (with_status t status.CommitSent))
    commit_entered range =
        let was = (sets_lined order n f).each se t here.there in
        sent_on (commit_flags t.sent) (with_status t status.CommitSent)
        (commit_placed s t n.at.serial p ((h.each se t here.there).sent here.running) idle.1 few)
        (commit-decoded n.at t range was.of_member was.begun (f.sendable se t here.there))
        (λ is. cc)

-- one that lost its locks is not Running
pub not_running : (from to : Status) → Unlocked from to → to ≡ status.Running → ⊥
not_running from to Sent is = cc
not_running from to (Passed number) is = cc
