-- What is pending stays in line with the live transactions.
use Rattle.std.proofs.Common.{◌≡◌, ℕ, ◌+◌, ◌≤◌, ◌<◌, Bool, true, false, cond, List, [], ◌∷◌, ◌++◌, length, map, Option, None, Some, refl, ap, sym, subst, ◌∙◌, arith, append_assoc, eq-eqb, true≢false}
use Rattle.std.specs.Prelude.{◌==◌, slice_get}
use Rattle.std.specs.List.{cons_option}
use Rattle.std.specs.Ordering.{nat_cmp, eq_by_cmp}
use Rattle.std.proofs.lemmas.List.{map-append}
use Rattle.std.proofs.lemmas.Bool.{false_from_ne_true}
use Rattle.std.proofs.lemmas.Option.{same_Some}
use Rattle.finite_map.proofs.Edits.{numbers, untied, left}
use Rattle.finite_map.specs.FiniteMap.{FiniteMap, get, insert, remove}
use Rattle.order_event.specs.declared.event.Event.{Event}
use Rattle.order_event.specs.declared.event.Event.TheVariants as event
use Rattle.order_event.specs.declared.event.Message.{Message}
use Rattle.order_event.specs.declared.event.Message.TheVariants as message
use Rattle.write_set.specs.declared.write_set.WriteSet.{WriteSet}
use Rattle.write_set.specs.Reading.{decoded}
use Rattle.write_set.specs.Spelling.{spelling}
use Rattle.write_set.specs.Rules.{row_parts}
use Rattle.wsrep_base.specs.declared.verdict.Verdict.TheVariants as verdict
use Rattle.cert_meaning.specs.Fold.{after, state_at}
use Rattle.cert_meaning.proofs.FoldLaws.{state_at-next}
use Rattle.client_trx.specs.Live.{Live, with_status, passed_status, commit_of, fragment_of, fragment_sent, rollback_of}
use Rattle.client_trx.specs.declared.status.Status.{Status}
use Rattle.client_trx.specs.declared.status.Status.TheVariants as status
use Rattle.node_meaning.specs.Node.{ModelNode}
use Rattle.node_meaning.specs.Client.{Statement, extended}
use Rattle.node_meaning.specs.Steps.{session_of}
use Rattle.node_meaning.specs.Facts.{InOrder, ProgressInRange, IsSendable, sets_of, IsOurs, Gathered, IsCommitOf, HasFailed, HasPassed, Alone, One, Lost, StandsBy, IsLive, Lined, Spelled, own_body, pending, pending_in}
use Rattle.node_meaning.proofs.EntryLaws.{entry_found, entry_missed, less_from}
use Rattle.node_meaning.proofs.ClientFacts.{first}
use Rattle.node_meaning.proofs.RangeLaws.{commit-decoded, fragment-decoded, rollback-decoded}
use Rattle.node_meaning.proofs.SentLaws.{pending-sent, pending-reported}
use Rattle.node_meaning.proofs.TakeFacts.{pending_same}
use Rattle.node_meaning.proofs.CertifyFacts.{pending_first}
use Rattle.node_meaning.proofs.AdvanceFacts.{commits_at, stands_still, passed_by, same_begin}
use Rattle.node_laws.proofs.Moves.{Kind, Move, Begins, Extends, Streams, Sends, Ends, TakesBack, Unlocks, Reports, Orders, Leaves, Takes, Certifies, Passes, Fails, Advances, Commits, IsRunning, Unlocked, Sent, Passed, IsJudged, verdict_next, MayCertify, LeavesQueue, with_certified, with_taken}
use Rattle.node_laws.proofs.Sendable.{due_is}
use Rattle.node_laws.proofs.LeftSets.{spelled_left}
use Rattle.node_laws.proofs.SetLists.{equal, unequal, all_each, of-own, of-new}
use Rattle.node_laws.proofs.Lining.{replaced_here, ended_here, sent, sent_last, begun}
use Rattle.node_laws.proofs.Gathering.{Fewer, gathered_begun, gathered_added}
use Rattle.node_laws.proofs.Heads.{live_later, fewer_view, fewer_report, fewer_foreign, IsSplit, Split, split, head_alien, head_waits, head_ended, head_failed, head_passed}

abbrev pub IsSpelled : List Event → ModelNode → Type 0
IsSpelled order n = Spelled order n.at.member n.at.begin n.at.serial n.at.committed n.at.certified
    n.live (pending order n)

-- ---- a transaction loses its locks
module _ (order : List Event) (p c : ℕ) (t : Live) (to : Status) where
  commit_again : (mine : List WriteSet)
      → Alone (IsCommitOf (state_at order c) t) (HasFailed order c t.trx) mine
      → Alone (IsCommitOf (state_at order c) (with_status t to)) (HasFailed order c t.trx) mine
  commit_again mine (One w is h) =
      let g = h.gathered in
      One w is (record {
        number = h.number;
        flags = h.flags;
        gathered = record { first = g.first; whole = g.whole };
      })
  commit_again mine (Lost none failed) = Lost none failed

  passed_again : (number : ℕ) → HasPassed order p c t number
      → HasPassed order p c (with_status t to) number
  passed_again number h = record {
    above = h.above;
    within = h.within;
    is_commit = h.is_commit;
    changes = h.changes;
  }

stands_unlocked : (order : List Event) (p c : ℕ) (mine : List WriteSet) (t : Live)
    (from to : Status) → Unlocked from to
    → StandsBy order p c mine t from → StandsBy order p c mine (with_status t to) to
stands_unlocked order p c mine t from to Sent h = commit_again order p c t to mine h
stands_unlocked order p c mine t from to (Passed number) h =
    (h.0, passed_again order p c t to number h.1)

-- ---- the next number is committed
module _ (order : List Event) (m b serial p c : ℕ) (live : FiniteMap nat_cmp Live)
    (sets : List WriteSet) (l : Lined order m b serial p c live sets) where
  seen_more : (w : WriteSet) → IsOurs m b p w → IsOurs m b (p + 1) w
  seen_more w h = record { of_member = h.of_member; begun = h.begun; seen = omega (arith, h.seen) }

  live_still : (t : Live) → commits_at (p + 1) (0, t) ≡ false → IsLive order m b p c sets t
      → IsLive order m b (p + 1) c sets t
  live_still t none h = record {
    of_member = h.of_member;
    begun = h.begun;
    stands = stands_still order p c (sets_of t.trx.begin sets) t t.status none h.stands;
  }

  lined_still : ((s : ℕ) (t : Live) → get live s ≡ Some t → commits_at (p + 1) (s, t) ≡ false)
      → Lined order m b serial (p + 1) c live sets
  lined_still none = record {
    ours = all_each (IsOurs m b p) (IsOurs m b (p + 1)) seen_more sets l.ours;
    serials = l.serials;
    each = λ s t there. live_still t (none s t there) (l.each s t there);
    begins = l.begins;
  }

  -- the one that commits there is the only one
  module _ (s : ℕ) (t : Live) (there : get live s ≡ Some t)
      (commits : commits_at (p + 1) (s, t) ≡ true) where
    passed_next : (o : ℕ) (u : Live) → get live o ≡ Some u → commits_at (p + 1) (o, u) ≡ true
        → HasPassed order p c u (p + 1)
    passed_next o u at now = passed_by order p c (p + 1) (sets_of u.trx.begin sets) u u.status
        (l.each o u at).stands now

    others_still : (o : ℕ) (u : Live) → eq_by_cmp nat_cmp o s ≡ false → get live o ≡ Some u
        → commits_at (p + 1) (o, u) ≡ false
    others_still o u differs at =
        false_from_ne_true (commits_at (p + 1) (o, u)) (λ now.
        untied numbers o s differs (l.begins o s u t at there
        (same_begin order p c (p + 1) u t (passed_next o u at now)
        (passed_next s t there commits))))

    lined_committed : Lined order m b serial (p + 1) c (remove live s) sets
    lined_committed = record {
      ours = all_each (IsOurs m b p) (IsOurs m b (p + 1)) seen_more sets l.ours;
      serials = l.serials;
      each = λ o u at. let was = left numbers live s o u at in
          live_still u (others_still o u was.elsewhere was.there) (l.each o u was.there);
      begins = λ o q u v one other. l.begins o q u v (left numbers live s o u one).there
          (left numbers live s q v other).there;
    }

-- ---- the moves
module _ (order : List Event) (n : ModelNode)
    (places : InOrder order n.at.committed n.at.certified n.at.taken) (h : IsSpelled order n) where
  abbrev p : ℕ
  p = n.at.committed

  abbrev c : ℕ
  c = n.at.certified

  -- the same write sets, over other live transactions
  same_sets : (b : ℕ) (live : FiniteMap nat_cmp Live)
      → Lined order n.at.member b n.at.serial p c live h.sets
      → Spelled order n.at.member b n.at.serial p c live (pending order n)
  same_sets b live lined = record { sets = h.sets; are = h.are; lined = lined }

  -- the same write sets, in other places
  same_pending : (bodies : List (List ℕ)) → pending order n ≡ bodies
      → Spelled order n.at.member n.at.begin n.at.serial p c n.live bodies
  same_pending bodies same = record {
    sets = h.sets;
    are = ap (map decoded) (sym same) ∙ h.are;
    lined = h.lined;
  }

  -- one more is sent
  abbrev pending_with : List ℕ → List (List ℕ)
  pending_with body = pending_in order n.at.member c n.at.taken
      (n.ordered ++ (n.outbox ++ message.Write body ∷ []))

  more_sent : (w : WriteSet) → decoded (spelling w) ≡ Some w → (live : FiniteMap nat_cmp Live)
      → Lined order n.at.member n.at.begin (n.at.serial + 1) p c live (h.sets ++ w ∷ [])
      → Spelled order n.at.member n.at.begin (n.at.serial + 1) p c live (pending_with (spelling w))
  more_sent w read live lined = record {
    sets = h.sets ++ w ∷ [];
    are =
        ap (map decoded) (pending-sent order n.at.member c n.at.taken n.ordered n.outbox
        (spelling w))
        ∙ map-append decoded (pending order n) (spelling w ∷ [])
        ∙ ap (λ front. front ++ decoded (spelling w) ∷ []) h.are
        ∙ ap (λ last. map Some h.sets ++ last ∷ []) read
        ∙ sym (map-append Some h.sets (w ∷ []));
    lined = lined;
  }

  pub orders_pending : (front back : List Message) → n.outbox ≡ front ++ back
      → pending order n ≡ pending order (record n { ordered = n.ordered ++ front; outbox = back })
  orders_pending front back is =
      ap (pending_in order n.at.member c n.at.taken) (ap (λ out. n.ordered ++ out) is
      ∙ sym (append_assoc n.ordered front back))

  pub takes_pending : (e : Event) (ordered : List Message) → slice_get order n.at.taken ≡ Some e
      → LeavesQueue n e ordered
      → pending order n ≡ pending order (with_taken n ordered)
  takes_pending e ordered there same =
      sym (pending_same order n.at.member c n.at.taken e (n.ordered ++ n.outbox)
      (ordered ++ n.outbox) places.certified_fits places.taken_fits there same.bodies)

  -- ---- a transaction that is live
  module _ (s : ℕ) (t : Live) (there : get n.live s ≡ Some t) where
    own : IsLive order n.at.member n.at.begin p c h.sets t
    own = h.lined.each s t there

    pub ended : Lined order n.at.member n.at.begin n.at.serial p c (remove n.live s) h.sets
    ended = ended_here order n.at.member n.at.begin n.at.serial p c n.live h.sets h.lined s t there

    now_as : (u : Live) → u.trx ≡ t.trx → IsLive order n.at.member n.at.begin p c h.sets u
        → Lined order n.at.member n.at.begin n.at.serial p c (insert n.live s u) h.sets
    now_as u same new = replaced_here order n.at.member n.at.begin n.at.serial p c n.live h.sets
        h.lined s t there u same new

    unlocked : (to : Status) → Unlocked t.status to
        → Lined order n.at.member n.at.begin n.at.serial p c
        (insert n.live s (with_status t to)) h.sets
    unlocked to can =
        now_as (with_status t to) refl (record {
          of_member = own.of_member;
          begun = own.begun;
          stands = stands_unlocked order p c (sets_of t.trx.begin h.sets) t t.status to can
              own.stands;
        })

  module _ (s : ℕ) (t : Live) (here : IsRunning n s t) where
    idle : (sets_of t.trx.begin h.sets ≡ [])
        × Gathered (state_at order c) t t.new_keys t.new_ops t.sent
    idle = subst (StandsBy order p c (sets_of t.trx.begin h.sets) t) here.running
        (h.lined.each s t here.there).stands

    more_gathered : (st : Statement) → Lined order n.at.member n.at.begin n.at.serial p c
        (insert n.live s (extended t st)) h.sets
    more_gathered st =
        let was = h.lined.each s t here.there in
        now_as s t here.there (extended t st) refl (record {
          of_member = was.of_member;
          begun = was.begun;
          stands = subst (StandsBy order p c (sets_of t.trx.begin h.sets) (extended t st))
              (sym here.running) (
                idle.0,
                gathered_added (state_at order c) t t.new_keys t.new_ops t.sent
                    (row_parts st.id) st.kind st.change idle.1,
              );
        })

    abbrev w : WriteSet
    w = commit_of t n.at.serial p

    abbrev part : WriteSet
    part = fragment_of t n.at.serial p

    fragment_is_sent : IsSendable t → ProgressInRange n.at
        → Spelled order n.at.member n.at.begin (n.at.serial + 1) p c
        (insert n.live s (fragment_sent t)) (pending_with (spelling part))
    fragment_is_sent can range =
        let was = h.lined.each s t here.there in
        let g = idle.1 in
        more_sent part (fragment-decoded n.at t range was.of_member was.begun can) _
        (sent order n.at.member n.at.begin n.at.serial p c n.live h.sets h.lined s t here.there part
        refl refl
        (record { of_member = was.of_member; begun = was.begun; seen = omega arith })
        (fragment_sent t) refl
        (record {
          of_member = was.of_member;
          begun = was.begun;
          stands = One part (of-own t.trx.begin h.sets part refl idle.0)
              (record {
                number = refl;
                flags = refl;
                no_keys = refl;
                no_ops = refl;
                gathered = record { first = g.first; whole = g.whole };
              });
        }))

    commit_sent : IsSendable t → ProgressInRange n.at
        → Spelled order n.at.member n.at.begin (n.at.serial + 1) p c
        (insert n.live s (with_status t status.CommitSent)) (pending_with (spelling w))
    commit_sent can range =
        let was = h.lined.each s t here.there in
        let g = idle.1 in
        more_sent w (commit-decoded n.at t range was.of_member was.begun can) _
        (sent order n.at.member n.at.begin n.at.serial p c n.live h.sets h.lined s t here.there w
        refl refl
        (record { of_member = was.of_member; begun = was.begun; seen = omega arith })
        (with_status t status.CommitSent) refl
        (record {
          of_member = was.of_member;
          begun = was.begun;
          stands = One w (of-own t.trx.begin h.sets w refl idle.0)
              (record {
                number = refl;
                flags = refl;
                gathered = record { first = g.first; whole = g.whole };
              });
        }))

  -- ---- a transaction begins
  first_begun : (s unit : ℕ)
      → Lined order n.at.member (n.at.begin + 1) n.at.serial p c
      (insert n.live s (first n.at.member n.at.begin unit)) h.sets
  first_begun s unit =
      begun order n.at.member n.at.begin n.at.serial p c n.live h.sets h.lined s
      (first n.at.member n.at.begin unit) refl (record {
        of_member = refl;
        begun = omega arith;
        stands = (
          of-new n.at.member n.at.begin p h.sets h.lined.ours,
          gathered_begun (state_at order c) (record {
            member = n.at.member;
            begin = n.at.begin;
          }) unit,
        );
      })

  -- ---- a transaction ends, and a rollback takes its fragments back
  module _ (s : ℕ) (t : Live) (there : get n.live s ≡ Some t) where
    abbrev back : WriteSet
    back = rollback_of t n.at.serial p

    rollback_is_sent : IsSendable t → ProgressInRange n.at
        → Spelled order n.at.member n.at.begin (n.at.serial + 1) p c
        (remove n.live s) (pending_with (spelling back))
    rollback_is_sent can range =
        let was = h.lined.each s t there in
        more_sent back (rollback-decoded n.at t range was.of_member was.begun can) _
        (sent_last order n.at.member n.at.begin n.at.serial p c n.live h.sets h.lined s t there back
        refl refl
        (record { of_member = was.of_member; begun = was.begun; seen = omega arith }))

  -- ---- the next event is certified
  module _ (more : c == n.at.taken ≡ false) where
    below : c < n.at.taken
    below = less_from c n.at.taken places.certified_fits more

    inside : c < length order
    inside = omega (arith, below, places.taken_fits)

    pub certifies_pending : (e : Event) → slice_get order c ≡ Some e
        → pending order n ≡ cons_option (own_body n.at.member e) (pending order (with_certified n))
    certifies_pending e there = pending_first order n.at.member c n.at.taken
        (n.ordered ++ n.outbox) e below there

    -- it is no write set of the member
    alien : (e : Event) → slice_get order c ≡ Some e → own_body n.at.member e ≡ None
        → ((t : Live) → t.trx.member ≡ n.at.member
        → Fewer (state_at order c) (after (state_at order c) e) t.trx)
        → IsSpelled order (with_certified n)
    alien e there none fewer =
        let same : pending order n ≡ pending order (with_certified n) =
        certifies_pending e there
        ∙ ap (λ o. cons_option o (pending order (with_certified n))) none in
        record {
          sets = h.sets;
          are = ap (map decoded) (sym same) ∙ h.are;
          lined = record {
            ours = h.lined.ours;
            serials = h.lined.serials;
            each = λ s t is.
                let was = h.lined.each s t is in
                live_later order p c n.at.member n.at.begin h.sets h.sets t
                (subst (λ r. Fewer (state_at order c) r t.trx) (sym (state_at-next order c e there))
                (fewer t was.of_member)) refl was;
            begins = h.lined.begins;
          };
        }

    -- it is one
    module _ (body : List ℕ) (there : slice_get order c ≡ Some (event.Write n.at.member body)) where
      heads : IsSplit (decoded body) (map decoded (pending order (with_certified n))) h.sets
      heads =
          split (decoded body) (map decoded (pending order (with_certified n))) h.sets
          (ap (map decoded) (sym (certifies_pending (event.Write n.at.member body) there
          ∙ ap (λ b. cons_option (cond b (Some body) None) (pending order (with_certified n)))
          (eq-eqb n.at.member n.at.member refl))) ∙ h.are)

      -- what holds of the others is said over its write set and those behind
      by_head : (live : FiniteMap nat_cmp Live)
          → ((w : WriteSet) (rest : List WriteSet) → decoded body ≡ Some w
          → Lined order n.at.member n.at.begin n.at.serial p c n.live (w ∷ rest)
          → Lined order n.at.member n.at.begin n.at.serial p (c + 1) live rest)
          → IsSplit (decoded body) (map decoded (pending order (with_certified n))) h.sets
          → Spelled order n.at.member n.at.begin n.at.serial p (c + 1) live
          (pending order (with_certified n))
      by_head live lined (Split w rest sets_are read are) =
          record {
            sets = rest;
            are = are;
            lined = lined w rest read
                (subst (Lined order n.at.member n.at.begin n.at.serial p c n.live) sets_are
                h.lined);
          }

      -- of a live transaction
      module _ (s : ℕ) (t : Live) (w : WriteSet) (judged : IsJudged order n s t body w) where
        begin_is : (v : WriteSet) → decoded body ≡ Some v → t.trx.begin ≡ v.begin
        begin_is v read = judged.begin ∙ ap (λ (x : WriteSet). x.begin)
            (same_Some w v (sym judged.is ∙ read))

        pub passed : verdict_next order n w ≡ verdict.Pass
            → Spelled order n.at.member n.at.begin n.at.serial p (c + 1)
            (insert n.live s (with_status t (passed_status (c + 1) t.status)))
            (pending order (with_certified n))
        passed pass =
            by_head _ (λ v rest read l.
            head_passed order n.at.member n.at.begin n.at.serial p c n.live v rest l body there read
            inside places.committed_fits s t judged.there
            (begin_is v read) (ap (verdict_next order n) (same_Some v w (sym read ∙ judged.is))
            ∙ pass)) heads

        pub failed : Spelled order n.at.member n.at.begin n.at.serial p (c + 1) (remove n.live s)
            (pending order (with_certified n))
        failed =
            by_head _ (λ v rest read l.
            head_ended order n.at.member n.at.begin n.at.serial p c n.live v rest l body there read
            inside places.committed_fits s t judged.there
            (begin_is v read)) heads

      -- of none, or of one that stays as it is
      module _ (may : MayCertify order n (event.Write n.at.member body)) (w : WriteSet)
          (rest : List WriteSet) (read : decoded body ≡ Some w)
          (l : Lined order n.at.member n.at.begin n.at.serial p c n.live (w ∷ rest)) where
        found_by : (o : Option (ℕ × Live)) → session_of n.live w.begin ≡ o
            → Lined order n.at.member n.at.begin n.at.serial p (c + 1) n.live rest
        found_by None none =
            head_alien order n.at.member n.at.begin n.at.serial p c n.live w rest l body there read
            inside places.committed_fits
            (λ o v at. unequal w.begin v.trx.begin (λ same.
            true≢false (sym (eq-eqb v.trx.begin w.begin (sym same))
            ∙ entry_missed n.live (λ e. e.1.trx.begin == w.begin) o v none at)))
        found_by (Some e) found =
            let entry = entry_found n.live (λ e. e.1.trx.begin == w.begin) e found in
            let begin : e.1.trx.begin ≡ w.begin = equal e.1.trx.begin w.begin entry.passes in
            head_failed order n.at.member n.at.begin n.at.serial p c n.live w rest l body there read
            inside places.committed_fits e.0 e.1 entry.there begin
            (may.undecided e.0 e.1 body w (record {
              more = more;
              next = there;
              is = read;
              found = found;
              there = entry.there;
              begin = begin;
              waits = head_waits order n.at.member n.at.begin n.at.serial p c n.live w rest l body
                  there read inside places.committed_fits e.0 e.1 entry.there begin;
            }))

      stays : MayCertify order n (event.Write n.at.member body) → IsSpelled order (with_certified n)
      stays may = by_head n.live (λ w rest read l. found_by may w rest read l
          (session_of n.live w.begin) refl) heads

  written : (sender : ℕ) (body : List ℕ) (own : Bool) → sender == n.at.member ≡ own
      → MayCertify order n (event.Write sender body)
      → IsSpelled order (with_certified n)
  written sender body true is may =
      let same : sender ≡ n.at.member = equal sender n.at.member is in
      stays may.more body (may.next ∙ ap (λ m. Some (event.Write m body)) same)
      (subst (λ m. MayCertify order n (event.Write m body)) same may)
  written sender body false is may =
      alien may.more (event.Write sender body) may.next (ap (λ b. cond b (Some body) None) is)
      (λ t of_member. fewer_foreign (state_at order c) sender body t.trx
      (λ same. true≢false (sym (eq-eqb sender n.at.member (same ∙ of_member)) ∙ is)))

  certified : (e : Event) → MayCertify order n e → IsSpelled order (with_certified n)
  certified (event.Write sender body) may = written sender body (sender == n.at.member) refl may
  certified (event.View version members) may =
      alien may.more (event.View version members) may.next refl
      (λ t of_member. fewer_view (state_at order c) version members t.trx)
  certified (event.Report sender number) may =
      alien may.more (event.Report sender number) may.next refl
      (λ t of_member. fewer_report (state_at order c) sender number t.trx)

  pub sent_moved : (given : Type 0) → given
      → ((s : ℕ) (t : Live) → get n.live s ≡ Some t → IsSendable t)
      → (k : Kind) (m : ModelNode) → Move order given n k m → IsSpelled order m
  sent_moved given g can k m (Begins s unit may) = same_sets (n.at.begin + 1) _ (first_begun s unit)
  sent_moved given g can k m (Extends s t st here fits free) =
      same_sets n.at.begin _ (more_gathered s t here st)
  sent_moved given g can k m (Streams s t here change range) =
      fragment_is_sent s t here (can s t here.there) (range g)
  sent_moved given g can k m (Sends s t here range) =
      commit_sent s t here (can s t here.there) (range g)
  sent_moved given g can k m (Ends s t o there) = same_sets n.at.begin _ (ended s t there)
  sent_moved given g can k m (TakesBack s t w o there due range) =
      let inside : p ≤ length order =
      omega (arith, places.committed_fits, places.certified_fits, places.taken_fits) in
      subst (λ w. Spelled order n.at.member n.at.begin (n.at.serial + 1) p c (remove n.live s)
      (pending_with (spelling w)))
      (due_is t n.at.serial p w due) (rollback_is_sent s t there (can s t there) (range g inside))
  sent_moved given g can k m (Unlocks s t to there can_unlock) =
      same_sets n.at.begin _ (unlocked s t there to can_unlock)
  sent_moved given g can k m (Reports stays) =
      same_pending _ (pending-reported order n.at.member c n.at.taken n.ordered n.outbox p)
  sent_moved given g can k m (Orders front back is) = same_pending _ (orders_pending front back is)
  sent_moved given g can k m (Leaves may) = spelled_left order n h may
  sent_moved given g can k m (Takes e ordered there same) =
      same_pending _ (takes_pending e ordered there same)
  sent_moved given g can k m (Certifies e may) = certified e may
  sent_moved given g can k m (Passes s t body w judged pass) =
      passed judged.more body judged.next s t w judged pass
  sent_moved given g can k m (Fails s t body w v judged came) =
      failed judged.more body judged.next s t w judged
  sent_moved given g can k m (Advances may none) = record {
    sets = h.sets;
    are = h.are;
    lined = lined_still order n.at.member n.at.begin n.at.serial p c n.live h.sets h.lined
        (λ s t there. entry_missed n.live (commits_at (p + 1)) s t none there);
  }
  sent_moved given g can k m (Commits s t may there is) = record {
    sets = h.sets;
    are = h.are;
    lined = lined_committed order n.at.member n.at.begin n.at.serial p c n.live h.sets h.lined s t
        there (entry_found n.live (commits_at (p + 1)) (s, t) is).passes;
  }
  sent_moved given g can k m _ = h
