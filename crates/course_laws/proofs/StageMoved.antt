-- Every move keeps the stage of a node: that it has not certified its member's view, has nothing
-- live and has sent nothing, or what holds over the order so far.
use Rattle.std.proofs.Common.{◌≡◌, ℕ, ◌+◌, ◌≤◌, ◌<◌, true, false, cond, List, [], ◌++◌, length, Option, Some, None, refl, ap, sym, subst, ◌∙◌, arith, eq-eqb, inl, inr}
use Rattle.std.specs.Prelude.{◌==◌, max, slice_get}
use Rattle.std.specs.List.{cons_option}
use Rattle.std.specs.Ordering.{nat_cmp}
use Rattle.std.proofs.lemmas.Bool.{cases_lt}
use Rattle.std.proofs.lemmas.Option.{same_Some, slice_get_within}
use Rattle.finite_map.specs.FiniteMap.{FiniteMap, get, remove}
use Rattle.finite_map.proofs.Edits.{numbers, left}
use Rattle.order_event.specs.declared.event.Event.{Event}
use Rattle.order_event.specs.declared.event.Event.TheVariants as event
use Rattle.order_event.specs.declared.event.Message.TheVariants as message
use Rattle.cert_meaning.specs.State.{FoldState}
use Rattle.cert_meaning.specs.Fold.{state_at}
use Rattle.cert_meaning.proofs.FoldLaws.{number-at}
use Rattle.client_trx.specs.Live.{Live, with_status}
use Rattle.node_meaning.specs.Node.{ModelNode}
use Rattle.node_meaning.specs.Client.{extended}
use Rattle.node_meaning.specs.Facts.{Facts, own_body, pending}
use Rattle.node_laws.specs.InStep.{message_of, messages_behind}
use Rattle.node_laws.proofs.Moves.{Kind, Pays, Move, Begins, Extends, Streams, Sends, Ends, TakesBack, Unlocks, Reports, Orders, Leaves, Takes, Certifies, Passes, Fails, Advances, Commits, May, MayCertify, with_certified, ended_with}
use Rattle.node_laws.proofs.Sendable.{due_is}
use Rattle.node_laws.proofs.SentMoved.{takes_pending, certifies_pending}
use Rattle.course_laws.specs.Ordered.{pending_sets, messages_ahead, seen_ahead, GoesOn, Entered, OrderedFacts, Keeps, IsEarly, Stage, Early, Since}
use Rattle.course_laws.proofs.Placing.{rises_higher}
use Rattle.course_laws.proofs.PendingSets.{ahead_next, within_order}
use Rattle.course_laws.proofs.Newcoming.{none_first, newcomer_entered}
use Rattle.course_laws.proofs.Sending.{put_entered, left_entered, begun_entered, resting, again, taken_back_entered, fragment_entered, commit_entered, report_entered, not_running}
use Rattle.course_laws.proofs.Certifying.{certified_ordered, passes_ordered, fails_ordered}

-- ---- the next number is committed
later_goes : (s : FoldState) (v p : ℕ) (t : Live) → GoesOn s v p t → GoesOn s v (p + 1) t
later_goes s v p t h = record {
  synced = omega (arith, h.synced);
  sent = λ running. let g = h.sent running in
      record { opened = g.opened; count = g.count; seen = omega (arith, g.seen) };
}

module _ (order : List Event) (n : ModelNode) (h : OrderedFacts order n) where
  committed_entered : (now : FiniteMap nat_cmp Live)
      → ((se : ℕ) (t : Live) → get now se ≡ Some t → get n.live se ≡ Some t)
      → Entered (state_at order n.at.certified) n.at.member n.at.view n.at.begin n.at.serial
      (n.at.committed + 1) now (pending_sets order n) (seen_ahead order n)
  committed_entered now were = record {
    entered = h.entered;
    standing = h.standing;
    is_member = h.is_member;
    floor = h.floor;
    serials = h.serials;
    rises = rises_higher h.standing.report (seen_ahead order n) (max n.at.committed n.at.view)
        (max (n.at.committed + 1) n.at.view) (omega arith) h.rises;
    placed = h.placed;
    ends = h.ends;
    each = λ se t there. later_goes (state_at order n.at.certified) n.at.view n.at.committed t
        (h.each se t (were se t there));
    unbegun = h.unbegun;
  }

-- ---- since the node certified the view of its member
module _ (order : List Event) (n : ModelNode) (f : Facts order n) (h : OrderedFacts order n) where
  pub ordered_moved : (given : Type 0) → given → (k : Kind) (m : ModelNode)
      → (k ≡ Pays → n.at.view ≤ n.at.committed)
      → ((e : Event) → n.at.certified == n.at.taken ≡ false
      → slice_get order n.at.certified ≡ Some e → Keeps n.at.member e)
      → May true k → Move order given n k m → OrderedFacts order m
  ordered_moved given g k m synced keeps may (Begins se unit begins) =
      begun_entered order n f h (synced refl) se unit
  ordered_moved given g k m synced keeps may (Extends se t change here fits free) =
      put_entered order n f h se (extended t change)
      (again order n f h se t here (extended t change) refl refl)
  ordered_moved given g k m synced keeps may (Streams se t here change range) =
      fragment_entered order n f h se t here (range g)
  ordered_moved given g k m synced keeps may (Sends se t here range) =
      commit_entered order n f h se t here (range g)
  ordered_moved given g k m synced keeps may (Ends se t o there) = left_entered order n f h se
  ordered_moved given g k m synced keeps may (TakesBack se t w o there due range) =
      let inside : n.at.committed ≤ length order =
      omega (arith, f.in_order.committed_fits, within_order order n f) in
      subst (λ x. OrderedFacts order (ended_with n se x o))
      (due_is t n.at.serial n.at.committed w due)
      (taken_back_entered order n f h se t there (range g inside))
  ordered_moved given g k m synced keeps may (Unlocks se t to there unlocked) =
      put_entered order n f h se (with_status t to)
      (resting order n f h se t there (with_status t to) (not_running t.status to unlocked))
  ordered_moved given g k m synced keeps may (Reports stays) =
      report_entered order n f h (synced refl)
  ordered_moved given g k m synced keeps may (Orders front back is) = absurd may
  ordered_moved given g k m synced keeps may (Leaves stay) = absurd may
  ordered_moved given g k m synced keeps may (Takes e ordered there leaves) =
      rw (← takes_pending order n f.in_order f.sent e ordered there leaves) h
  ordered_moved given g k m synced keeps may (Certifies e next) =
      certified_ordered order n f h e next (keeps e next.more next.next)
  ordered_moved given g k m synced keeps may (Passes se t body w judged pass) =
      passes_ordered order n f h se t body w judged pass
  ordered_moved given g k m synced keeps may (Fails se t body w v judged came) =
      fails_ordered order n f h se t body w judged
  ordered_moved given g k m synced keeps may (Advances next none) =
      committed_entered order n h n.live (λ se t there. there)
  ordered_moved given g k m synced keeps may (Commits se t next there is) =
      committed_entered order n h (remove n.live se)
      (λ o u at. (left numbers n.live se o u at).there)
  ordered_moved given g k m synced keeps may _ = h

-- ---- before that
none_later : {X : Type 0} (o : Option X) (xs ys : List X) → cons_option o xs ++ ys ≡ []
    → xs ++ ys ≡ []
none_later None xs ys is = is
none_later (Some x) xs ys is = cc

module _ (order : List Event) (n : ModelNode) (f : Facts order n)
    (h : IsEarly order n.at.member n.at.view n.at.certified n.at.serial n.live (pending order n)
    (messages_ahead order n)) where
  -- the next event is no write set of its member
  pub no_write : (body : List ℕ)
      → slice_get order n.at.certified ≡ Some (event.Write n.at.member body) → ⊥
  no_write body there =
      let behind = sym (ahead_next order n (event.Write n.at.member body)
      (Some (message.Write body)) there
      (ap (λ b. cond b (Some (message.Write body)) None)
      (eq-eqb n.at.member n.at.member refl))) ∙ h.silent in
      cc

  module _ (e : Event) (may : MayCertify order n e) where
    nothing_next : pending order (with_certified n) ≡ []
    nothing_next =
        (none_first (own_body n.at.member e) (pending order (with_certified n))
        (sym (certifies_pending order n f.in_order f.sent may.more e may.next) ∙ h.nothing)).1

    silent_next : messages_ahead order (with_certified n) ≡ []
    silent_next =
        none_later (message_of n.at.member e)
        (messages_behind n.at.member (n.at.certified + 1) order) n.outbox
        (sym (ahead_next order n e (message_of n.at.member e) may.next refl) ∙ h.silent)

    -- the view of its member is certified
    module _ (last : n.at.view ≤ n.at.certified + 1) where
      here : n.at.certified ≡ h.newcomer.before
      here = let number = h.newcomer.number in omega (arith, last, h.before, number)

      abbrev view_event : Event
      view_event = event.View h.newcomer.version h.newcomer.members

      next_at : (j : ℕ) (g : Event) → n.at.view ≤ j + 1 → j < n.at.certified + 1
          → slice_get order j ≡ Some g → g ≡ view_event
      next_at j g from before there =
          let number = h.newcomer.number in
          let same : j ≡ h.newcomer.before = omega (arith, from, before, here, number) in
          same_Some g view_event (sym there ∙ ap (slice_get order) same ∙ h.newcomer.opens)

      view_entered : Entered (state_at order (n.at.certified + 1)) n.at.member n.at.view n.at.begin
          n.at.serial n.at.committed n.live [] []
      view_entered =
          let within = slice_get_within order h.newcomer.before view_event h.newcomer.opens in
          newcomer_entered order n.at.member n.at.view h.newcomer (n.at.certified + 1)
          (omega (arith, within, here))
          (λ j g from before there. rw (next_at j g from before there))
          (λ j g from before there. rw (next_at j g from before there) h.newcomer.has)
          (n.at.certified + 1) n.at.begin n.at.serial n.at.committed n.live last (omega arith)
          h.positive h.idle

    early_certified : Stage order (with_certified n)
    early_certified =
        elim (cases_lt (n.at.certified + 1) n.at.view) [
          | inl below ↦ Early (search (h, below, nothing_next, silent_next))
          | inr last ↦ Since (rw (nothing_next, silent_next) (view_entered last))
        ]

  not_synced : n.at.view ≤ n.at.committed → ⊥
  not_synced synced = omega (arith, synced, f.in_order.committed_fits, h.before)

  pub early_moved : (given : Type 0) (k : Kind) (m : ModelNode)
      → (k ≡ Pays → n.at.view ≤ n.at.committed) → May true k → Move order given n k m
      → Stage order m
  early_moved given k m synced may (Begins se unit begins) = absurd (not_synced (synced refl))
  early_moved given k m synced may (Extends se t _ here _ _) = absurd (h.idle se t here.there)
  early_moved given k m synced may (Streams se t here _ _) = absurd (h.idle se t here.there)
  early_moved given k m synced may (Sends se t here range) = absurd (h.idle se t here.there)
  early_moved given k m synced may (Ends se t o there) = absurd (h.idle se t there)
  early_moved given k m synced may (TakesBack se t w o there due range) = absurd (h.idle se t there)
  early_moved given k m synced may (Unlocks se t to there unlocked) = absurd (h.idle se t there)
  early_moved given k m synced may (Reports stays) = absurd (not_synced (synced refl))
  early_moved given k m synced may (Orders front back is) = absurd may
  early_moved given k m synced may (Leaves stay) = absurd may
  early_moved given k m synced may (Takes e ordered there leaves) =
      Early (rw (← takes_pending order n f.in_order f.sent e ordered there leaves) h)
  early_moved given k m synced may (Certifies e next) = early_certified e next
  early_moved given k m synced may (Passes se t _ _ judged _) = absurd (h.idle se t judged.there)
  early_moved given k m synced may (Fails se t _ _ _ judged _) = absurd (h.idle se t judged.there)
  early_moved given k m synced may (Commits se t next there is) = absurd (h.idle se t there)
  early_moved given k m synced may _ = Early h

-- ---- either
module _ (order : List Event) (n : ModelNode) (given : Type 0) (g : given) (k : Kind)
    (m : ModelNode) (synced : k ≡ Pays → n.at.view ≤ n.at.committed)
    (keeps : (e : Event) → n.at.view ≤ n.at.certified → n.at.certified == n.at.taken ≡ false
    → slice_get order n.at.certified ≡ Some e → Keeps n.at.member e)
    (may : May true k) (move : Move order given n k m) (f : Facts order n) where
  pub stage_moved : Stage order n → Stage order m
  stage_moved (Early h) = early_moved order n f h given k m synced may move
  stage_moved (Since h) =
      let up : n.at.view ≤ n.at.certified =
      subst (λ j. n.at.view ≤ j) (number-at order n.at.certified (within_order order n f)) h.entered
      in Since (ordered_moved order n f h given g k m synced (λ e. keeps e up) may move)
