-- What is kept of a node's member is kept by each step of the node but a join, and while others
-- order events.
use Rattle.std.proofs.Common.{◌≡◌, ℕ, ◌+◌, ◌≤◌, ◌<◌, ◌^◌, true, List, [], ◌∷◌, ◌++◌, length, sym, subst, arith, append-nil}
use Rattle.std.specs.Prelude.{map}
use Rattle.std.specs.List.{AllByRecursion}
use Rattle.order_event.specs.declared.event.Event.{Event}
use Rattle.order_event.specs.declared.event.Message.{Message}
use Rattle.order_event.specs.declared.step.Act.{Act}
use Rattle.order_event.specs.declared.step.Act.TheVariants as act
use Rattle.group_order.specs.Order.{event_of, view_without, last_view}
use Rattle.node_meaning.specs.Node.{ModelNode, is_left}
use Rattle.node_meaning.specs.Steps.{first_sent, node_step, drained, take_step, certify_step, start_step, finish_step, advance_step, report_step}
use Rattle.node_meaning.specs.Client.{client}
use Rattle.node_meaning.specs.Facts.{ProgressInRange}
use Rattle.node_meaning.specs.Status.{status_step}
use Rattle.node_meaning.specs.Leaving.{left_node}
use Rattle.node_laws.proofs.Moves.{with_ordered, Reaches, at_most}
use Rattle.node_laws.proofs.ClientMoves.{CanCall, client_moves}
use Rattle.node_laws.proofs.TakeMoves.{take_moves}
use Rattle.node_laws.proofs.CertifyMoves.{certify_moves}
use Rattle.node_laws.proofs.UnitMoves.{CanTakeBack, start_moves, finish_moves}
use Rattle.node_laws.proofs.ReportMoves.{report_moves}
use Rattle.node_laws.proofs.AdvanceMoves.{CanDrain, advance_moves, drained_moves}
use Rattle.node_laws.proofs.Counts.{reach_grows}
use Rattle.node_laws.proofs.Joining.{view_reached}
use Rattle.node_laws.specs.Fits.{ActFits}
use Rattle.node_laws.proofs.Leaving.{left_at, left_grows}
use Rattle.course_laws.specs.Courses.{first_event, IsOfOthers}
pub use Rattle.course_laws.specs.Kept.{Kept}
use Rattle.course_laws.proofs.PendingSets.{within_order}
use Rattle.course_laws.proofs.Following.{AllKeep, still_follows, client_follows, report_follows, Follows, Place, Inside, Entering, Outside}
use Rattle.course_laws.proofs.Growing.{others_follows, own_all_keep, own_follows, decided_grown, others_silent, decided_still, none_behind_kept, none_behind_grown}
use Rattle.course_laws.proofs.Viewed.{without_itself}
use Rattle.course_laws.proofs.Leaving.{left_follows}

-- what a node that made no step keeps
pub same_kept : (member most : ℕ) (order : List Event) (n : ModelNode) → Kept member most order n
    → Kept member (most + 1) order n
same_kept member most order n h = record {
  follows = h.follows;
  decided = h.decided;
  none_behind = h.none_behind;
  serial = omega (arith, h.serial);
  begin = omega (arith, h.begin);
}

module _ (member most : ℕ) (small : member < 2 ^ 32) (few : most ≤ 2 ^ 63) where
  -- ---- over the same order
  module _ (order : List Event) (n : ModelNode) (h : Kept member most order n)
      (short : length order ≤ 2 ^ 63) where
    in_range : ProgressInRange n.at
    in_range =
        let o = h.follows.facts.in_order in record {
          member = subst (λ k. k < 2 ^ 32) (sym h.follows.home) small;
          committed = omega (arith, short, o.committed_fits, o.certified_fits, o.taken_fits);
          serial = omega (arith, few, h.serial);
          begin = omega (arith, few, h.begin);
        }

    -- by a row that gives out one at most
    paid_row : (given : Type 0) (m : ModelNode) → Reaches order given true n 1 m
        → Follows order member m → Kept member (most + 1) order m
    paid_row given m row follows =
        let grows = reach_grows order given true n 1 m row in record {
          follows = follows;
          decided = h.decided;
          none_behind = rw (view_reached order given true n 1 m row) h.none_behind;
          serial = omega (arith, h.serial, grows.serial);
          begin = omega (arith, h.begin, grows.begin);
        }

    -- by one that gives nothing out
    by_row : (given : Type 0) → given → (m : ModelNode) → Reaches order given true n 0 m
        → Kept member (most + 1) order m
    by_row given g m row =
        paid_row given m (at_most 1 n m row) (still_follows order member given g n m row h.follows)

    pub step_kept : (a : Act) → ActFits a → Kept member (most + 1) order (node_step order n a).1
    unfolding status_step
    step_kept (act.Client session call) fits =
        let can : CanCall n call =
        record { names = fits.0; values = fits.1; range = in_range } in
        paid_row (CanCall n call) (client order n session call).1
        (client_moves order true n session call)
        (client_follows order member n session call can h.follows)
    step_kept act.Take fits = by_row (Unit {0}) tt (take_step order n).1 (take_moves order _ true n)
    step_kept act.Certify fits =
        by_row (Unit {0}) tt (certify_step order n).1 (certify_moves order _ true n)
    step_kept (act.Start number) fits =
        let can : CanTakeBack n = record {
          member = in_range.member;
          committed = in_range.committed;
          serial = omega (arith, few, h.serial);
          begin = in_range.begin;
        } in
        by_row (CanTakeBack n) can (start_step order n number).1
        (start_moves order (CanTakeBack n) n number (λ g inside. g))
    step_kept (act.Finish number) fits =
        by_row (Unit {0}) tt (finish_step n number).1 (finish_moves order _ n number)
    step_kept act.Advance fits =
        by_row (Unit {0}) tt (advance_step order n).1 (advance_moves order _ n)
    step_kept act.Report fits =
        paid_row (Unit {0}) (report_step n).1 (report_moves order (Unit {0}) true n)
        (report_follows order member n h.follows)
    step_kept _ fits = same_kept member most order n h

  -- ---- over an order that grows
  module _ (order : List Event) (n : ModelNode) (h : Kept member most order n) where
    others_still : (events : List Event)
        → AllByRecursion (IsOfOthers n.at.member (is_left n.at.phase)) events
        → Kept member most (order ++ events) n
    others_still events all =
        let silent = others_silent member (is_left n.at.phase) events (rw h.follows.home at all) in
        record {
          follows = others_follows order member n events all h.follows;
          decided = decided_still order events member h.decided silent;
          none_behind = none_behind_grown order events member n.at.view h.none_behind silent;
          serial = h.serial;
          begin = h.begin;
        }

    pub others_kept : (events : List Event)
        → AllByRecursion (IsOfOthers n.at.member (is_left n.at.phase)) events
        → Kept member (most + 1) (order ++ events) n
    others_kept events all = same_kept member most (order ++ events) n (others_still events all)

    none_still : (front back : List Message) → n.outbox ≡ front ++ back → n.outbox ≡ []
        → Kept member most (order ++ map (event_of member) front) (with_ordered n front back)
    none_still [] [] is none =
        let same : with_ordered n [] [] ≡ n =
        λ i. record n { ordered = append-nil n.ordered i; outbox = sym none i } in
        subst (Kept member most (order ++ [])) (sym same) (others_still [] tt)
    none_still [] (x ∷ back) is none = cc
    none_still (x ∷ front) back is none = cc

    own_still : (front back : List Message) → n.outbox ≡ front ++ back → Place order n
        → Kept member most (order ++ map (event_of member) front) (with_ordered n front back)
    own_still front back is (Inside s) =
        let follows = own_follows order member n front back is s.connected h.follows in
        let keeps = subst (λ k. AllKeep order k n.at.view) h.follows.home s.keeps in record {
          follows = follows;
          decided = decided_grown order (map (event_of member) front) member
              (with_ordered n front back) h.decided (within_order order n h.follows.facts)
              s.connected follows;
          none_behind = none_behind_kept (order ++ map (event_of member) front) member n.at.view
              (own_all_keep order member n.at.view front keeps);
          serial = h.serial;
          begin = h.begin;
        }
    own_still front back is (Entering s) = none_still front back is s.rest.none_waits
    own_still front back is (Outside g) = none_still front back is g.cleared.none_waits

    pub own_kept : (front back : List Message) → n.outbox ≡ front ++ back → Place order n
        → Kept member (most + 1) (order ++ map (event_of member) front) (with_ordered n front back)
    own_kept front back is place =
        same_kept member most (order ++ map (event_of member) front) (with_ordered n front back)
        (own_still front back is place)

    pub first_kept : (queue : List Message) → n.outbox ≡ queue
        → Kept member (most + 1) (order ++ first_event n queue) (first_sent n queue)
    first_kept [] is = others_kept [] tt
    first_kept (m ∷ ms) is =
        subst (λ k. Kept member (most + 1) (order ++ event_of k m ∷ [])
        (with_ordered n (m ∷ []) ms)) (sym h.follows.home)
        (own_kept (m ∷ []) ms is h.follows.place)

    -- a node in its group leaves
    left_still : Kept member most order (left_node n)
    left_still = record {
      follows = left_follows order member n h.follows;
      decided = h.decided;
      none_behind = rw (left_at n) h.none_behind;
      serial = omega (arith, h.serial, (left_grows n).serial);
      begin = omega (arith, h.begin, (left_grows n).begin);
    }

    view_of_others : IsOfOthers (left_node n).at.member (is_left (left_node n).at.phase)
        (view_without order n.at.member)
    view_of_others = rw (left_at n) (without_itself n.at.member (last_view order).1)

  pub left_kept : (order : List Event) (n : ModelNode) → Kept member most order n
      → Kept member (most + 1) (order ++ view_without order n.at.member ∷ []) (left_node n)
  left_kept order n h =
      others_kept order (left_node n) (left_still order n h) (view_without order n.at.member ∷ [])
      (view_of_others order n h, tt)

  pub drain_kept : (order : List Event) (n : ModelNode) → Kept member most order n
      → length (order ++ map (event_of n.at.member) n.outbox) ≤ 2 ^ 63
      → Kept member (most + 1) (order ++ map (event_of n.at.member) n.outbox)
      (drained (order ++ map (event_of n.at.member) n.outbox) (with_ordered n n.outbox []))
  drain_kept order n h short =
      let longer = order ++ map (event_of n.at.member) n.outbox in
      let sent = with_ordered n n.outbox [] in
      let k = subst (λ k. Kept member most (order ++ map (event_of k) n.outbox) sent)
      (sym h.follows.home)
      (own_still order n h n.outbox [] (sym (append-nil n.outbox)) h.follows.place) in
      let can : CanDrain longer sent = record {
        member = (in_range longer sent k short).member;
        events = omega (arith, short);
        serial = omega (arith, few, h.serial);
        begin = omega (arith, few, h.begin);
      } in
      by_row longer sent k short (CanDrain longer sent) can (drained longer sent)
      (drained_moves longer (CanDrain longer sent) sent (λ g. g))
