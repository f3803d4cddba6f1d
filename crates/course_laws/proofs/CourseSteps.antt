-- What is kept of a course is kept whatever happens next.
use Rattle.std.proofs.Common.{◌≡◌, ℕ, ◌+◌, ◌≤◌, ◌<◌, ◌^◌, true, false, cond, List, [], ◌∷◌, ◌++◌, length, refl, sym, subst, ◌∙◌, arith, Bool}
use Rattle.std.specs.Prelude.{◌==◌, ◌||◌, ◌&&◌, map}
use Rattle.std.proofs.lemmas.Bool.{cond_both}
use Rattle.std.specs.List.{AllByRecursion}
use Rattle.order_event.specs.declared.event.Event.{Event}
use Rattle.order_event.specs.declared.event.Message.{Message}
use Rattle.order_event.specs.declared.event.Message.TheVariants as message
use Rattle.order_event.specs.declared.step.Act.{Act}
use Rattle.order_event.specs.declared.step.Act.TheVariants as act
use Rattle.group_order.specs.Order.{event_of, last_view, last_member, new_member, view_without, view_with}
use Rattle.node_meaning.specs.Node.{ModelNode, is_left}
use Rattle.node_meaning.specs.Joining.{received_events, received_snapshot}
use Rattle.node_meaning.specs.Steps.{first_sent, node_step, drained}
use Rattle.node_meaning.specs.Leaving.{left_node}
use Rattle.node_laws.specs.Fits.{ActFits}
use Rattle.node_laws.proofs.Moves.{with_ordered}
use Rattle.node_laws.proofs.LastMember.{last-grows}
use Rattle.node_laws.proofs.SetLists.{equal, unequal, all_each}
use Rattle.course_laws.specs.Courses.{Course, Happens, Others, Does, Takes, Installs, first_event, does, next, IsOfOthers, Fits, DoesFit, leave_over, join_over}
use Rattle.course_laws.specs.Laws.{IsViewed, FormerLaws}
use Rattle.course_laws.specs.Kept.{Kept, CourseKept}
use Rattle.course_laws.proofs.LastMember.{member_below}
use Rattle.course_laws.proofs.Growing.{others_silent, decided_still}
use Rattle.course_laws.proofs.Viewed.{without_other, has_last, any_last, viewed_joined, viewed_grown, next_viewed}
use Rattle.course_laws.proofs.CourseLaws.{same_kept, step_kept, others_kept, first_kept, left_kept, drain_kept}
use Rattle.course_laws.proofs.Joining.{last_is, joined_kept, took_kept, installed_kept}

-- ---- members that the node was before
-- events that are others' and leave them out, as they have left
abbrev pub AreOut : List Event → ℕ → Type 0
AreOut events k = AllByRecursion (IsOfOthers k true) events

pub former_grown : (order more : List Event) (k : ℕ) → AreOut more k → FormerLaws order k
    → FormerLaws (order ++ more) k
former_grown order more k out h = record {
  decided = decided_still order more k h.decided (others_silent k true more out);
  viewed = viewed_grown k true order more out h.viewed;
}

pub all_two : (P Q R : ℕ → Type 0) → ((k : ℕ) → P k → Q k → R k) → (ks : List ℕ)
    → AllByRecursion P ks → AllByRecursion Q ks → AllByRecursion R ks
all_two P Q R each [] one other = tt
all_two P Q R each (k ∷ ks) one other =
    (each k one.0 other.0, all_two P Q R each ks one.1 other.1)

differs : (k member : ℕ) → k < member → member == k ≡ false
differs k member below = unequal member k (λ same. omega (arith, same, below))

-- so are messages of a member above
pub sent_out_of : (member k : ℕ) (ms : List Message) → k < member
    → AreOut (map (event_of member) ms) k
sent_out_of member k [] below = tt
sent_out_of member k (message.Write body ∷ ms) below =
    (differs k member below, sent_out_of member k ms below)
sent_out_of member k (message.Report number ∷ ms) below =
    (differs k member below, sent_out_of member k ms below)

-- and the view with which it enters
joined_out : (order : List Event) (member k : ℕ) → k < member → FormerLaws order k
    → AreOut (view_with order member ∷ []) k
joined_out order member k below h =
    (any_last k member (last_view order).1 ∙ (λ i. h.viewed i || differs k member below i), tt)

-- ---- one course
abbrev Viewed : Course → Type 0
Viewed c = IsViewed c.order c.node.at.member (is_left c.node.at.phase)

module _ (most : ℕ) (few : most ≤ 2 ^ 63) (c : Course) (h : CourseKept most c) where
  -- ---- its node's member stays
  -- over an order in which no member is lost
  still_kept : (order : List Event) (m : ModelNode) → Kept c.node.at.member (most + 1) order m
      → IsViewed order m.at.member (is_left m.at.phase)
      → last_member c.order ≤ last_member order
      → AllByRecursion (FormerLaws order) c.former
      → CourseKept (most + 1) (record c { order = order; node = m })
  still_kept order m k viewed more former =
      let same : c.node.at.member ≡ m.at.member = sym k.follows.home in record {
        kept = subst (λ x. Kept x (most + 1) order m) same k;
        small = subst (λ x. x < 2 ^ 32) same h.small;
        viewed = viewed;
        known = omega (arith, h.known, more, same);
        below = subst (λ x. AllByRecursion (λ j. j < x) c.former) same h.below;
        former = former;
      }

  all_former : (more : List Event) → AllByRecursion (AreOut more) c.former
      → AllByRecursion (FormerLaws (c.order ++ more)) c.former
  all_former more out =
      all_two _ _ _ (former_grown c.order more) c.former out h.former

  -- over one that grows
  grown_kept : (more : List Event) (m : ModelNode)
      → Kept c.node.at.member (most + 1) (c.order ++ more) m
      → IsViewed (c.order ++ more) m.at.member (is_left m.at.phase)
      → AllByRecursion (AreOut more) c.former
      → CourseKept (most + 1) (record c { order = c.order ++ more; node = m })
  grown_kept more m k viewed out =
      still_kept (c.order ++ more) m k viewed (last-grows c.order more) (all_former more out)

  -- over the same
  here_kept : (m : ModelNode) → Kept c.node.at.member (most + 1) c.order m
      → IsViewed c.order m.at.member (is_left m.at.phase)
      → CourseKept (most + 1) (record c { node = m })
  here_kept m k viewed = still_kept c.order m k viewed (omega arith) h.former

  -- nothing is done
  idle_kept : CourseKept (most + 1) c
  idle_kept = here_kept c.node (same_kept c.node.at.member most c.order c.node h.kept) h.viewed

  sent_former : (ms : List Message)
      → AllByRecursion (AreOut (map (event_of c.node.at.member) ms)) c.former
  sent_former ms =
      all_each _ _ (λ k. sent_out_of c.node.at.member k ms) c.former h.below

  first_former : (queue : List Message)
      → AllByRecursion (AreOut (first_event c.node queue)) c.former
  first_former [] = sent_former []
  first_former (x ∷ xs) = sent_former (x ∷ [])

  -- ---- it leaves
  leaves_kept : Viewed (leave_over c) → CourseKept (most + 1) (leave_over c)
  leaves_kept viewed =
      let more = view_without c.order c.node.at.member ∷ [] in
      grown_kept more (left_node c.node)
      (left_kept c.node.at.member most h.small few c.order c.node h.kept) viewed
      (all_two (λ k. k < c.node.at.member) (FormerLaws c.order) (AreOut more) (λ k below laws. (
        without_other k c.node.at.member (last_view c.order).1 (λ same. omega (arith, same, below))
            ∙ laws.viewed,
        tt,
      )) c.former h.below h.former)

  -- ---- it joins
  joins_kept : (fresh : Bool) → DoesFit c (act.Join fresh) → is_left c.node.at.phase ≡ true
      → c.node.at.taken ≡ c.node.at.committed → CourseKept (most + 1) (join_over fresh c)
  joins_kept fresh fits left all =
      let member = new_member c.order in
      let view = view_with c.order member ∷ [] in
      let new = fits left all in
      let old : c.node.at.member < new_member c.order = omega (arith, h.known) in
      let laws : FormerLaws c.order c.node.at.member = record {
        decided = h.kept.decided;
        viewed = subst (IsViewed c.order c.node.at.member) left h.viewed;
      } in
      let below = all_each (λ k. k < c.node.at.member) (λ k. k < new_member c.order)
      (λ k is. omega (arith, is, old)) c.former h.below in record {
        kept = joined_kept c.node.at.member most c.order c.node h.kept left all fresh new.1;
        small = new.0;
        viewed = viewed_joined c.order member;
        known = member_below (c.order ++ view) member (length c.order) (last_view c.order).0
            ((last_view c.order).1 ++ member ∷ []) (last_is c.order (view_with c.order member))
            (has_last member (last_view c.order).1);
        below = (old, below);
        former = (
          former_grown c.order view c.node.at.member
              (joined_out c.order member c.node.at.member old laws) laws,
          all_former view (all_two _ _ _ (joined_out c.order member) c.former below h.former),
        );
      }

  join_by : (fresh : Bool) → DoesFit c (act.Join fresh) → (b d : Bool)
      → is_left c.node.at.phase ≡ b → c.node.at.taken == c.node.at.committed ≡ d
      → CourseKept (most + 1) (cond (b && d) (join_over fresh c) c)
  join_by fresh fits true true left all =
      joins_kept fresh fits left (equal c.node.at.taken c.node.at.committed all)
  join_by fresh fits b d left all = idle_kept

  -- ---- all that it does
  step_by : (a : Act) → ActFits a → length c.order ≤ 2 ^ 63
      → Viewed (record c { node = (node_step c.order c.node a).1 })
      → CourseKept (most + 1) (record c { node = (node_step c.order c.node a).1 })
  step_by a fits short =
      here_kept (node_step c.order c.node a).1
      (step_kept c.node.at.member most h.small few c.order c.node h.kept short a fits)

  does_kept : (a : Act) → DoesFit c a → length (does c a).order ≤ 2 ^ 63 → Viewed (does c a)
      → CourseKept (most + 1) (does c a)
  does_kept act.Order fits short viewed =
      grown_kept (first_event c.node c.node.outbox) (first_sent c.node c.node.outbox)
      (first_kept c.node.at.member most h.small few c.order c.node h.kept c.node.outbox refl)
      viewed (first_former c.node.outbox)
  does_kept act.Drain fits short viewed =
      let more = map (event_of c.node.at.member) c.node.outbox in
      grown_kept more (drained (c.order ++ more) (with_ordered c.node c.node.outbox []))
      (drain_kept c.node.at.member most h.small few c.order c.node h.kept short) viewed
      (sent_former c.node.outbox)
  does_kept act.Leave fits short viewed =
      cond_both (is_left c.node.at.phase) c (leave_over c)
      (λ d. Viewed d → CourseKept (most + 1) d) (λ _ _. idle_kept) (λ _. leaves_kept) viewed
  does_kept (act.Join fresh) fits short viewed =
      join_by fresh fits (is_left c.node.at.phase) (c.node.at.taken == c.node.at.committed) refl
      refl
  does_kept a fits short viewed = step_by a fits short viewed

  pub next_kept : (x : Happens) → Fits c x → length (next c x).order ≤ 2 ^ 63
      → CourseKept (most + 1) (next c x)
  next_kept (Others events) fits short =
      grown_kept events c.node
      (others_kept c.node.at.member most h.small few c.order c.node h.kept events fits.0)
      (next_viewed c (Others events) fits h.viewed) fits.1
  next_kept (Does a) fits short = does_kept a fits short (next_viewed c (Does a) fits h.viewed)
  next_kept (Takes last) fits short =
      here_kept (received_events last c.node)
      (took_kept c.node.at.member most c.order c.node h.kept fits.0 last fits.1 fits.2)
      (next_viewed c (Takes last) fits h.viewed)
  next_kept (Installs number id) fits short =
      here_kept (received_snapshot number id c.node)
      (installed_kept c.node.at.member most c.order c.node h.kept fits.0 number fits.1 fits.2 id)
      (next_viewed c (Installs number id) fits h.viewed)
