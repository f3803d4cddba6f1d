-- What is kept of a course is kept at the end of every course from a start, and so its laws hold
-- there.
use Rattle.std.proofs.Common.{◌≡◌, ℕ, zero, suc, ◌+◌, ◌≤◌, ◌<◌, ◌^◌, true, List, [], ◌∷◌, ◌++◌, length, inl, inr, refl, subst, ◌∙◌, arith, length-append, eq-eqb}
use Rattle.std.specs.Prelude.{◌==◌, ◌&&◌, map}
use Rattle.std.specs.List.{list_any}
use Rattle.std.specs.Ordering.{nat_cmp}
use Rattle.std.proofs.lemmas.Bool.{cases_eq, cond_both, or_left, or_right}
use Rattle.std.proofs.lemmas.Option.{same_Some}
use Rattle.finite_map.specs.FiniteMap.{get-empty, len-empty}
use Rattle.order_event.specs.declared.event.Event.{Event}
use Rattle.order_event.specs.declared.event.Event.TheVariants as event
use Rattle.order_event.specs.declared.step.Act.{Act}
use Rattle.order_event.specs.declared.step.Act.TheVariants as act
use Rattle.group_order.specs.Order.{event_of, start_order, up_to, view_without, view_with, new_member}
use Rattle.client_trx.specs.Live.{Live}
use Rattle.node_meaning.specs.Node.{is_left}
use Rattle.node_meaning.proofs.EntryLaws.{some_not_none}
use Rattle.node_meaning.proofs.StartNode.{start_facts}
use Rattle.course_laws.specs.Ordered.{Keeps, Early}
use Rattle.course_laws.specs.Courses.{Course, Happens, Others, Does, first_event, does, next, course, AllFit, start_course, leave_over, join_over}
use Rattle.course_laws.specs.Laws.{OwnAreDecided, CoursesAreLawful}
use Rattle.course_laws.specs.Places.{AllKeep, Inside}
use Rattle.course_laws.specs.Kept.{CourseKept}
use Rattle.course_laws.proofs.Growing.{none_behind_kept}
use Rattle.course_laws.proofs.LastMember.{member_below}
use Rattle.course_laws.proofs.Viewed.{any_last}
use Rattle.course_laws.proofs.KeptLaws.{kept_laws}
use Rattle.course_laws.proofs.CourseSteps.{next_kept}

-- ---- the order never gets shorter
longer : (order more : List Event) → length order ≤ length (order ++ more)
longer order more = omega (arith, length-append order more)

does_longer : (c : Course) (a : Act) → length c.order ≤ length (does c a).order
does_longer c act.Order = longer c.order (first_event c.node c.node.outbox)
does_longer c act.Drain = longer c.order (map (event_of c.node.at.member) c.node.outbox)
does_longer c act.Leave =
    cond_both (is_left c.node.at.phase) c (leave_over c) (λ d. length c.order ≤ length d.order)
    (λ _. omega arith) (λ _. longer c.order (view_without c.order c.node.at.member ∷ []))
does_longer c (act.Join fresh) =
    cond_both (is_left c.node.at.phase && c.node.at.taken == c.node.at.committed)
    (join_over fresh c) c (λ d. length c.order ≤ length d.order)
    (λ _. longer c.order (view_with c.order (new_member c.order) ∷ [])) (λ _. omega arith)
does_longer c _ = omega arith

next_longer : (c : Course) (x : Happens) → length c.order ≤ length (next c x).order
next_longer c (Others events) = longer c.order events
next_longer c (Does a) = does_longer c a
next_longer c _ = omega arith

pub course_longer : (c : Course) (happens : List Happens)
    → length c.order ≤ length (course c happens).order
course_longer c [] = omega arith
course_longer c (x ∷ happens) =
    omega (arith, next_longer c x, course_longer (next c x) happens)

-- ---- all that happens
pub course_kept : (most : ℕ) (c : Course) (happens : List Happens) → most + length happens ≤ 2 ^ 63
    → AllFit c happens → length (course c happens).order ≤ 2 ^ 63 → CourseKept most c
    → CourseKept (most + length happens) (course c happens)
course_kept most c [] few fits short h = subst (λ k. CourseKept k c) (omega arith) h
course_kept most c (x ∷ happens) few fits short h =
    let room : length (next c x).order ≤ 2 ^ 63 =
    omega (arith, short, course_longer (next c x) happens) in
    let one = next_kept most (omega (arith, few)) c h x fits.0 room in
    subst (λ k. CourseKept k (course (next c x) happens)) (omega arith)
    (course_kept (most + 1) (next c x) happens (omega (arith, few)) fits.1 short one)

-- ---- the start
pub is_numbered : (nodes member : ℕ) → 1 ≤ member → member ≤ nodes
    → list_any (λ k. k == member) (up_to nodes) ≡ true
is_numbered zero member above below = absurd (omega (arith, above, below))
is_numbered (suc nodes) member above below =
    any_last member (suc nodes) (up_to nodes)
    ∙ elim (cases_eq (suc nodes) member) [
      | inl same ↦ or_right _ (suc nodes == member) (eq-eqb (suc nodes) member same)
      | inr differs ↦
          or_left _ _ (is_numbered nodes member above (omega (arith, below, differs)))
    ]

module _ (nodes gcache member : ℕ) (id : List ℕ)
    (has : list_any (λ k. k == member) (up_to nodes) ≡ true) where
  start_keeps : AllKeep (start_order nodes) member 1
  start_keeps zero e from there =
      subst (Keeps member) (same_Some (event.View 1 (up_to nodes)) e there) has
  start_keeps (suc k) e from there = cc

  start_decided : OwnAreDecided (start_order nodes) member
  start_decided zero body there = cc
  start_decided (suc k) body there = cc

  pub start_course_kept : member < 2 ^ 32
      → CourseKept 1 (start_course nodes gcache id member)
  start_course_kept small = record {
    kept = record {
      follows = record {
        home = refl;
        facts = start_facts (start_order nodes) gcache id member;
        place = Inside (record { connected = refl; in_step = refl; keeps = start_keeps });
        stage = Early (record {
          before = omega arith;
          newcomer = record {
            before = 0;
            number = refl;
            version = 1;
            members = up_to nodes;
            opens = refl;
            has = has;
            unaware = λ j e below there. absurd (omega (arith, below));
          };
          positive = omega arith;
          idle = λ se t there. some_not_none t _ there (get-empty nat_cmp se);
          nothing = refl;
          silent = refl;
        });
      };
      decided = start_decided;
      none_behind = none_behind_kept (start_order nodes) member 1 start_keeps;
      serial = omega (arith, len-empty nat_cmp Live);
      begin = omega arith;
    };
    small = small;
    viewed = has;
    known = member_below (start_order nodes) member 0 1 (up_to nodes) refl has;
    below = tt;
    former = tt;
  }

-- ---- from a start
pub courses_are_lawful : CoursesAreLawful
courses_are_lawful nodes gcache member id happens above below small fits few short =
    let start = start_course nodes gcache id member in
    let c = course start happens in
    let h = course_kept 1 start happens (omega (arith, few)) fits short
    (start_course_kept nodes gcache member id (is_numbered nodes member above below) small) in
    record {
      node = kept_laws c.node.at.member (1 + length happens) c.order c.node h.kept h.viewed;
      former = h.former;
    }
