-- Along every course of a node from its start, what waits and what was told is right.
use Rattle.std.proofs.Common.{◌≡◌, ℕ, ◌+◌, ◌≤◌, ◌^◌, Bool, true, false, cond, List, [], ◌∷◌, ◌++◌, length, Some, refl, ap, sym, subst, ◌∙◌, append-nil, inl, inr}
use Rattle.std.specs.Prelude.{◌&&◌, ◌==◌}
use Rattle.std.specs.Ordering.{nat_cmp}
use Rattle.finite_map.specs.FiniteMap.{FiniteMap, get}
use Rattle.row_model.specs.declared.calls.Reply.{Reply}
use Rattle.order_event.specs.declared.event.Event.{Event}
use Rattle.order_event.specs.declared.event.Event.TheVariants as event
use Rattle.order_event.specs.declared.event.Message.{Message}
use Rattle.order_event.specs.declared.step.Act.{Act}
use Rattle.order_event.specs.declared.step.Act.TheVariants as act
use Rattle.group_order.specs.Order.{last_view, all_but}
use Rattle.node_meaning.specs.Node.{ModelNode, is_left}
use Rattle.node_meaning.specs.Steps.{first_sent}
use Rattle.node_meaning.proofs.GrowFacts.{facts_grow}
use Rattle.node_laws.proofs.Moves.{with_ordered}
use Rattle.course_laws.specs.Courses.{Course, Happens, Does, leave_over, join_over, does, next, DoesFit, Fits}
use Rattle.course_laws.specs.Kept.{CourseKept}
use Rattle.course_laws.proofs.CourseSteps.{next_kept}
use Rattle.answer_laws.specs.Answers.{Asker, asked_by, asker_of}
use Rattle.answer_laws.proofs.Pasts.{Pasts}
use Rattle.answer_laws.proofs.Grown.{past_grown, silent_same}
use Rattle.answer_laws.proofs.Former.{Claimed, Own}
use Rattle.answer_laws.proofs.Telling.{Waits, Still, Told}
use Rattle.answer_laws.proofs.Leaving.{left_told}
use Rattle.answer_laws.proofs.Holding.{own_after, follows_longer, next_holds, range}
use Rattle.answer_laws.proofs.Drains.{OnWay, take_way, certify_way, start_way, finish_way, advance_way, drained_way}
use Rattle.answer_laws.proofs.NodeSteps.{report_waiting, status_same}
use Rattle.answer_laws.proofs.Asking.{asked_live, asked_idle}
use Rattle.answer_laws.proofs.ClientSteps.{client_waits}

abbrev Askers : Type 0
Askers = FiniteMap nat_cmp Asker

-- what is kept along a course, with the last transactions of the sessions
pub record RightSoFar (most : ℕ) (c : Course) (askers : Askers) : Type 0 where
  pub kept : CourseKept most c
  pub past : Pasts c.order c.node
  pub waits : Waits c.former c.order c.node askers

-- each answer that waits claims what holds
abbrev AllClaimed : Askers → Course → Type 0
AllClaimed askers c =
    (s : ℕ) (r : Reply) → get c.node.waiting s ≡ Some r
    → (a : Asker) × (get askers s ≡ Some a) × Claimed c.former c.order c.node a r

-- the transactions of the sessions are read again
re_asked : (c : Course) → Pasts c.order c.node → (askers : Askers) → AllClaimed askers c
    → Waits c.former c.order c.node (asked_by c.node.live.entries askers)
re_asked c past askers claims = record {
  asked = λ s t there. asked_live c.node.live askers s t there;
  claims = λ s r there.
      let x = claims s r there in
      (x.0, asked_idle c.node.live askers s (past.idle s r there) ∙ x.1, x.2);
}

module _ (most : ℕ) (few : most ≤ 2 ^ 63) (c : Course) (askers : Askers)
    (h : RightSoFar most c askers) where
  pub moved_claim : (x : Happens) → Fits c x → length (next c x).order ≤ 2 ^ 63
      → Still c.former c.order c.node (next c x).former (next c x).order (next c x).node
  moved_claim x fits short = (next_holds most few c h.kept h.past x fits short).1

  -- each answer that waits did, or claims what holds
  waits_told : (x : Happens) → Fits c x → length (next c x).order ≤ 2 ^ 63
      → ((s : ℕ) (r : Reply) → get (next c x).node.waiting s ≡ Some r
      → Told (next c x).order c.node (next c x).node s r) → AllClaimed askers (next c x)
  waits_told x fits short told s r there =
      elim (told s r there) [
        | inl before ↦
            let claim = h.waits.claims s r before in
            (claim.0, claim.1, moved_claim x fits short claim.0 r claim.2)
        | inr new ↦ (asker_of new.0, h.waits.asked s new.0 new.1, Own new.2)
      ]

  -- where no new answer waits
  waits_same : (x : Happens) → Fits c x → length (next c x).order ≤ 2 ^ 63
      → ((s : ℕ) (r : Reply) → get (next c x).node.waiting s ≡ Some r
      → get c.node.waiting s ≡ Some r) → AllClaimed askers (next c x)
  waits_same x fits short before = waits_told x fits short (λ s r there. inl (before s r there))

  abbrev Way : List Event → ModelNode → Type 0
  Way order n = OnWay c.former order c.node.at.member most askers n

  way : Way c.order c.node
  way = record {
    stays = record { follows = h.kept.kept.follows; past = h.past };
    waits = h.waits;
    serial = h.kept.kept.serial;
    begin = h.kept.kept.begin;
  }

  -- all of its outbox is ordered
  sent_way : Way (does c act.Drain).order (with_ordered c.node c.node.outbox [])
  sent_way =
      let all = sym (append-nil c.node.outbox) in record {
        stays = record {
          follows = follows_longer most few c h.kept;
          past = (own_after most few c h.kept h.past c.node.outbox [] all).0;
        };
        waits = record {
          asked = h.waits.asked;
          claims = λ s r there.
              let claim = h.waits.claims s r there in (
                claim.0,
                claim.1,
                (own_after most few c h.kept h.past c.node.outbox [] all).1 claim.0 r claim.2,
              );
        };
        serial = h.kept.kept.serial;
        begin = h.kept.kept.begin;
      }

  first_same : (queue : List Message) (s : ℕ) (r : Reply)
      → get (first_sent c.node queue).waiting s ≡ Some r → get c.node.waiting s ≡ Some r
  first_same [] s r there = there
  first_same (x ∷ xs) s r there = there

  -- the node leaves
  leave_told : (left : Bool) (s : ℕ) (r : Reply)
      → get (cond left c (leave_over c)).node.waiting s ≡ Some r
      → Told (cond left c (leave_over c)).order c.node (cond left c (leave_over c)).node s r
  leave_told true s r there = inl there
  leave_told false s r there =
      let more = event.View (last_view c.order).0 (all_but c.node.at.member (last_view c.order).1)
      ∷ [] in
      let f = h.kept.kept.follows.facts in
      left_told (c.order ++ more) c.node (past_grown c.order more c.node f c.node.outbox
      (silent_same c.order c.node.at.member c.node.outbox more (refl, tt)) h.past)
      (facts_grow c.order more c.node f) s r there

  -- it joins again, as a new member
  join_same : (fresh may : Bool) (s : ℕ) (r : Reply)
      → get (cond may (join_over fresh c) c).node.waiting s ≡ Some r
      → get c.node.waiting s ≡ Some r
  join_same fresh true s r there = there
  join_same fresh false s r there = there

  does_waits : (a : Act) → DoesFit c a → length (does c a).order ≤ 2 ^ 63
      → AllClaimed askers (does c a)
  does_waits act.Order fits short =
      waits_same (Does act.Order) fits short (first_same c.node.outbox)
  does_waits act.Drain fits short =
      (drained_way most few (record c { order = (does c act.Drain).order }) askers h.kept.small
      short _ sent_way).waits.claims
  does_waits (act.Client session call) fits short =
      waits_same (Does (act.Client session call)) fits short
      (client_waits c.order c.node h.kept.kept.follows.facts h.past session
      (range most few c h.kept short) call)
  does_waits act.Take fits short =
      (take_way most few c askers h.kept.small short c.node way).waits.claims
  does_waits act.Certify fits short =
      (certify_way most few c askers h.kept.small short c.node way).waits.claims
  does_waits (act.Start number) fits short =
      (start_way most few c askers h.kept.small short number c.node way).waits.claims
  does_waits (act.Finish number) fits short =
      (finish_way most few c askers h.kept.small short number c.node way).waits.claims
  does_waits act.Advance fits short =
      (advance_way most few c askers h.kept.small short c.node way).waits.claims
  does_waits act.Report fits short =
      waits_same (Does act.Report) fits short (λ s r there.
      sym (ap (λ (x : FiniteMap nat_cmp Reply). get x s) (report_waiting c.node)) ∙ there)
  does_waits act.Status fits short =
      subst (λ n. AllClaimed askers (record c { node = n })) (sym (status_same c.order c.node))
      h.waits.claims
  does_waits act.Leave fits short =
      waits_told (Does act.Leave) fits short (leave_told (is_left c.node.at.phase))
  does_waits (act.Join fresh) fits short =
      waits_same (Does (act.Join fresh)) fits short
      (join_same fresh (is_left c.node.at.phase && c.node.at.taken == c.node.at.committed))
  does_waits (act.Transfer donor) fits short = h.waits.claims

  -- what it takes at once leaves no new answer
  next_waits : (x : Happens) → Fits c x → length (next c x).order ≤ 2 ^ 63
      → AllClaimed askers (next c x)
  next_waits (Does a) fits short = does_waits a fits short
  next_waits x fits short = waits_same x fits short (λ s r there. there)

  pub next_right : (x : Happens) → Fits c x → length (next c x).order ≤ 2 ^ 63
      → RightSoFar (most + 1) (next c x) (asked_by (next c x).node.live.entries askers)
  next_right x fits short =
      let past = (next_holds most few c h.kept h.past x fits short).0 in record {
        kept = next_kept most few c h.kept x fits short;
        past = past;
        waits = re_asked (next c x) past askers (next_waits x fits short);
      }
