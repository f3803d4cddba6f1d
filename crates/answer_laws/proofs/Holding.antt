-- What happens to a node in its course keeps what it has sent, and what an answer claims.
use Rattle.std.proofs.Common.{◌≡◌, ℕ, ◌+◌, ◌≤◌, ◌^◌, Bool, true, false, cond, List, [], ◌∷◌, ◌++◌, length, None, refl, ap, sym, subst, ◌∙◌, arith, append-nil, ltb-false, true≢false, inl, inr}
use Rattle.std.specs.Prelude.{◌||◌, ◌&&◌, ◌==◌, map, nat_lt}
use Rattle.std.proofs.lemmas.Bool.{and_parts, cases_Bool, cond_both, or_parts}
use Rattle.row_model.specs.declared.calls.Call.{Call}
use Rattle.order_event.specs.declared.event.Event.{Event}
use Rattle.order_event.specs.declared.event.Event.TheVariants as event
use Rattle.order_event.specs.declared.event.Message.{Message}
use Rattle.order_event.specs.declared.step.Act.{Act}
use Rattle.order_event.specs.declared.step.Act.TheVariants as act
use Rattle.order_event.specs.declared.step.Answer.{Answer}
use Rattle.group_order.specs.Order.{event_of, last_view, all_but, new_member, view_with}
use Rattle.node_meaning.specs.Node.{ModelNode, is_left, is_joining}
use Rattle.node_meaning.specs.Leaving.{left_node}
use Rattle.node_meaning.specs.Steps.{first_sent, put_report, report_step, drained}
use Rattle.node_meaning.specs.Client.{client}
use Rattle.node_meaning.specs.Facts.{Facts, ProgressInRange}
use Rattle.node_laws.specs.InStep.{message_of}
use Rattle.node_laws.proofs.SetLists.{equal, all_push}
use Rattle.node_laws.proofs.Moves.{connected_from, with_ordered, Reaches, Reports, paid}
use Rattle.node_laws.proofs.ClientMoves.{CanCall, client_moves}
use Rattle.node_laws.proofs.TakeMoves.{take_moves}
use Rattle.node_laws.proofs.CertifyMoves.{certify_moves}
use Rattle.node_laws.proofs.UnitMoves.{CanTakeBack, start_moves, finish_moves}
use Rattle.node_laws.proofs.AdvanceMoves.{CanDrain, advance_moves, drained_moves}
use Rattle.course_laws.specs.Courses.{Course, Happens, Others, Does, Takes, Installs, first_event, leave_over, join_over, does, next, AreOfOthers, DoesFit, Fits}
use Rattle.course_laws.specs.Laws.{NodeLaws}
use Rattle.course_laws.specs.Places.{Follows, HasJoined, Place, Inside, Entering, Outside}
use Rattle.course_laws.specs.Kept.{CourseKept}
use Rattle.course_laws.proofs.Following.{client_still}
use Rattle.course_laws.proofs.CourseLaws.{own_kept}
use Rattle.course_laws.proofs.KeptLaws.{kept_laws}
use Rattle.course_laws.proofs.Growing.{others_silent}
use Rattle.answer_laws.proofs.Pasts.{Pasts}
use Rattle.answer_laws.proofs.Grown.{SameSent, own_same, past_grown, claim_grown, silent_same}
use Rattle.answer_laws.proofs.Former.{Own, Old, AllSilent, AreApart, all_apart, others_silent_all, own_silent_all, view_silent_all, before_grown}
use Rattle.answer_laws.proofs.Telling.{Stays, Still, still_kept, paid_kept}
use Rattle.answer_laws.proofs.Leaving.{left_past, left_claimed}
use Rattle.answer_laws.proofs.Joining.{IsIdle, joined_past, snapshot_past, joined_claimed, snapshot_claimed}
use Rattle.answer_laws.proofs.NodeSteps.{status_same}

-- ---- over an order that grows by nothing of a former member
module _ (former : List ℕ) (order more : List Event) (silent : AllSilent former more)
    (n : ModelNode) (f : Facts order n) (back : List Message)
    (same : SameSent order n.outbox (order ++ more) back n.at.member) where
  pub claimed_grown : Still former order n former (order ++ more) (record n { outbox = back })
  claimed_grown a r (Own h) = Own (claim_grown order more n f back same a r h)
  claimed_grown a r (Old h) = Old (before_grown former order a r n.at.committed more silent h)

-- ---- what is known of the node
module _ (most : ℕ) (few : most ≤ 2 ^ 63) (c : Course) (kept : CourseKept most c) where
  pub range : length c.order ≤ 2 ^ 63 → ProgressInRange c.node.at
  range short =
      let o = kept.kept.follows.facts.in_order in record {
        member = kept.small;
        committed = omega (arith, short, o.committed_fits, o.certified_fits, o.taken_fits);
        serial = omega (arith, few, kept.kept.serial);
        begin = omega (arith, few, kept.kept.begin);
      }

  can : length c.order ≤ 2 ^ 63 → CanTakeBack c.node
  can short =
      let r = range short in record {
        member = kept.small;
        committed = r.committed;
        serial = omega (arith, few, kept.kept.serial);
        begin = r.begin;
      }

  apart : AreApart c.former c.node.at.member
  apart = all_apart c.former c.node.at.member kept.below

  -- all of its outbox is ordered
  pub follows_longer :
      Follows (c.order ++ map (event_of c.node.at.member) c.node.outbox) c.node.at.member
      (with_ordered c.node c.node.outbox [])
  follows_longer =
      (own_kept c.node.at.member most kept.small few c.order c.node kept.kept c.node.outbox []
      (sym (append-nil c.node.outbox)) kept.kept.follows.place).follows

  -- while it joins nothing is live, and so it is when it may join
  joins_by : is_joining c.node.at.phase ≡ true → Place c.order c.node → HasJoined c.order c.node
  joins_by is (Inside h) = absurd (true≢false (sym is ∙ ap is_joining h.connected))
  joins_by is (Entering h) = h
  joins_by is (Outside h) = absurd (true≢false (sym is ∙ ap is_joining h.left))

  pub has_joined : is_joining c.node.at.phase ≡ true → HasJoined c.order c.node
  has_joined is = joins_by is kept.kept.follows.place

  laws : NodeLaws c.order c.node
  laws = kept_laws c.node.at.member most c.order c.node kept.kept kept.viewed

  pub none_waits : is_left c.node.at.phase ≡ true → c.node.outbox ≡ []
  none_waits left = (laws.cleared left).none_waits

  pub none_live : is_left c.node.at.phase ≡ true → c.node.at.taken ≡ c.node.at.committed
      → IsIdle c.node
  none_live left all = laws.idle left all

-- ---- what happens keeps them
module _ (most : ℕ) (few : most ≤ 2 ^ 63) (c : Course) (kept : CourseKept most c)
    (past : Pasts c.order c.node) where
  abbrev order : List Event
  order = c.order

  abbrev n : ModelNode
  n = c.node

  abbrev former : List ℕ
  former = c.former

  abbrev After : List Event → ModelNode → Type 0
  After longer m = Pasts longer m × Still former order n former longer m

  -- what was sent, and what was claimed
  abbrev Now : Course → Type 0
  Now d = Pasts d.order d.node × Still former order n d.former d.order d.node

  unmoved : Now c
  unmoved = (past, λ a r h. h)

  f : Facts order n
  f = kept.kept.follows.facts

  stays : Stays order n.at.member n
  stays = record { follows = kept.kept.follows; past = past }

  -- ---- over the same order
  by_row : (m : ModelNode) → Reaches order (Unit {0}) true n 0 m → After order m
  by_row m row =
      let k = still_kept former order n.at.member (Unit {0}) tt n m row stays in
      (k.stays.past, k.claimed)

  client_after : (s : ℕ) (call : Call) → CanCall n call → After order (client order n s call).1
  client_after s call fits =
      let m = (client order n s call).1 in
      elim (cases_Bool (nat_lt n.at.committed n.at.view)) [
        | inl early ↦
            let k = still_kept former order n.at.member (CanCall n call) fits n m
            (client_still order (CanCall n call) n s call early) stays in
            (k.stays.past, k.claimed)
        | inr late ↦
            let k = paid_kept former order n.at.member (CanCall n call) fits n 1 m
            (client_moves order true n s call) (ltb-false n.at.committed n.at.view late) stays in
            (k.stays.past, k.claimed)
      ]

  abbrev Reported : Answer × ModelNode → Type 0
  Reported x = After order x.1

  report_after : After order (report_step n).1
  unfolding report_step
  report_after =
      cond_both (is_left n.at.phase) _ _ Reported (λ _. unmoved) (λ here.
      cond_both (is_joining n.at.phase || nat_lt n.at.committed n.at.view) _ _ Reported
      (λ _. unmoved) (λ may.
      let no = or_parts (is_joining n.at.phase) _ may in
      let k = paid_kept former order n.at.member (Unit {0}) tt n 1 (put_report n)
      (paid n (put_report n) (Reports (connected_from n.at.phase here no.0)))
      (ltb-false n.at.committed n.at.view no.1) stays in
      (k.stays.past, k.claimed)))

  -- ---- over an order that grows
  others_after : (events : List Event) → AreOfOthers c events → After (order ++ events) n
  others_after events all =
      let same = silent_same order n.at.member n.outbox events
      (others_silent n.at.member (is_left n.at.phase) events all.0) in
      let silent = others_silent_all former events all.1 in (
        past_grown order events n f n.outbox same past,
        claimed_grown former order events silent n f n.outbox same,
      )

  pub own_after : (front back : List Message) → n.outbox ≡ front ++ back
      → After (order ++ map (event_of n.at.member) front) (with_ordered n front back)
  own_after front back is =
      let same = own_same order n.at.member n.outbox front back is in
      let more = map (event_of n.at.member) front in
      let silent = own_silent_all former n.at.member (apart most few c kept) front in (
        past_grown order more n f back same past,
        claimed_grown former order more silent n f back same,
      )

  first_after : (queue : List Message) → n.outbox ≡ queue
      → After (order ++ first_event n queue) (first_sent n queue)
  first_after [] is = subst (λ o. After o n) (sym (append-nil order)) unmoved
  first_after (x ∷ xs) is = own_after (x ∷ []) xs is

  abbrev longer : List Event
  longer = order ++ map (event_of n.at.member) n.outbox

  abbrev sent : ModelNode
  sent = with_ordered n n.outbox []

  drain_after : length longer ≤ 2 ^ 63 → After longer (drained longer sent)
  drain_after short =
      let grown = own_after n.outbox [] (sym (append-nil n.outbox)) in
      let room : CanDrain longer sent = record {
        member = kept.small;
        events = omega (arith, short);
        serial = omega (arith, few, kept.kept.serial);
        begin = omega (arith, few, kept.kept.begin);
      } in
      let k = still_kept former longer n.at.member (Unit {0}) tt sent (drained longer sent)
      (drained_moves longer (Unit {0}) sent (λ _. room))
      (record { follows = follows_longer most few c kept; past = grown.0 }) in
      (k.stays.past, λ a r h. k.claimed a r (grown.1 a r h))

  -- a view without the member is ordered, and the node has left
  leave_after : (version : ℕ) (members : List ℕ)
      → After (order ++ event.View version members ∷ []) (left_node n)
  leave_after version members =
      let more = event.View version members ∷ [] in
      let same = silent_same order n.at.member n.outbox more (refl, tt) in
      let silent = view_silent_all former version members in
      let grown = past_grown order more n f n.outbox same past in (
        left_past (order ++ more) n grown,
        λ a r h. left_claimed (order ++ more) n grown former a r
            (claimed_grown former order more silent n f n.outbox same a r h),
      )

  leave_by : (left : Bool) → Now (cond left c (leave_over c))
  leave_by true = unmoved
  leave_by false = leave_after (last_view order).0 (all_but n.at.member (last_view order).1)

  -- a view with a new member is ordered, and the node is that
  join_by : (fresh may : Bool) → (is_left n.at.phase && n.at.taken == n.at.committed) ≡ may
      → DoesFit c (act.Join fresh) → Now (cond may (join_over fresh c) c)
  join_by fresh false is fits = unmoved
  join_by fresh true is fits =
      let parts = and_parts (is_left n.at.phase) (n.at.taken == n.at.committed) is in
      let all = equal n.at.taken n.at.committed parts.1 in
      let none = none_waits most few c kept parts.0 in
      let idle = none_live most few c kept parts.0 all in
      let member = new_member order in
      let view = length order + 1 in
      let version = (last_view order).0 in
      let members = (last_view order).1 ++ member ∷ [] in (
        joined_past (order ++ view_with order member ∷ []) n idle fresh member view
            (all_push (λ (e : Event). message_of member e ≡ None) order (view_with order member)
            (fits parts.0 all).1 refl) none,
        joined_claimed former order n f past none version members fresh member view,
      )

  does_holds : (a : Act) → DoesFit c a → length (does c a).order ≤ 2 ^ 63 → Now (does c a)
  does_holds act.Order fits short = first_after n.outbox refl
  does_holds act.Drain fits short = drain_after short
  does_holds (act.Client session call) fits short =
      client_after session call
      (record { names = fits.0; values = fits.1; range = range most few c kept short })
  does_holds act.Take fits short = by_row _ (take_moves order (Unit {0}) true n)
  does_holds act.Certify fits short = by_row _ (certify_moves order (Unit {0}) true n)
  does_holds (act.Start number) fits short =
      by_row _ (start_moves order (Unit {0}) n number (λ _ _. can most few c kept short))
  does_holds (act.Finish number) fits short = by_row _ (finish_moves order (Unit {0}) n number)
  does_holds act.Advance fits short = by_row _ (advance_moves order (Unit {0}) n)
  does_holds act.Report fits short = report_after
  does_holds act.Status fits short =
      subst (λ m. Now (record c { node = m })) (sym (status_same order n)) unmoved
  does_holds act.Leave fits short = leave_by (is_left n.at.phase)
  does_holds (act.Join fresh) fits short =
      join_by fresh (is_left n.at.phase && n.at.taken == n.at.committed) refl fits
  does_holds (act.Transfer donor) fits short = unmoved

  -- what it takes reaches the view of its member, of which it has taken less
  below_number : (number : ℕ) → HasJoined order n → n.at.view ≤ number → n.at.committed ≤ number
  below_number number joined up = omega (arith, joined.behind, joined.rest.all_committed, up)

  pub next_holds : (x : Happens) → Fits c x → length (next c x).order ≤ 2 ^ 63
      → Now (next c x)
  next_holds (Others events) fits short = others_after events fits
  next_holds (Does a) fits short = does_holds a fits short
  next_holds (Takes last) fits short = (past, λ a r h. h)
  next_holds (Installs number id) fits short =
      let joined = has_joined most few c kept fits.0 in (
        snapshot_past order n joined.rest.none_live number id past,
        snapshot_claimed former order n number id (below_number number joined fits.1),
      )
