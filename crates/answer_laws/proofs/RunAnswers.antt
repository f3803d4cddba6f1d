-- All answers that the sessions of a node were told in a run of a cluster are right over its order.
use Rattle.std.proofs.Common.{◌≡◌, ℕ, suc, ◌+◌, ◌-◌, ◌≤◌, ◌<◌, ◌^◌, Bool, true, false, List, [], ◌∷◌, ◌++◌, length, Some, refl, ap, sym, subst, ◌∙◌, arith}
use Rattle.std.specs.Prelude.{◌==◌, slice_get, is_some}
use Rattle.std.specs.List.{AllByRecursion}
use Rattle.std.specs.Ordering.{nat_cmp}
use Rattle.std.proofs.lemmas.Option.{same_Some}
use Rattle.finite_map.specs.FiniteMap.{FiniteMap, empty, get}
use Rattle.row_model.specs.declared.calls.Call.{Call}
use Rattle.row_model.specs.declared.calls.Reply.{Reply}
use Rattle.order_event.specs.declared.event.Event.{Event}
use Rattle.order_event.specs.declared.step.Act.{Act}
use Rattle.order_event.specs.declared.step.Act.TheVariants as act
use Rattle.order_event.specs.declared.step.Answer.TheVariants as answer
use Rattle.order_event.specs.declared.step.Step.{Step}
use Rattle.group_order.specs.Order.{last_member}
use Rattle.node_meaning.specs.Node.{ModelNode, start_node}
use Rattle.node_meaning.specs.Client.{client}
use Rattle.node_meaning.specs.Cluster.{ModelCluster, start_cluster, set_at, step_at, cluster_step, run}
use Rattle.node_laws.specs.Fits.{ActFits}
use Rattle.node_laws.proofs.SetLists.{equal}
use Rattle.node_laws.proofs.Counts.{reach_grows}
use Rattle.node_laws.proofs.ClientMoves.{CanCall, client_moves}
use Rattle.course_laws.specs.Laws.{joins_by, joins}
use Rattle.course_laws.specs.Courses.{Course}
use Rattle.course_laws.proofs.RunSteps.{Turns, Remains, Renews, StepOf, set_here}
use Rattle.course_laws.proofs.RunLaws.{at_node, NodeKept, RunLaws, MembersFit, step_in, course_next, apart_next, short_next}
use Rattle.course_laws.proofs.Runs.{StepFits, first_fits, first_room, first_laws, run_laws, run_course, start_at, start_laws, start_room}
use Rattle.answer_laws.specs.Answers.{Asker, asked_by, Told, told_of, asked_of, told_run, IsRightTo, AreRight, RunsAnswerRight}
use Rattle.answer_laws.proofs.RightAnswers.{RightSoFar, next_right}
use Rattle.answer_laws.proofs.Answering.{Says, call_says, says_right, start_right}

abbrev Askers : Type 0
Askers = FiniteMap nat_cmp Asker

module _ (c : ModelCluster) (i : ℕ) (n : ModelNode) (there : slice_get c.nodes i ≡ Some n)
    (session : ℕ) (call : Call) where
  abbrev m : ModelNode
  m = (client c.order n session call).1

  abbrev called : ℕ → ModelCluster
  called j = record c { nodes = set_at c.nodes j (client c.order n session call).1 }

  -- the node's own client call
  call_is : (step : Step) → step.node - 1 ≡ i → step.act ≡ act.Client session call
      → (cluster_step c step).1 ≡ called i
  unfolding cluster_step
  call_is step here is =
      ap (λ a. (step_at c (step.node - 1) (slice_get c.nodes (step.node - 1)) a).1) is
      ∙ ap (λ o. (step_at c (step.node - 1) o (act.Client session call)).1)
      (ap (slice_get c.nodes) here ∙ there)
      ∙ ap called here

  -- what is told is what the run answers to the step
  pub told_as_answered : (step : Step) → step.node - 1 ≡ i
      → step.act ≡ act.Client session call
      → (cluster_step c step).0 ≡ answer.Client (client c.order n session call).0
  unfolding cluster_step
  told_as_answered step here is =
      ap (λ a. (step_at c (step.node - 1) (slice_get c.nodes (step.node - 1)) a).0) is
      ∙ ap (λ o. (step_at c (step.node - 1) o (act.Client session call)).0)
      (ap (slice_get c.nodes) here ∙ there)

-- a node that is the member that it was has no more former ones
turns_same : (order : List Event) (n : ModelNode) (former : List ℕ) (node : ModelNode)
    (now : List ℕ) → Turns order n former node now → node.at.member ≡ n.at.member
    → n.at.member ≤ last_member order → now ≡ former
turns_same order n former node now (Remains same stays) own known = stays
turns_same order n former node now (Renews new joins) own known =
    absurd (omega (arith, new, own, known))

module _ (i : ℕ) where
  -- members that steps may add are in range
  abbrev Room : ModelCluster → List Step → Type 0
  Room c steps = last_member c.order + joins steps < 2 ^ 32

  module _ (most : ℕ) (c : ModelCluster) (n : ModelNode) (askers : Askers)
      (there : slice_get c.nodes i ≡ Some n) (step : Step) (steps : List Step)
      (few : most + length (step ∷ steps) ≤ 2 ^ 63) (room : Room c (step ∷ steps))
      (fits : AllByRecursion StepFits (step ∷ steps)) (laws : RunLaws most c)
      (k : NodeKept most c i n) (h : RightSoFar most (at_node c.order n k.former) askers) where
    abbrev d : ModelCluster
    d = (cluster_step c step).1

    small : most < 2 ^ 63
    small = omega (arith, few)

    members : MembersFit c step
    members = first_fits most c step steps few room fits laws

    s : StepOf c d i n k.former
    s = step_in most small c laws step fits.0 members i n there k

    next_laws : RunLaws (most + 1) d
    next_laws = first_laws most c step steps few room fits laws

    next_room : Room d steps
    next_room = first_room most c step steps few room fits laws

    next_node : NodeKept (most + 1) d i s.node
    unfolding s
    next_node = record {
      former = s.now;
      kept = course_next most small c laws step fits.0 members i n there k;
      apart = apart_next most small c laws step fits.0 members i n there k;
    }

    right : RightSoFar (most + 1) (at_node d.order s.node next_node.former)
        (asked_by s.node.live.entries askers)
    unfolding next_node
    right =
        let was = at_node c.order n k.former in
        subst (λ (x : Course). RightSoFar (most + 1) x (asked_by x.node.live.entries askers))
        s.leads
        (next_right most (omega (arith, few)) was askers h s.happens s.fits
        (subst (λ (x : Course). length x.order ≤ 2 ^ 63) (sym s.leads)
        (short_next most small c laws step fits.0 members)))

    -- a call of a session of this node
    module _ (session : ℕ) (call : Call) (here : step.node - 1 ≡ i)
        (is : step.act ≡ act.Client session call) where
      node_is : s.node ≡ (client c.order n session call).1
      node_is =
          same_Some s.node (client c.order n session call).1
          (sym s.there
          ∙ ap (λ (x : ModelCluster). slice_get x.nodes i)
          (call_is c i n there session call step here is)
          ∙ set_here c.nodes i n (client c.order n session call).1 there)

      order_is : d.order ≡ c.order
      order_is = ap (λ (x : ModelCluster). x.order) (call_is c i n there session call step here is)

      now_is : s.now ≡ k.former
      now_is =
          turns_same c.order n k.former s.node s.now s.turns
          (ap (λ (m : ModelNode). m.at.member) node_is
          ∙ (reach_grows c.order (CanCall n call) true n 1 (client c.order n session call).1
          (client_moves c.order true n session call)).member) k.kept.known

      abbrev told_now : Reply
      told_now = (client c.order n session call).0

      abbrev Now : List ℕ → List Event → ModelNode → Type 0
      Now former order m =
          Says former order m n.at.committed (get askers session)
          (is_some (get n.waiting session)) told_now

      says : Now s.now d.order s.node
      says =
          let size = laws.sound.size in
          rw (now_is, order_is, node_is) (call_says most (omega (arith, few))
          (at_node c.order n k.former) askers h session call (subst ActFits is fits.0)
          (omega (arith, size, few)))

      called_right : IsRightTo (run steps d).1.order n.at.committed (get askers session)
          (is_some (get n.waiting session)) told_now
      unfolding next_node
      called_right =
          let rest = run_course steps (most + 1) d (omega (arith, few)) next_room fits.1 next_laws i
          s.node s.there next_node in
          let size = (run_laws steps (most + 1) d (omega (arith, few)) next_room fits.1
          next_laws).sound.size in
          let final : length (run steps d).1.order ≤ 2 ^ 63 = omega (arith, size, few) in
          subst (λ (x : Course). IsRightTo x.order n.at.committed (get askers session)
          (is_some (get n.waiting session)) told_now) rest.leads
          (says_right (most + 1) (at_node d.order s.node s.now)
          (asked_by s.node.live.entries askers) rest.happens (omega (arith, few, rest.count))
          rest.fits (subst (λ (x : Course). length x.order ≤ 2 ^ 63) (sym rest.leads) final) right
          n.at.committed (get askers session) (is_some (get n.waiting session)) told_now says)

    step_by : (own : Bool) (a : Act) → step.node - 1 == i ≡ own → step.act ≡ a
        → (others : List Told) → AreRight (run steps d).1.order others
        → AreRight (run steps d).1.order (told_of c.order (Some n) askers own a ++ others)
    step_by false a here is others rest = rest
    step_by true (act.Client session call) here is others rest =
        (called_right session call (equal (step.node - 1) i here) is, rest)
    step_by true _ here is others rest = rest

  run_right : (steps : List Step) (most : ℕ) (c : ModelCluster) (n : ModelNode) (askers : Askers)
      → slice_get c.nodes i ≡ Some n → most + length steps ≤ 2 ^ 63 → Room c steps
      → AllByRecursion StepFits steps → RunLaws most c → (k : NodeKept most c i n)
      → RightSoFar most (at_node c.order n k.former) askers
      → AreRight (run steps c).1.order (told_run c i askers steps)
  unfolding run
  run_right [] most c n askers there few room fits laws k h = tt
  run_right (step ∷ steps) most c n askers there few room fits laws k h =
      let d = (cluster_step c step).1 in
      let x = s most c n askers there step steps few room fits laws k h in
      let rest = run_right steps (most + 1) d x.node (asked_by x.node.live.entries askers) x.there
      (omega (arith, few)) (next_room most c n askers there step steps few room fits laws k h)
      fits.1 (next_laws most c n askers there step steps few room fits laws k h)
      (next_node most c n askers there step steps few room fits laws k h)
      (right most c n askers there step steps few room fits laws k h) in
      let others = subst (λ o. AreRight (run steps d).1.order
      (told_run d i (asked_of o askers) steps)) (sym x.there) rest in
      subst (λ o. AreRight (run steps d).1.order
      (told_of c.order o askers (step.node - 1 == i) step.act
      ++ told_run d i (asked_of (slice_get d.nodes i) askers) steps)) (sym there)
      (step_by most c n askers there step steps few room fits laws k h (step.node - 1 == i)
      step.act refl refl (told_run d i (asked_of (slice_get d.nodes i) askers) steps) others)

-- no more members join than there are steps, so that a bound on those will do
one_join : (a : Act) → joins_by a ≤ 1
one_join (act.Join fresh) = omega arith
one_join _ = omega arith

pub few_joins : (steps : List Step) → joins steps ≤ length steps
few_joins [] = omega arith
few_joins (step ∷ steps) = omega (arith, one_join step.act, few_joins steps)

-- over the order at the end of every run of a cluster all answers of its nodes are right
pub runs_answer_right : RunsAnswerRight
unfolding start_cluster
runs_answer_right nodes gcache id steps small few fits i inside =
    let h = start_right nodes gcache (suc i) id (omega arith) inside
    (omega (arith, inside, small)) in
    run_right i steps 1 (start_cluster nodes gcache id) (start_node gcache id (suc i)) empty
    (start_at gcache id nodes i inside) (omega (arith, few))
    (start_room nodes gcache id steps small few fits) fits
    (start_laws nodes gcache id steps small few fits)
    (record { former = []; kept = h.kept; apart = λ j m other beside. tt }) h
