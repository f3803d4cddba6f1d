-- The laws of a cluster after a step of the code.
use Rattle.std.proofs.Common.{◌≡◌, ℕ, zero, suc, ◌+◌, ◌-◌, ◌≤◌, ◌<◌, ◌^◌, List, [], ◌∷◌, ◌++◌, length, Option, Some, None, refl, sym, ap, subst, ◌∙◌, arith, append-nil, append_assoc, Result, Ok, Err}
use Rattle.std.specs.Prelude.{slice_get, replicate, IfOk, IfErr}
use Rattle.std.specs.List.{AllByRecursion}
use Rattle.order_event.specs.declared.event.Event.{Event}
use Rattle.order_event.specs.declared.step.Act.{Act}
use Rattle.order_event.specs.declared.step.Act.TheVariants as act
use Rattle.order_event.specs.declared.step.Answer.{Answer}
use Rattle.order_event.specs.declared.step.Step.{Step}
use Rattle.node_meaning.specs.Node.{ModelNode}
use Rattle.node_meaning.specs.Steps.{commit_next, all_taken, all_certified}
use Rattle.node_meaning.specs.Cluster.{ModelCluster, start_cluster, cluster_step}
use Rattle.node_laws.specs.Fits.{ActFits}
use Rattle.node_laws.specs.Given.{given}
use Rattle.node_laws.specs.Drains.{after_acts, all_sent, commit_acts, certified_acts, taken_acts, sent_acts, drain_acts_of, StoppedAt}
use Rattle.node_laws.proofs.GivenLaws.{stopped_stays}
use Rattle.course_laws.specs.RunLaws.{MembersFit}
use Rattle.course_laws.proofs.RunLaws.{run_laws_step, run_laws_given, run_laws_start}
use Rattle.cluster_core.specs.declared.fault.StepFault.{StepFault}
use Rattle.cluster_core.specs.Steps.{FailedBy}
use Rattle.cluster_core.specs.Orders.{OrderIsKept}
use Rattle.cluster_core.specs.Lawful.{IsLawful}
use Rattle.cluster_core.proofs.OrderLaws.{all_append}
use Rattle.cluster_core.proofs.RunLaws.{after_more}

-- ---- a step that was done
module _ (c : ModelCluster) (lawful : IsLawful c) (small : given c < 2 ^ 63) where
  next_lawful : (step : Step) → ActFits step.act → MembersFit c step → IsLawful (cluster_step c step).1
  next_lawful step fits members =
      run_laws_given (given c + 1) (cluster_step c step).1 (run_laws_step (given c) small c lawful step fits members)

-- ---- the steps of a drain
abbrev IsPart : Act → Type 0
IsPart act.Order = Unit {0}
IsPart act.Take = Unit {0}
IsPart act.Certify = Unit {0}
IsPart (act.Start number) = Unit {0}
IsPart (act.Finish number) = Unit {0}
IsPart act.Advance = Unit {0}
IsPart other = ⊥

part_fits : (a : Act) → IsPart a → ActFits a
part_fits (act.Client session call) part = absurd part
part_fits other part = tt

part_members : (c : ModelCluster) (node : ℕ) (a : Act) → IsPart a → MembersFit c (record { node = node; act = a })
part_members c node a part fresh n is there left all = absurd (subst IsPart is part)

abbrev AreParts : List Act → Type 0
AreParts acts = AllByRecursion IsPart acts

parts_front : (one other : List Act) → AreParts (one ++ other) → AreParts one
parts_front [] other parts = tt
parts_front (a ∷ one) other parts = (parts.0, parts_front one other parts.1)

parts_same : (k : ℕ) (a : Act) → IsPart a → AreParts (replicate k a)
parts_same zero a part = tt
parts_same (suc k) a part = (part, parts_same k a part)

commit_parts : (order : List Event) (k : ℕ) (n : ModelNode) → AreParts (commit_acts order k n)
commit_parts order zero n = tt
commit_parts order (suc k) n = (tt, (tt, (tt, commit_parts order k (commit_next order n))))

taken_parts : (order : List Event) (n : ModelNode) → AreParts (taken_acts order n)
taken_parts order n =
    let m = all_certified order n in
    all_append IsPart (replicate (n.at.taken - n.at.certified) act.Certify) (certified_acts order m)
    (parts_same (n.at.taken - n.at.certified) act.Certify tt) (commit_parts order (m.at.certified - m.at.committed) m)

sent_parts : (order : List Event) (n : ModelNode) → AreParts (sent_acts (order, n))
sent_parts order n =
    all_append IsPart (replicate (length order - n.at.taken) act.Take)
    (taken_acts order (all_taken order n))
    (parts_same (length order - n.at.taken) act.Take tt) (taken_parts order (all_taken order n))

drain_parts : (order : List Event) (o : Option ModelNode) → AreParts (drain_acts_of order o)
drain_parts order None = tt
drain_parts order (Some n) =
    all_append IsPart (replicate (length n.outbox) act.Order) (sent_acts (all_sent order n))
    (parts_same (length n.outbox) act.Order tt) (sent_parts (all_sent order n).0 (all_sent order n).1)

-- behind some of them the laws hold, and behind more
module _ (c : ModelCluster) (node : ℕ) (next : Act) (rest : List Act) (small : given c < 2 ^ 63) where
  one_more : (front : List Act) (a : Act) → after_acts c node (front ++ a ∷ []) ≡ (cluster_step (after_acts c node front) (record { node = node; act = a })).1
  unfolding after_acts
  one_more front a = after_more c node front (a ∷ [])

  -- before each of them no more is given out than at first
  still_small : (front : List Act) (a : Act) (behind : List Act) → drain_acts_of c.order (slice_get c.nodes (node - 1)) ≡ front ++ a ∷ behind
      → given (after_acts c node front) < 2 ^ 63
  still_small front a behind is =
      let stays = stopped_stays act.Drain node c (after_acts c node front) a (record { done = front; rest = behind; front = is; is = refl }) in
      omega (arith, stays.given, small)

  parts_lawful : (front acts : List Act) → drain_acts_of c.order (slice_get c.nodes (node - 1)) ≡ front ++ (acts ++ next ∷ rest) → AreParts acts
      → IsLawful (after_acts c node front) → IsLawful (after_acts c node (front ++ acts))
  parts_lawful front [] is parts lawful = subst (λ acts. IsLawful (after_acts c node acts)) (sym (append-nil front)) lawful
  parts_lawful front (a ∷ acts) is parts lawful =
      let middle = after_acts c node front in
      let one = next_lawful middle lawful (still_small front a (acts ++ next ∷ rest) is) (record { node = node; act = a })
      (part_fits a parts.0) (part_members middle node a parts.0) in
      subst (λ all. IsLawful (after_acts c node all)) (append_assoc front (a ∷ []) acts)
      (parts_lawful (front ++ a ∷ []) acts (is ∙ sym (append_assoc front (a ∷ []) (acts ++ next ∷ rest))) parts.1
      (subst IsLawful (sym (one_more front a)) one))

-- ---- a step that was not done
pub stopped_lawful : (a : Act) (node : ℕ) (old new : ModelCluster) (next : Act) → StoppedAt a node old new next → given old < 2 ^ 63
    → IsLawful old → IsLawful new
unfolding after_acts
stopped_lawful act.Drain node old new next stopped small lawful =
    subst IsLawful (sym stopped.is)
    (parts_lawful old node next stopped.rest small [] stopped.done stopped.front
    (parts_front stopped.done (next ∷ stopped.rest) (subst AreParts stopped.front (drain_parts old.order (slice_get old.nodes (node - 1))))) lawful)
stopped_lawful other node old new next stopped small lawful = subst IsLawful (sym stopped.1) lawful

-- ---- a step of the code
members_fit : (c : ModelCluster) (step : Step) → OrderIsKept c.order → length c.order ≤ 500_000 → MembersFit c step
members_fit c step kept short fresh n is there left all = omega (arith, kept.last, short)

pub step_lawful : (c d : ModelCluster) (step : Step) (r : Result Answer StepFault) → IfOk r (λ answer. (answer, d) ≡ cluster_step c step)
    → IfErr r (FailedBy step.act step.node c d) → ActFits step.act → OrderIsKept c.order → length c.order ≤ 500_000 → given c < 2 ^ 63 → IsLawful c → IsLawful d
step_lawful c d step (Ok answer) ok err fits kept short small lawful =
    subst IsLawful (sym (ap (λ (p : Answer × ModelCluster). p.1) ok)) (next_lawful c lawful small step fits (members_fit c step kept short))
step_lawful c d step (Err e) ok err fits kept short small lawful = stopped_lawful step.act step.node c d err.0 err.1 small lawful

pub start_lawful : (nodes gcache : ℕ) (id : List ℕ) → nodes ≤ 9 → IsLawful (start_cluster nodes gcache id)
start_lawful nodes gcache id few =
    run_laws_given 1 (start_cluster nodes gcache id) (run_laws_start nodes gcache id (omega (arith, few)))
