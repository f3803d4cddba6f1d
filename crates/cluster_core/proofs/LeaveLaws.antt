-- A node leaves: what that does to the cluster, from what it does to the node's seat.
use Rattle.std.proofs.Common.{◌≡◌, ℕ, ◌+◌, ◌≤◌, true, false, cond, List, [], ◌∷◌, ◌++◌, length, refl, sym, ap, ◌∙◌, length-append}
use Rattle.order_event.specs.declared.event.Event.{Event}
use Rattle.order_event.specs.declared.step.Act.TheVariants as act
use Rattle.order_event.specs.declared.step.Answer.TheVariants as answer
use Rattle.group_order.specs.Order.{view_without}
use Rattle.node_meaning.specs.Node.{ModelNode, is_left}
use Rattle.node_meaning.specs.Leaving.{left_node}
use Rattle.node_meaning.specs.Cluster.{set_at, leave_now}
use Rattle.node_core.specs.declared.node.NodeParts.{NodeParts}
use Rattle.node_core.specs.Stands.{DoneOver, plain_of, quietly}
use Rattle.node_laws.proofs.StartedUnits.{left_units}
use Rattle.cluster_core.specs.declared.fault.StepFault.{StepFault}
use Rattle.cluster_core.specs.declared.fault.StepFault.TheVariants as fault
use Rattle.cluster_core.specs.Seated.{Seat}
use Rattle.cluster_core.specs.Steps.{MayFail}
use Rattle.cluster_core.specs.Acts.{IsKept, Acted, Failed, cluster_of}
use Rattle.cluster_core.proofs.OrderLaws.{left_kept}
use Rattle.cluster_core.proofs.ActLaws.{goes_on, seated_still, goes_same, set_at_same}

-- ---- the step
pub left_already : (order : List Event) (old : Seat) → is_left old.node.at.phase ≡ true
    → IsKept order old → Acted act.Leave order order old old answer.Disconnected
left_already order old left kept = record {
  same = λ nodes i there.
      ap (λ ns. (answer.Disconnected, cluster_of order ns)) (set_at_same nodes i (plain_of old.node) there)
      ∙ ap (λ b. cond b (answer.Disconnected, cluster_of order nodes)
      (leave_now (cluster_of order nodes) i (plain_of old.node))) (sym left);
  goes = goes_same order order old refl kept;
}

pub left_now : (before now : List Event) (old : Seat) (node : NodeParts) (number : ℕ)
    → is_left old.node.at.phase ≡ false → length before ≤ 500_000
    → now ≡ before ++ view_without before old.node.at.member ∷ [] → number ≡ length now
    → DoneOver before (quietly left_node before) old.node node tt → IsKept before old
    → Acted act.Leave before now old (record old { node = node }) (answer.Left number)
left_now before now old node number here short is counts d kept =
    let view = view_without before old.node.at.member in
    let left = seated_still before left_node old node d (left_units (plain_of old.node))
    kept.seated in
    let long : number ≡ length before + 1 = counts ∙ ap length is ∙ length-append before (view ∷ []) in
    record {
      same = λ nodes i there.
          ap (λ k. (answer.Left k, cluster_of now (set_at nodes i (plain_of node)))) long
          ∙ ap (λ o. (answer.Left (length before + 1), cluster_of o (set_at nodes i (plain_of node)))) is
          ∙ ap (λ n. (
            answer.Left (length before + 1),
            cluster_of (before ++ view ∷ []) (set_at nodes i n),
          )) left.0
          ∙ ap (λ b. cond b (answer.Disconnected, cluster_of before nodes)
          (leave_now (cluster_of before nodes) i (plain_of old.node))) (sym here);
      goes = goes_on before now view (record old { node = node }) is
          (left_kept before old.node.at.member short kept.order_kept) left.1;
    }

may_leave : (order : List Event) (n : ModelNode) (e : StepFault) → is_left n.at.phase ≡ false
    → MayFail order n act.Leave e
may_leave order n fault.Group here = here
may_leave order n fault.NoMemory here = here

pub leave_failed : (before now : List Event) (old : Seat) (e : StepFault) → now ≡ before
    → IsKept before old → is_left old.node.at.phase ≡ false → Failed act.Leave before now old old e
leave_failed before now old e is kept here = record {
  next = act.Leave;
  left = (refl, is, refl);
  may = may_leave now (plain_of old.node) e here;
  goes = goes_same before now old is kept;
}
