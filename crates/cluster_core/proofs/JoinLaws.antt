-- A node joins: what that does to the cluster, from what it does to the node's seat.
use Rattle.std.proofs.Common.{◌≡◌, ℕ, ◌+◌, ◌≤◌, Bool, true, false, cond, List, [], ◌∷◌, ◌++◌, length, refl, sym, ap, ◌∙◌, length-append, not, eq-eqb}
use Rattle.std.specs.Prelude.{◌==◌}
use Rattle.order_event.specs.declared.event.Event.{Event}
use Rattle.order_event.specs.declared.step.Act.TheVariants as act
use Rattle.order_event.specs.declared.step.Answer.{Answer}
use Rattle.order_event.specs.declared.step.Answer.TheVariants as answer
use Rattle.group_order.specs.Order.{new_member, view_with}
use Rattle.node_meaning.specs.Node.{ModelNode, is_left}
use Rattle.node_meaning.specs.Joining.{joined_node}
use Rattle.node_meaning.specs.Cluster.{ModelCluster, set_at, join_now}
use Rattle.node_core.specs.declared.node.NodeParts.{NodeParts}
use Rattle.node_core.specs.Stands.{DoneOver, plain_of, quietly}
use Rattle.node_laws.proofs.SetLists.{unequal}
use Rattle.cluster_core.specs.Seated.{Seat, IsSeated}
use Rattle.cluster_core.specs.Acts.{IsKept, Acted, cluster_of}
use Rattle.cluster_core.proofs.OrderLaws.{joined_kept}
use Rattle.cluster_core.proofs.ActLaws.{goes_on, seated_still, goes_same, set_at_same}

same_number : (k : ℕ) → k == k ≡ true
same_number k = eq-eqb k k refl

module _ (fresh : Bool) (before : List Event) (old : Seat) (kept : IsKept before old) where
  -- what the model does where the node has left, by whether it has committed all that it took
  abbrev left_by : List ModelNode → ℕ → Bool → Answer × ModelCluster
  left_by nodes i all =
      cond all (join_now fresh (cluster_of before nodes) i (plain_of old.node))
      (answer.NotDrained old.node.at.taken old.node.at.committed, cluster_of before nodes)

  abbrev joined_by : List ModelNode → ℕ → Bool → Bool → Answer × ModelCluster
  joined_by nodes i left all = cond (not left) (answer.StillJoined, cluster_of before nodes) (left_by nodes i all)

  abbrev all_done : Bool
  all_done = old.node.at.taken == old.node.at.committed

  pub still_joined : is_left old.node.at.phase ≡ false → Acted (act.Join fresh) before before old old answer.StillJoined
  still_joined stays = record {
    same = λ nodes i there.
        ap (λ ns. (answer.StillJoined, cluster_of before ns)) (set_at_same nodes i (plain_of old.node) there)
        ∙ ap (λ b. joined_by nodes i b all_done) (sym stays);
    goes = goes_same before before old refl kept;
  }

  pub not_drained : (taken committed : ℕ) → is_left old.node.at.phase ≡ true → taken ≡ old.node.at.taken → committed ≡ old.node.at.committed
      → (taken ≡ committed → ⊥) → Acted (act.Join fresh) before before old old (answer.NotDrained taken committed)
  not_drained taken committed left first second differ =
      let more : old.node.at.taken == old.node.at.committed ≡ false =
      unequal old.node.at.taken old.node.at.committed (λ same. differ (first ∙ same ∙ sym second)) in
      record {
        same = λ nodes i there.
            ap (λ k. (answer.NotDrained k committed, cluster_of before (set_at nodes i (plain_of old.node)))) first
            ∙ ap (λ k. (answer.NotDrained old.node.at.taken k, cluster_of before (set_at nodes i (plain_of old.node)))) second
            ∙ ap (λ ns. (answer.NotDrained old.node.at.taken old.node.at.committed, cluster_of before ns)) (set_at_same nodes i (plain_of old.node) there)
            ∙ ap (left_by nodes i) (sym more)
            ∙ ap (λ b. joined_by nodes i b all_done) (sym left);
        goes = goes_same before before old refl kept;
      }

  module _ (now : List Event) (node : NodeParts) (view member : ℕ) (left : is_left old.node.at.phase ≡ true)
      (all : old.node.at.taken ≡ old.node.at.committed) (short : length before ≤ 500_000)
      (is : now ≡ before ++ view_with before (new_member before) ∷ []) (numbered : view ≡ length now) (named : member ≡ new_member before)
      (d : DoneOver before (quietly (joined_node fresh member view) before) old.node node tt) where
    joined : (plain_of node ≡ joined_node fresh member view (plain_of old.node))
        × IsSeated before (record old { node = node })
    joined = seated_still before (joined_node fresh member view) old node d refl kept.seated

    pub joined_now : Acted (act.Join fresh) before now old (record old { node = node }) (answer.Joining view member)
    joined_now =
        let event = view_with before (new_member before) in
        let long : view ≡ length before + 1 = numbered ∙ ap length is ∙ length-append before (event ∷ []) in
        let every : old.node.at.taken == old.node.at.committed ≡ true =
        ap (λ k. old.node.at.taken == k) (sym all) ∙ same_number old.node.at.taken in
        record {
          same = λ nodes i there.
              ap (λ m. (answer.Joining view member, cluster_of now (set_at nodes i m))) joined.0
              ∙ ap (λ k. (answer.Joining k member, cluster_of now (set_at nodes i (joined_node fresh member k (plain_of old.node))))) long
              ∙ ap (λ k. (answer.Joining (length before + 1) k, cluster_of now (set_at nodes i (joined_node fresh k (length before + 1) (plain_of old.node))))) named
              ∙ ap (λ o. (answer.Joining (length before + 1) (new_member before), cluster_of o (set_at nodes i (joined_node fresh (new_member before) (length before + 1) (plain_of old.node))))) is
              ∙ ap (left_by nodes i) (sym every)
              ∙ ap (λ b. joined_by nodes i b all_done) (sym left);
          goes = goes_on before now event (record old { node = node }) is
              (joined_kept before short kept.order_kept) joined.1;
        }
