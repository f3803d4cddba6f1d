-- The outbox of the seat with the step's number is the model's.
use Rattle.std.proofs.Common.{ap, sym, ◌∙◌, min, ◌-◌, cond}
use Rattle.std.specs.Prelude.{◌&&◌, ◌==◌}
use Rattle.node_meaning.specs.Node.{is_left}
use Rattle.node_meaning.specs.Cluster.{node_orders}
use Rattle.node_core.specs.Stands.{plain_of}
use Rattle.cluster_core.specs.State.{ClusterState}
use Rattle.cluster_core.proofs.ActLaws.{will_is, first_counts}
use Rattle.cluster_core.proofs.cluster.ClusterOf.will_order.Goals as goal

pub returns-in-Order : goal.returns-in-Order
returns-in-Order g c =
    will_is c.args.self.now.model c.self.inside.seats.items _ c.args.step.now c.index.result.now c.min.result
    (ap (λ (v : ClusterState). v.model.nodes) c.self.view_is) (ap (λ k. k - 1) c.from.ensures) c.requires c.index.ensures
    (c.min.ensures ∙ ap (λ k. min k 1) c.place-place.ensures.outbox ∙ first_counts c.index.result.now.node.parts.queue.outbox
    ∙ ap (λ a. node_orders a (plain_of c.index.result.now.node.parts)) (sym c.in-Order.is))

pub returns-in-Drain : goal.returns-in-Drain
returns-in-Drain g c =
    will_is c.args.self.now.model c.self.inside.seats.items _ c.args.step.now c.index.result.now c.place-place.result.outbox
    (ap (λ (v : ClusterState). v.model.nodes) c.self.view_is) (ap (λ k. k - 1) c.from.ensures) c.requires c.index.ensures
    (c.place-place.ensures.outbox ∙ ap (λ a. node_orders a (plain_of c.index.result.now.node.parts)) (sym c.in-Drain.is))

pub returns-in-Leave : goal.returns-in-Leave
returns-in-Leave g c =
    will_is c.args.self.now.model c.self.inside.seats.items _ c.args.step.now c.index.result.now c.leave_orders.result
    (ap (λ (v : ClusterState). v.model.nodes) c.self.view_is) (ap (λ k. k - 1) c.from.ensures) c.requires c.index.ensures
    (c.leave_orders.ensures ∙ ap (λ phase. cond (is_left phase) 0 1) c.place-place.ensures.phase
    ∙ ap (λ a. node_orders a (plain_of c.index.result.now.node.parts)) (sym c.in-Leave.is))

pub returns-in-Join : goal.returns-in-Join
returns-in-Join g c =
    will_is c.args.self.now.model c.self.inside.seats.items _ c.args.step.now c.index.result.now c.join_orders.result
    (ap (λ (v : ClusterState). v.model.nodes) c.self.view_is) (ap (λ k. k - 1) c.from.ensures) c.requires c.index.ensures
    (c.join_orders.ensures ∙ ap (λ phase. cond (is_left phase && c.taken.result == c.committed.result) 1 0) c.place-place.ensures.phase
    ∙ ap (λ k. cond (is_left c.index.result.now.node.parts.at.phase && k == c.committed.result) 1 0) c.taken.ensures
    ∙ ap (λ k. cond (is_left c.index.result.now.node.parts.at.phase && c.index.result.now.node.parts.at.taken == k) 1 0) c.committed.ensures
    ∙ ap (λ a. node_orders a (plain_of c.index.result.now.node.parts)) (sym c.in-Join.is))
