-- The step of the seat is the model's step.
use Rattle.std.proofs.Common.{ap, sym, subst, refl, arith, ◌-◌, ◌<◌, ◌^◌}
use Rattle.std.proofs.lemmas.Result.{IfOk-weaker}
use Rattle.node_meaning.specs.Cluster.{ModelCluster}
use Rattle.cluster_core.specs.Orders.{OrderIsKept}
use Rattle.cluster_core.specs.Lawful.{IsLawful}
use Rattle.cluster_core.specs.State.{ClusterState}
use Rattle.cluster_core.specs.Acts.{cluster_of, nodes_of}
use Rattle.node_laws.specs.Given.{given}
use Rattle.cluster_core.proofs.ActLaws.{cluster_done, cluster_failed}
use Rattle.node_laws.proofs.GivenLaws.{node_goes_on}
use Rattle.cluster_core.proofs.CountedLaws.{given_after, nodes_after, events_after}
use Rattle.cluster_core.proofs.Entering.{may_enter}
use Rattle.cluster_core.proofs.LawfulSteps.{step_lawful}
use Rattle.cluster_core.proofs.cluster.ClusterOf.step.Goals as goal

pub step_at-requires-clause-counts : goal.step_at-requires-clause-counts
step_at-requires-clause-counts g c =
    node_goes_on (cluster_of (g.G.Group.order c.self.inside.group) (nodes_of c.self.inside.seats.items))
    (subst (λ m. given m < 2 ^ 63) (sym (ap (λ (v : ClusterState). v.model) c.self.view_is)) c.requires.counts) (c.from-at.result - 1)

pub step_at-requires-clause-enters : goal.step_at-requires-clause-enters
step_at-requires-clause-enters g c =
    may_enter (cluster_of (g.G.Group.order c.self.inside.group) (nodes_of c.self.inside.seats.items)) c.self.invariant.1 (c.from-at.result - 1)

pub returns-clause-ok : goal.returns-clause-ok
returns-clause-ok g c =
    IfOk-weaker c.step_at.result _ _
    (λ x. cluster_done (cluster_of (g.G.Group.order c.self.inside.group) (nodes_of c.self.inside.seats.items)) c.args.self.now.model
    (c.from-at.result - 1) c.args.step.now
    (x, cluster_of (g.G.Group.order c.step_at.new.group) (nodes_of c.step_at.new.seats.items))
    (ap (λ (v : ClusterState). v.model) c.self.view_is) (ap (λ k. k - 1) c.from-at.ensures))
    c.step_at.ensures.ok

pub returns-clause-group : goal.returns-clause-group
returns-clause-group g c = (c.step_at.new.group, refl)

pub returns-clause-err : goal.returns-clause-err
returns-clause-err g c =
    cluster_failed (cluster_of (g.G.Group.order c.self.inside.group) (nodes_of c.self.inside.seats.items)) c.args.self.now.model
    (cluster_of (g.G.Group.order c.step_at.new.group) (nodes_of c.step_at.new.seats.items)) (c.from-at.result - 1) c.args.step.now c.step_at.result
    (ap (λ (v : ClusterState). v.model) c.self.view_is) (ap (λ k. k - 1) c.from-at.ensures) c.requires.node.0 c.step_at.ensures.err

pub returns-clause-counts : goal.returns-clause-counts
returns-clause-counts g c =
    given_after c.args.self.now.model (cluster_of (g.G.Group.order c.step_at.new.group) (nodes_of c.step_at.new.seats.items)) c.args.step.now c.step_at.result
    (returns-clause-ok g c) (returns-clause-err g c)

pub returns-clause-nodes : goal.returns-clause-nodes
returns-clause-nodes g c =
    nodes_after c.args.self.now.model (cluster_of (g.G.Group.order c.step_at.new.group) (nodes_of c.step_at.new.seats.items)) c.args.step.now c.step_at.result
    (returns-clause-ok g c) (returns-clause-err g c)

pub returns-clause-events : goal.returns-clause-events
returns-clause-events g c =
    events_after c.args.self.now.model (cluster_of (g.G.Group.order c.step_at.new.group) (nodes_of c.step_at.new.seats.items)) c.args.step.now c.step_at.result
    (returns-clause-ok g c)

pub invariant_of-self : goal.invariant_of-self
invariant_of-self g c =
    let model = ap (λ (v : ClusterState). v.model) c.self.view_is in (
      c.step_at.ensures.kept,
      (step_lawful c.args.self.now.model (cluster_of (g.G.Group.order c.step_at.new.group) (nodes_of c.step_at.new.seats.items)) c.args.step.now c.step_at.result
          (returns-clause-ok g c) (returns-clause-err g c) c.act_in_range.ensures
          (subst (λ (m : ModelCluster). OrderIsKept m.order) model c.self.invariant.0.order_kept) (let few = c.requires.events in omega (arith, few)) c.requires.counts
          (subst IsLawful model c.self.invariant.1)),
    )
