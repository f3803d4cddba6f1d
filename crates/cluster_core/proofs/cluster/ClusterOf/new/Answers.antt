-- The seats are those of the model's nodes at their start.
use Rattle.std.proofs.Common.{ap, sym, subst, ◌∙◌, length}
use Rattle.node_meaning.specs.Cluster.{ModelCluster}
use Rattle.node_laws.specs.Given.{given}
use Rattle.node_laws.proofs.GivenLaws.{given_at_start, nodes_at_start}
use Rattle.cluster_core.proofs.ActLaws.{kept_start, cluster_start}
use Rattle.cluster_core.specs.Lawful.{IsLawful}
use Rattle.cluster_core.proofs.LawfulSteps.{start_lawful}
use Rattle.cluster_core.proofs.cluster.ClusterOf.new.Goals as goal

pub invariant_of-result : goal.invariant_of-result
invariant_of-result g c = (
  kept_start (g.G.Group.order c.args.group) c.args.nodes c.in_ok-seats.seats.items c.requires.order c.requires.few
      (c.in_ok-seats.ensures.seated (g.G.Group.order c.args.group)),
  subst IsLawful
      (sym (cluster_start (g.G.Group.order c.args.group) c.args.nodes c.args.gcache c.args.id c.in_ok-seats.seats.items c.requires.order c.in_ok-seats.ensures.nodes))
      (start_lawful c.args.nodes c.args.gcache c.args.id c.requires.few),
)

pub returns-clause-start : goal.returns-clause-start
returns-clause-start g c =
    cluster_start (g.G.Group.order c.args.group) c.args.nodes c.args.gcache c.args.id c.in_ok-seats.seats.items c.requires.order c.in_ok-seats.ensures.nodes

pub returns-clause-nodes : goal.returns-clause-nodes
returns-clause-nodes g c =
    ap (λ (m : ModelCluster). length m.nodes)
    (cluster_start (g.G.Group.order c.args.group) c.args.nodes c.args.gcache c.args.id c.in_ok-seats.seats.items c.requires.order c.in_ok-seats.ensures.nodes)
    ∙ nodes_at_start c.args.nodes c.args.gcache c.args.id

pub returns-clause-counts : goal.returns-clause-counts
returns-clause-counts g c =
    ap given
    (cluster_start (g.G.Group.order c.args.group) c.args.nodes c.args.gcache c.args.id c.in_ok-seats.seats.items c.requires.order c.in_ok-seats.ensures.nodes)
    ∙ given_at_start c.args.nodes c.args.gcache c.args.id
