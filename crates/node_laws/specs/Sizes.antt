-- how large a cluster is
use Rattle.std.specs.Prelude.{ℕ, ◌+◌, List, [], ◌∷◌, length}
use Rattle.finite_map.specs.FiniteMap.{len}
use Rattle.node_meaning.specs.Node.{ModelNode}
use Rattle.node_meaning.specs.Cluster.{ModelCluster}

-- the messages of a node that are not ordered, and its live transactions
abbrev pub node_size : ModelNode → ℕ
node_size n = length n.outbox + len n.live

abbrev pub sizes : List ModelNode → ℕ
sizes [] = 0
sizes (n ∷ ns) = node_size n + sizes ns

-- its events, and those of all nodes
abbrev pub cluster_size : ModelCluster → ℕ
cluster_size c = length c.order + sizes c.nodes
