-- how much a cluster has given out
use Rattle.std.specs.Prelude.{◌<◌, ℕ, ◌+◌, max, List, [], ◌∷◌}
use Rattle.finite_map.specs.FiniteMap.{len}
use Rattle.wsrep_base.specs.declared.limits.TheConstants.{NUMBERS_END}
use Rattle.node_meaning.specs.Node.{ModelNode}
use Rattle.node_meaning.specs.Cluster.{ModelCluster}
use Rattle.node_laws.specs.Sizes.{cluster_size}

-- a node's next serial together with its live transactions, or its next begin number: the greater
abbrev pub node_given : ModelNode → ℕ
node_given n = max (n.at.serial + len n.live) n.at.begin

-- the greatest of all nodes
abbrev pub nodes_given : List ModelNode → ℕ
nodes_given [] = 0
nodes_given (n ∷ ns) = max (node_given n) (nodes_given ns)

-- that, or the events, the messages that wait and the live transactions together: the greater
unfoldable pub given : ModelCluster → ℕ
given c = max (cluster_size c) (nodes_given c.nodes)

-- the names of a node's next transaction, and of a next write set and one for each live
-- transaction, are within their types
pub record CanGoOn (n : ModelNode) : Type 0 where
  pub serial : n.at.serial + len n.live < NUMBERS_END
  pub begin : n.at.begin < NUMBERS_END
