-- a cluster as it is seen: the model's, and how often its group has failed
use Rattle.std.specs.Prelude.{ℕ, ◌-◌, List, slice_get, Option, Some, None}
use Rattle.row_model.specs.declared.row.RowItem.{RowItem}
use Rattle.undo_rows.specs.RowTable.{row_items}
use Rattle.node_meaning.specs.Node.{ModelNode, rows_at}
use Rattle.node_meaning.specs.Cluster.{ModelCluster}

pub record ClusterState : Type 0 where
  pub model : ModelCluster
  pub faults : ℕ

-- what a node shows at the end: how far it has committed, and its committed rows
abbrev pub at_of : Option ModelNode → ℕ
at_of None = 0
at_of (Some n) = n.at.committed

abbrev pub end_at : ModelCluster → ℕ → ℕ
end_at c node = at_of (slice_get c.nodes (node - 1))

abbrev pub end_rows : ModelCluster → ℕ → List RowItem
end_rows c node = row_items (rows_at c.order (end_at c node))
