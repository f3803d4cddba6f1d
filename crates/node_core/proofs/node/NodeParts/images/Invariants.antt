use Rattle.std.proofs.Common.{◌≡◌, take}
use Rattle.node_meaning.specs.Units.{named_rows, images_of}
use Rattle.node_core.proofs.node.NodeParts.images.Given as goal

-- the rows that the changes before name are listed, with their images
abbrev pub invariant-loop-op : goal.invariant-loop-op
invariant-loop-op l = record {
  named : l.named.keys ≡ named_rows (take l.op-index l.ops);
  images : l.images ≡ images_of (take l.op-index l.ops) l.self.rows.committed;
}
