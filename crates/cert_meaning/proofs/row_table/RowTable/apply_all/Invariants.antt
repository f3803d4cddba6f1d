use Rattle.std.proofs.Common.{◌≡◌, ◌≤◌, ◌+◌, length, take}
use Rattle.row_model.specs.Rows.{ops_on}
use Rattle.cert_meaning.proofs.row_table.RowTable.apply_all.Given as goal

abbrev pub invariant-loop-op : goal.invariant-loop-op
invariant-loop-op l = record {
  rows_are : l.self.rows ≡ ops_on (take l.op-index l.ops) l.initial.self.rows;
  room : length l.ops ≤ l.self.spare + l.op-index;
}
