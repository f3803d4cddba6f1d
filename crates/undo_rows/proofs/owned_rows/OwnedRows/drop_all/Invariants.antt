use Rattle.std.proofs.Common.{◌≡◌, ◌≤◌}
use Rattle.undo_rows.specs.RowTable.{without}
use Rattle.undo_rows.proofs.owned_rows.OwnedRows.drop_all.Given as goal

abbrev pub invariant-loop : goal.invariant-loop
invariant-loop l = record {
  others : without l.self.changes l.owner ≡ without l.initial.self.changes l.owner;
  fewer : l.self.count ≤ l.initial.self.count;
  grown : l.initial.self.spare ≤ l.self.spare;
}

abbrev pub decreases-loop : goal.decreases-loop
decreases-loop l = l.self.count
