use Rattle.std.proofs.Common.{◌+◌, ◌≤◌, take}
use Rattle.row_locks.specs.Alike.{HoldAlike, with_held}
use Rattle.row_locks.proofs.lock_table.LockTable.hold.Given as goal

-- the holder has the keys that were gone over
abbrev pub invariant-loop-parts : goal.invariant-loop-parts
invariant-loop-parts l = record {
  held : HoldAlike l.self.locks (with_held l.fn.self.locks l.holder (take l.parts-index l.keys));
  spare : l.fn.self.spare ≤ l.self.spare + l.parts-index;
}
