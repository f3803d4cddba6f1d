use Rattle.std.proofs.Common.{◌≡◌, None}
use Rattle.row_locks.proofs.WayLemmas.{rows_least}
use Rattle.row_locks.proofs.lock_table.LockTable.row_blocker.Given as goal

-- the locks that are left lead from the least so far to the least of all
abbrev pub invariant-loop-key : goal.invariant-loop-key
invariant-loop-key l =
    rows_least l.holder l.table l.least l.key-iterator ≡ rows_least l.holder l.table None l.initial.key-iterator
