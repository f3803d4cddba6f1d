-- Nothing is linked, and the index is empty.
use Rattle.row_locks.proofs.LinkLemmas.{table_empty}
use Rattle.row_locks.proofs.lock_table.LockTable.new.Goals as goal

pub invariant_of-result : goal.invariant_of-result
invariant_of-result c =
    table_empty c.new.result.entries c.new-2.result.entries c.new-3.result c.new.ensures.empty c.new-2.ensures.empty
    c.new-3.ensures.index c.new-3.ensures.none
