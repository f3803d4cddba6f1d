use Rattle.std.proofs.Common.{◌≡◌, ℕ, ◌<◌, true, Some}
use Rattle.row_locks.specs.declared.holder.Holder.{Holder}
use Rattle.row_locks.specs.HolderIndex.{holder_in}
use Rattle.row_locks.specs.LockTable.{is_in_way_at}
use Rattle.row_locks.proofs.LeastLemmas.{at_most, passes_if_there}
use Rattle.row_locks.proofs.lock_table.LockTable.blocker_at.Given as goal

-- the least of those in the way that were gone over
abbrev pub invariant-loop-number : goal.invariant-loop-number
invariant-loop-number l = record {
  found : passes_if_there (is_in_way_at l.self.locks l.holder l.parts l.kind) l.least;
  least : (n : ℕ) (g : Holder) → n < l.number → holder_in l.self-inside.index l.parts n ≡ Some g
      → is_in_way_at l.self.locks l.holder l.parts l.kind g ≡ true → at_most l.least g ≡ true;
}
