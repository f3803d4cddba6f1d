use Rattle.std.proofs.Common.{◌≡◌, ◌+◌, ◌≤◌, None, cond, is_some}
use Rattle.std.specs.HashMap.{hash_map_len, spare}
use Rattle.std.specs.Map.{lookup}
use Rattle.finite_map.specs.Links.{Linked}
use Rattle.row_locks.specs.declared.lock_table.LockKey.{LockKey}
use Rattle.row_locks.specs.HolderIndex.{index_room}
use Rattle.row_locks.specs.Holders.{same_holder}
use Rattle.row_locks.specs.LockKeys.{lock_eq}
use Rattle.row_locks.specs.LockTable.{IsIndexOf, links}
use Rattle.row_locks.proofs.lock_table.drop_all.Given as goal

-- the next key leads through those that are left, which the index has, and other holders' keys stay
abbrev pub invariant-loop-next : goal.invariant-loop-next
invariant-loop-next l = record {
  linked : Linked (links l.locks.entries l.holder) l.next;
  indexed : IsIndexOf l.index l.locks.entries;
  others : (key : LockKey) → cond (same_holder l.holder key.holder) None (lookup (lock_eq key) l.locks.entries)
      ≡ cond (same_holder l.holder key.holder) None (lookup (lock_eq key) l.initial.locks.entries);
  grown : spare l.initial.locks ≤ spare l.locks;
  room : index_room l.initial.index ≤ index_room l.index;
}

abbrev pub decreases-loop-next : goal.decreases-loop-next
decreases-loop-next l = hash_map_len l.locks + cond (is_some l.next) 1 0
