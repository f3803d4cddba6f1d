use Rattle.std.proofs.Common.{◌≡◌, map}
use Rattle.std.specs.List.{filter_map, range_with_len}
use Rattle.row_locks.specs.declared.holder.Holder.TheVariants.{Session}
use Rattle.row_locks.specs.LockTable.{touched_session}
use Rattle.row_locks.proofs.lock_table.LockTable.touching.Given as goal

-- the sessions that are touched, of those that were gone over
abbrev pub invariant-loop-session : goal.invariant-loop-session
invariant-loop-session l =
    l.sessions.items ≡ filter_map (touched_session l.self.locks l.keys.entries) (map Session (range_with_len 0 l.session))
