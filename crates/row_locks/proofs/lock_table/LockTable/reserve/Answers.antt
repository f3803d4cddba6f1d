-- More room changes no look-up.
use Rattle.std.proofs.Common.{◌∙◌, ap, refl}
use Rattle.row_locks.specs.Locks.{LockState}
use Rattle.row_locks.proofs.TableLemmas.{locks-same}
use Rattle.row_locks.proofs.LinkLemmas.{table_same}
use Rattle.row_locks.proofs.lock_table.LockTable.reserve.Goals as goal

pub invariant_of-self-in_err-reserve-2 : goal.invariant_of-self-in_err-reserve-2
invariant_of-self-in_err-reserve-2 c =
    table_same _ _ _ _ c.self.inside.index c.self.inside.index _ c.self.invariant
    c.reserve.ensures.entries.2 c.reserve-2.ensures.entries.2 c.self.invariant.indexed.numbered (λ q. refl)

pub returns-in_err-reserve-2-clause-locks : goal.returns-in_err-reserve-2-clause-locks
returns-in_err-reserve-2-clause-locks c =
    locks-same _ _ c.reserve.ensures.entries.2 ∙ ap (λ (s : LockState). s.locks) c.self.view_is

pub invariant_of-self-2 : goal.invariant_of-self-2
invariant_of-self-2 c =
    table_same _ _ _ _ c.self.inside.index c.reserve-3.new.self _ c.self.invariant
    c.reserve.ensures.entries.2 c.reserve-2.ensures.entries.2 c.reserve-3.ensures.index c.reserve-3.ensures.same

pub returns-clause-locks : goal.returns-clause-locks
returns-clause-locks c = locks-same _ _ c.reserve.ensures.entries.2 ∙ ap (λ (s : LockState). s.locks) c.self.view_is
