-- The holder's keys go, and the holder.
use Rattle.std.proofs.Common.{sym, ap, subst, ◌∙◌}
use Rattle.finite_map.specs.FiniteMap.{remove}
use Rattle.finite_map.specs.Links.{Linked}
use Rattle.row_locks.specs.Locks.{LockState}
use Rattle.row_locks.specs.LockTable.{links}
use Rattle.row_locks.proofs.TableLemmas.{locks-removed}
use Rattle.row_locks.proofs.LinkLemmas.{table_removed}
use Rattle.row_locks.proofs.lock_table.LockTable.release.Goals as goal

pub drop_all-requires : goal.drop_all-requires
drop_all-requires c = record {
  linked = subst (Linked (links c.self.inside.locks.entries c.args.holder)) (sym c.remove-newest.ensures.value)
      (c.self.invariant.linked c.args.holder);
  index = c.self.invariant.indexed;
}

pub invariant_of-self : goal.invariant_of-self
invariant_of-self c =
    table_removed _ _ _ _ c.self.inside.index c.drop_all.new.index _ c.self.invariant c.args.holder c.drop_all.ensures.locks
    c.remove-newest.ensures.updates.0 c.drop_all.ensures.index

pub returns-clause-locks : goal.returns-clause-locks
returns-clause-locks c =
    locks-removed _ _ c.args.holder c.drop_all.ensures.locks
    ∙ ap (λ (s : LockState). remove s.locks c.args.holder) c.self.view_is
