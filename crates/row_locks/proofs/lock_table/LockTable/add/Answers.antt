-- A key that its holder has keeps its link, and a new one leads to what was the newest.
use Rattle.std.proofs.Common.{◌≡◌, Some, None, refl, sym, ap, subst, ◌∙◌}
use Rattle.std.specs.Map.{lookup}
use Rattle.row_locks.specs.declared.lock_table.Lock.{Lock}
use Rattle.row_locks.specs.LockKeys.{holder_eq, lock_eq, key_of}
use Rattle.row_locks.specs.Locks.{LockState, with_lock}
use Rattle.row_locks.specs.LockTable.{IsLockTable, lock_after}
use Rattle.row_locks.proofs.TableLemmas.{locks-granted}
use Rattle.row_locks.proofs.LinkLemmas.{table_replaced, table_added}
use Rattle.row_locks.proofs.lock_table.LockTable.add.Goals as goal

pub invariant_of-self : goal.invariant_of-self
invariant_of-self c =
    let was : lookup (lock_eq (key_of c.args.holder c.args.parts.now)) c.self.inside.locks.entries ≡ Some c.in-Ok-Some.field-0-0 =
    let old = c.in-Ok-Some.ensures.old in let is = c.in-Ok-Some.field-0-is in cc in
    let leads =
    ap (λ (l : Lock). l.before) c.raised-lock.ensures
    ∙ ap (λ o. (lock_after o (lookup (holder_eq c.args.holder) c.self.inside.newest.entries) c.args.kind).before) was in
    table_replaced _ _ _ _ c.self.inside.index c.self.inside.index _ c.self.invariant c.args.holder
    c.args.parts.now _ c.in-Ok-Some.ensures.updates.0 _ was leads (λ g. refl)
    c.self.invariant.indexed.numbered (λ q. refl)

pub invariant_of-self-in-Ok-None : goal.invariant_of-self-in-Ok-None
invariant_of-self-in-Ok-None c =
    let fresh : lookup (lock_eq (key_of c.args.holder c.args.parts.now)) c.self.inside.locks.entries ≡ None =
    let old = c.in-Ok-None.ensures.old in let is = c.in-Ok-None.field-0-is in cc in
    let leads : c.raised-lock.result.before ≡ lookup (holder_eq c.args.holder) c.self.inside.newest.entries =
    ap (λ (l : Lock). l.before) c.raised-lock.ensures
    ∙ ap (λ o. (lock_after o (lookup (holder_eq c.args.holder) c.self.inside.newest.entries) c.args.kind).before) fresh in
    subst (IsLockTable c.insert.new.self.entries c.put.new.map.entries c.add.new.self) (sym c.last_with-self-inside.ensures)
    (table_added _ _ _ _ c.self.inside.index c.add.new.self _ c.self.invariant c.args.holder c.args.parts.now _ c.in-Ok-None.ensures.updates.0 fresh leads
    c.put.ensures.values c.add.ensures.index c.add.ensures.numbers)

pub returns-in-Ok-Some-clause-locks : goal.returns-in-Ok-Some-clause-locks
returns-in-Ok-Some-clause-locks c =
    locks-granted _ _ c.args.holder c.args.parts.now c.args.kind _ _ c.raised-lock.ensures c.in-Ok-Some.ensures.updates.0
    ∙ ap (λ (s : LockState). with_lock s.locks c.args.holder c.args.parts.now c.args.kind) c.self.view_is

pub returns-in-Ok-None-clause-locks : goal.returns-in-Ok-None-clause-locks
returns-in-Ok-None-clause-locks c =
    locks-granted _ _ c.args.holder c.args.parts.now c.args.kind _ _ c.raised-lock.ensures c.in-Ok-None.ensures.updates.0
    ∙ ap (λ (s : LockState). with_lock s.locks c.args.holder c.args.parts.now c.args.kind) c.self.view_is
