-- A session without a newest key has none.
use Rattle.std.proofs.Common.{sym, ap, ◌∙◌}
use Rattle.row_locks.specs.declared.holder.Holder.TheVariants.{Session}
use Rattle.row_locks.specs.Locks.{LockState}
use Rattle.row_locks.specs.LockTable.{touches_some}
use Rattle.row_locks.proofs.SessionLemmas.{none-touched}
use Rattle.row_locks.proofs.lock_table.LockTable.is_session_touched.Goals as goal

pub returns-else-contains_key : goal.returns-else-contains_key
returns-else-contains_key c =
    c.if-contains_key.false
    ∙ sym (none-touched c.self.inside.locks.entries c.args.session _ (c.self.invariant.linked (Session c.args.session))
    (sym c.if-contains_key.ensures) c.args.keys.now)
    ∙ ap (λ (s : LockState). touches_some s.locks c.args.keys.now (Session c.args.session)) c.self.view_is
