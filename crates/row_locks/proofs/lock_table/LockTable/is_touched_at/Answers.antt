-- The table's look-up is that of the holder's keys.
use Rattle.std.proofs.Common.{sym, ◌∙◌, ap}
use Rattle.finite_map.specs.FiniteMap.{get}
use Rattle.key_sets.specs.Kinds.{kinds_touch}
use Rattle.key_sets.specs.Probes.{passes}
use Rattle.row_locks.specs.Locks.{LockState, keys_at}
use Rattle.row_locks.proofs.TableLemmas.{kind_in, get-locks_in}
use Rattle.row_locks.proofs.lock_table.LockTable.is_touched_at.Goals as goal

pub returns-in-Some : goal.returns-in-Some
returns-in-Some c =
    let same = get-locks_in c.self.inside.locks.entries c.args.holder c.args.parts.now in
    c.touches.ensures
    ∙ ap (λ o. passes (kinds_touch c.args.kind) (kind_in o)) c.in-Some.ensures.value
    ∙ ap (passes (kinds_touch c.args.kind)) (sym same ∙ ap (λ (s : LockState).
    get (keys_at s.locks c.args.holder) c.args.parts.now) c.self.view_is)

pub returns-in-None : goal.returns-in-None
returns-in-None c =
    let same = get-locks_in c.self.inside.locks.entries c.args.holder c.args.parts.now in
    ap (λ o. passes (kinds_touch c.args.kind) (kind_in o)) c.in-None.ensures.value
    ∙ ap (passes (kinds_touch c.args.kind)) (sym same ∙ ap (λ (s : LockState).
    get (keys_at s.locks c.args.holder) c.args.parts.now) c.self.view_is)
