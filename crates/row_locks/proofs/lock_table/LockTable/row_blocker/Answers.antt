-- Each lock is gone over.
use Rattle.std.proofs.Common.{sym, ap, ◌∙◌, None}
use Rattle.std.proofs.lemmas.Bool.{cond-true, cond-false}
use Rattle.row_locks.specs.Locks.{LockState}
use Rattle.row_locks.specs.LockTable.{row_blocker, row_in_way}
use Rattle.row_locks.proofs.WayLemmas.{rows_least, rows-least, rows-step}
use Rattle.row_locks.proofs.lock_table.LockTable.row_blocker.Goals as goal

pub loop-key-preserved-then-is_row_in_way : goal.loop-key-preserved-then-is_row_in_way
loop-key-preserved-then-is_row_in_way c =
    let passes = row_in_way c.args.holder c.args.table.now c.in-Some.key.now in
    rows-step _ _ _ _ c.in-Some.key.now c.in-Some.field-0-1.now _ _ c.in-Some.ensures.steps
    (c.lesser-least.ensures ∙ sym (cond-true passes _ _ (sym c.if-is_row_in_way.ensures)))
    ∙ c.loop-key.invariant

pub loop-key-preserved : goal.loop-key-preserved
loop-key-preserved c =
    let passes = row_in_way c.args.holder c.args.table.now c.in-Some.key.now in
    rows-step _ _ _ _ c.in-Some.key.now c.in-Some.field-0-1.now _ _ c.in-Some.ensures.steps
    (sym (cond-false passes _ _ (sym c.if-is_row_in_way.ensures))) ∙ c.loop-key.invariant

pub returns : goal.returns
returns c =
    sym (ap (rows_least c.args.holder c.args.table.now c.loop-key.least) c.in-None.ensures.steps.0)
    ∙ c.loop-key.invariant
    ∙ ap (rows_least c.args.holder c.args.table.now None)
    c.into_iter-key-iterator.ensures.into_iter_gives.0
    ∙ rows-least c.args.holder c.args.table.now c.self.inside.locks.entries
    ∙ ap (λ (s : LockState). row_blocker s.locks c.args.holder c.args.table.now) c.self.view_is
