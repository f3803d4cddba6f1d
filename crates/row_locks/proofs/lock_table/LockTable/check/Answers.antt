-- Those with a key at the parts, at the table of a row, or at the rows of a table.
use Rattle.std.proofs.Common.{sym, ap, ◌∙◌}
use Rattle.key_sets.specs.declared.kind.Kind.TheVariants.{Shared}
use Rattle.row_locks.specs.LockTable.{blocker_at, lesser}
use Rattle.row_locks.proofs.WayLemmas.{blocker-row, blocker-table, blocker-shared}
use Rattle.row_locks.proofs.lock_table.LockTable.check.Goals as goal

pub returns-in-Some : goal.returns-in-Some
returns-in-Some c =
    let locks = c.args.self.now.locks in
    c.lesser.ensures
    ∙ (λ i. lesser (c.blocker_at-here.ensures i)
    ((c.blocker_at.ensures ∙ ap (λ q. blocker_at locks c.args.holder q Shared) c.table_parts-table.ensures) i))
    ∙ sym (blocker-row locks c.args.holder c.args.parts.now c.args.kind c.in-Some.field-0 c.in-Some.is)

pub returns-in-None : goal.returns-in-None
returns-in-None c =
    c.lesser-in-None.ensures
    ∙ (λ i. lesser (c.blocker_at-here.ensures i) (c.row_blocker.ensures i))
    ∙ sym (blocker-table c.args.self.now.locks c.args.holder c.args.parts.now c.args.kind c.in-None.is (sym c.if-touches.ensures))

pub returns-in-None-2 : goal.returns-in-None-2
returns-in-None-2 c =
    c.blocker_at-here.ensures
    ∙ sym (blocker-shared c.args.self.now.locks c.args.holder c.args.parts.now c.args.kind c.in-None.is (sym c.if-touches.ensures))
