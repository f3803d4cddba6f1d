-- What is looked up decides whether the key touches.
use Rattle.std.proofs.Common.{◌&&◌, sym, ap, ◌∙◌}
use Rattle.finite_map.specs.FiniteMap.{get}
use Rattle.key_sets.specs.declared.kind.Kind.TheVariants.{Shared}
use Rattle.key_sets.specs.declared.parts.Parts.{Parts}
use Rattle.key_sets.specs.Kinds.{kinds_touch}
use Rattle.key_sets.specs.Probes.{passes}
use Rattle.row_locks.specs.Locks.{keys_at}
use Rattle.row_locks.specs.LockTable.{has_row_of}
use Rattle.row_locks.proofs.TouchLemmas.{touches-here, touches-above, touches-below}
use Rattle.row_locks.proofs.lock_table.LockTable.touches.Goals as goal

pub returns-then-is_touched_at : goal.returns-then-is_touched_at
returns-then-is_touched_at c =
    c.if-is_touched_at.true ∙ sym (touches-here _ c.args.parts.now c.args.kind (sym c.if-is_touched_at.ensures))

pub returns-in-Some : goal.returns-in-Some
returns-in-Some c =
    c.is_touched_at-in-Some.ensures
    ∙ ap (λ (q : Parts). passes (kinds_touch Shared) (get (keys_at c.args.self.now.locks c.args.holder) q)) c.table_parts.ensures
    ∙ sym (touches-above _ c.args.parts.now c.args.kind c.in-Some.field-0 c.in-Some.is (sym c.if-is_touched_at.ensures))

pub returns-then-touches : goal.returns-then-touches
returns-then-touches c =
    c.has_row.ensures
    ∙ ap (λ b. b && has_row_of (keys_at c.args.self.now.locks c.args.holder) c.args.parts.now) c.if-touches.ensures
    ∙ sym (touches-below _ c.args.parts.now c.args.kind c.in-None.is (sym c.if-is_touched_at.ensures))

pub returns-else-touches : goal.returns-else-touches
returns-else-touches c =
    c.if-touches.false
    ∙ ap (λ b. b && has_row_of (keys_at c.args.self.now.locks c.args.holder) c.args.parts.now) c.if-touches.ensures
    ∙ sym (touches-below _ c.args.parts.now c.args.kind c.in-None.is (sym c.if-is_touched_at.ensures))
