-- The image of the change's row is changed, or there is none.
use Rattle.std.proofs.Common.{sym, ◌∙◌, ap}
use Rattle.std.specs.Prelude.{is_some}
use Rattle.std.specs.List.{position, list_any}
use Rattle.std.proofs.Math.ListN.{set}
use Rattle.row_model.specs.Rows.{row_after}
use Rattle.row_model.specs.RowOrder.{row_eq}
use Rattle.apply_unit.proofs.TaskLemmas.{computed-none, change_at, change_of_none}
use Rattle.apply_unit.proofs.task.do_all.Goals as goal
use Rattle.apply_unit.proofs.task.do_all.Goals.{in-Some, in_default}

pub loop-op-init : goal.loop-op-init
loop-op-init c = sym (computed-none _)

pub loop-op-preserved : goal.loop-op-preserved
loop-op-preserved c =
    let op = c.op-item.result in
    let images = c.loop-op.results.items in
    let keys = c.args.places.now.keys in
    elim c.match-get_index_of.branch [
      | in-Some w ↦
          let found = ap (λ id. position (row_eq id) keys) (sym c.id.ensures)
          ∙ sym c.get_index_of.ensures.index ∙ w.in-Some.is in
          ap (λ v. v.items) w.results-is
          ∙ ap (set images w.in-Some.at) (λ i. (
            (w.index.ensures i).0,
            (w.apply_op.ensures ∙ ap (λ image. row_after image.1 op) w.index.ensures) i,
          ))
          ∙ change_at c.args.ops.now c.loop-op.op-index op c.args.results.now.items images keys w.in-Some.at
          w.index.result.now c.loop-op-test.true c.op-item.is c.requires.places c.requires.once c.loop-op.invariant found
      | in_default w ↦
          let none = ap (λ id. list_any (row_eq id) keys) (sym c.id.ensures)
          ∙ sym c.get_index_of.ensures.found ∙ ap is_some w.in_default.is in
          ap (λ v. v.items) w.results-is
          ∙ change_of_none c.args.ops.now c.loop-op.op-index op c.args.results.now.items images keys
          c.loop-op-test.true c.op-item.is c.requires.places c.loop-op.invariant none
    ]
