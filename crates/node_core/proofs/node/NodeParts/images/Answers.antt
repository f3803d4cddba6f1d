use Rattle.std.proofs.Common.{◌≡◌, ◌<◌, length, get_or, sym, subst, ◌∙◌}
use Rattle.std.proofs.lemmas.Bool.{not-true, not-false}
use Rattle.row_model.specs.declared.ops.Op.{Op}
use Rattle.node_core.proofs.ImageCalls.{no_rows, no_images, one_more_row, image_there, image_new}
use Rattle.node_core.proofs.node.NodeParts.images.Goals as goal
use Rattle.node_core.proofs.node.NodeParts.images.Goals.{then-branch+in_ok-push, else-branch}

pub loop-op-init : goal.loop-op-init
loop-op-init c = record {
  named = c.new-named.ensures.empty ∙ no_rows;
  images = c.new-images.ensures ∙ no_images c.args.self.now.rows.committed;
}

pub loop-op-preserved : goal.loop-op-preserved
loop-op-preserved c =
    let ops = c.as_slice-op-items.ensures in
    let i = c.loop-op.op-index in
    let op : Op = c.op-item.result in
    let below = subst (λ l. i < length l) ops c.loop-op-test.true in
    let is = subst (λ l. op ≡ get_or l i op) ops c.op-item.is in
    record {
      named = one_more_row c.args.ops.now i op c.id-id.result c.loop-op.named.keys c.insert.new.self.keys below is c.id-id.ensures
          c.loop-op.invariant.named c.in_ok-insert.ensures.keys;
      images = elim c.if-branch.branch [
        | then-branch+in_ok-push w ↦
            w.images-is ∙ image_new c.args.ops.now i op c.id-id.result c.loop-op.named.keys c.insert.new.self.keys below is c.id-id.ensures
            c.loop-op.invariant.named c.in_ok-insert.ensures.keys c.args.self.now.rows.committed c.loop-op.images w.push.new.self w.committed.result
            (not-true _ (sym c.in_ok-insert.ensures.added ∙ w.if-branch.true))
            c.loop-op.invariant.images
            w.committed.ensures w.in_ok-push.ensures.ok
        | else-branch w ↦
            w.images-is ∙ image_there c.args.ops.now i op c.id-id.result c.loop-op.named.keys c.insert.new.self.keys below is c.id-id.ensures
            c.loop-op.invariant.named c.in_ok-insert.ensures.keys c.args.self.now.rows.committed c.loop-op.images
            (not-false _ (sym c.in_ok-insert.ensures.added ∙ w.if-branch.false))
            c.loop-op.invariant.images
      ];
    }
