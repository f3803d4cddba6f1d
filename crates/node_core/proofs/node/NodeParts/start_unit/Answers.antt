use Rattle.std.proofs.Common.{length, ap, ◌∙◌}
use Rattle.node_meaning.specs.Units.{named_rows}
use Rattle.node_core.proofs.ImageCalls.{given_images, count_images}
use Rattle.node_core.proofs.StartCalls.{task_given, ops_given}
use Rattle.node_core.proofs.node.NodeParts.start_unit.Goals as goal

pub new-requires : goal.new-requires
new-requires c = given_images c.in_ok-ops.ops c.args.self.now.rows.committed c.in_ok-images.images c.in_ok-images.ensures

pub returns-clause-ok : goal.returns-clause-ok
returns-clause-ok c order can = record {
  task = task_given order c.args.self.now c.args.number c.args.keys c.in_ok-ops.ops c.in_ok-images.images c.in_ok-task.task can
      c.in_ok-ops.ensures c.in_ok-images.ensures c.in_ok-task.ensures;
  done = c.in_ok-aborted.ensures.ok order can
      (c.len-rows.ensures ∙ ap length c.in_ok-images.ensures ∙ count_images c.in_ok-ops.ops c.args.self.now.rows.committed
      ∙ ap (λ ops. length (named_rows ops)) (ops_given order c.args.self.now c.args.number c.args.keys c.in_ok-ops.ops can c.in_ok-ops.ensures));
}
