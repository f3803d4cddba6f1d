use Rattle.std.proofs.Common.{◌≡◌}
use Rattle.group_order.specs.Order.{up_to}
use Rattle.group_order.proofs.mem_group.members_to.Given as goal

abbrev pub invariant-loop-before : goal.invariant-loop-before
invariant-loop-before l = l.members ≡ up_to l.before
