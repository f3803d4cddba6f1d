use Rattle.node_parts.proofs.UnitLaws.{total_none}
use Rattle.node_parts.proofs.units.Units.new.Goals as goal

pub invariant_of-result : goal.invariant_of-result
invariant_of-result c = total_none c.new.result.entries c.new.ensures.empty
