use Rattle.std.proofs.Common.{ap, sym, ◌∙◌}
use Rattle.finite_map.specs.FiniteMap.{get}
use Rattle.node_parts.specs.Units.{is_started}
use Rattle.node_core.proofs.FinishCalls.{finish_done}
use Rattle.node_core.proofs.node.NodeParts.finish.Goals as goal

pub returns-clause-ok : goal.returns-clause-ok
returns-clause-ok c order stands =
    let units = c.args.self.now.units.units in
    let test = ap (λ k. is_started (get units k)) (sym c.number-number.ensures)
    ∙ sym c.is_started.ensures ∙ c.if-not-is_started.false in
    rw (c.number-number.ensures, c.finish.ensures)
    (finish_done order c.args.self.now c.args.done stands (c.requires.work order stands test) test)
