use Rattle.std.proofs.Common.{arith}
use Rattle.node_gate.proofs.Moves.{draw_allowed}
use Rattle.node_gate.proofs.steps.draw.Goals as goal

pub fetch_add-requires : goal.fetch_add-requires
fetch_add-requires g c = let three = c.requires.serves.1 in
    (c.requires.serves.0, omega arith, draw_allowed _ _ _ _ _ _ _ c.requires.idle)
