use Rattle.std.proofs.Common.{arith}
use Rattle.node_gate.proofs.Moves.{publish_allowed}
use Rattle.node_gate.proofs.steps.publish.Goals as goal

pub store-requires : goal.store-requires
store-requires g c = let three = c.requires.serves.1 in (
  c.requires.serves.0,
  omega arith,
  publish_allowed _ _ _ _ _ _ _ _ _ c.requires.turn.1 c.requires.out c.requires.rises,
)
