use Rattle.std.proofs.Common.{arith}
use Rattle.node_gate.proofs.Moves.{release_allowed}
use Rattle.node_gate.proofs.steps.release.Goals as goal

pub fetch_add-requires : goal.fetch_add-requires
fetch_add-requires g c = let three = c.requires.serves.1 in (
  c.requires.serves.0,
  omega arith,
  release_allowed _ _ _ _ _ _ _ c.requires.turn.0 c.requires.turn.1 c.requires.given,
)
