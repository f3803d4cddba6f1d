use Rattle.std.proofs.Common.{arith}
use Rattle.node_gate.proofs.Moves.{split_allowed}
use Rattle.node_gate.proofs.steps.cut_off.Goals as goal

pub split_seat-requires : goal.split_seat-requires
split_seat-requires g c = let three = c.requires.serves.1 in (
  c.requires.serves.0,
  omega arith,
  split_allowed _ _ _ _ _ _ c.requires.rest.1 c.requires.first c.requires.room,
)
