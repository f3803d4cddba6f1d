use Rattle.std.proofs.Common.{ap, ◌∙◌, arith}
use Rattle.node_gate.specs.Views.{loaded}
use Rattle.node_gate.proofs.Moves.{read_allowed}
use Rattle.node_gate.proofs.steps.read.Goals as goal

pub load-requires : goal.load-requires
load-requires g c = let three = c.requires.serves.1 in
    (c.requires.serves.0, omega arith, read_allowed _ _ _ _ _ _ _ c.requires.rest.1)

pub returns : goal.returns
returns g c = let saw = c.load.ensures.2 in record {
  own = (c.load.ensures.0, c.load.ensures.1);
  rises = saw.1;
  read = saw.0 ∙ ap (λ xs. (loaded c.args.seat.now.me.0 c.load.result, xs)) c.requires.rest.0;
}
