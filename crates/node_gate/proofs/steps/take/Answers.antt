use Rattle.std.proofs.Common.{rules, ◌≡◌, [], ◌∷◌, refl, ap, ◌∙◌, subst, arith, Some, None}
use Rattle.std.specs.Option.{IsSome}
use Rattle.atomic_table.specs.Table.{rest}
use Rattle.node_gate.specs.Views.{taking}
use Rattle.node_gate.proofs.Moves.{take_allowed}
use Rattle.node_gate.proofs.Carried.{taken_last, same_carried, lent_as}
use Rattle.node_gate.proofs.steps.take.Goals as goal

pub load-requires : goal.load-requires
load-requires g c = let three = c.requires.serves.1 in (
  c.requires.serves.0,
  omega arith,
  take_allowed _ _ _ _ _ _ _ c.requires.turn.0 c.requires.turn.1 c.requires.empty.0,
)

pub exchange-requires : goal.exchange-requires
exchange-requires g c = let took = c.load.ensures.2 in
    let now : c.load.new.seat.me.1 ≡ (0, Some took.0) ∷ [] = ap (λ m. m.1) took.2
    ∙ ap (λ xs. (0, Some took.0) ∷ xs) c.requires.empty.1 in
    (c.load.ensures.0 ∙ c.requires.serves.0, (Some took.0, taken_last _ _ now))

pub unwrap-requires : goal.unwrap-requires
unwrap-requires g c = let took = c.load.ensures.2 in
    let now : c.load.new.seat.me.1 ≡ (0, Some took.0) ∷ [] = ap (λ m. m.1) took.2
    ∙ ap (λ xs. (0, Some took.0) ∷ xs) c.requires.empty.1 in
    subst IsSome (same_carried _ _ _ _ _ now c.exchange.ensures.2) refl

pub returns : goal.returns
returns g c = let took = c.load.ensures.2 in
    let now : c.load.new.seat.me.1 ≡ (0, Some took.0) ∷ [] = ap (λ m. m.1) took.2
    ∙ ap (λ xs. (0, Some took.0) ∷ xs) c.requires.empty.1 in
    let found : Some took.0 ≡ c.exchange.result = same_carried _ _ _ _ _ now c.exchange.ensures.2 in
    let same : took.0 ≡ c.unwrap.result = search rules in
    let view : c.load.new.seat.me.0 ≡ taking c.args.seat.now.me.0 took.1.log
    (g.C.Counted.number (g.C.Counted.entries c.unwrap.result)) = ap (λ m. m.0) took.2
    ∙ ap (λ x. taking c.args.seat.now.me.0 took.1.log (g.C.Counted.number (g.C.Counted.entries x))) same in record {
      own = (c.exchange.ensures.0 ∙ c.load.ensures.0, c.exchange.ensures.1 ∙ c.load.ensures.1);
      took = (
        lent_as g.C.Counted.entries g.C.Counted.number g.C.Counted.mark g.C.Counted.may _ _ _ same took.1,
        c.exchange.ensures.3
            ∙ (λ i. (view i, (0, None) ∷ ap rest now i)),
      );
    }
