use Rattle.std.proofs.Common.{◌≡◌, [], ap, ◌∙◌, subst, arith}
use Rattle.node_gate.specs.History.{StartsWith}
use Rattle.node_gate.specs.Views.{joined}
use Rattle.node_gate.proofs.Moves.{meet_allowed, learn_allowed}
use Rattle.node_gate.proofs.steps.take_in.Goals as goal

pub join_seat-requires : goal.join_seat-requires
join_seat-requires g c = let three = c.requires.serves.1 in (
  c.requires.serves.0,
  c.requires.other.0,
  c.requires.rest.1.0,
  omega arith,
  meet_allowed _ _ _ _ _ _ _ _ c.requires.rest.0.1 c.requires.first c.requires.rest.1.1
      c.requires.rest.1.2,
)

pub load-requires : goal.load-requires
load-requires g c = let three = c.requires.serves.1 in (
  c.join_seat.ensures.0 ∙ c.requires.serves.0,
  omega arith,
  learn_allowed _ _ _ _ _ _ _ (ap (λ m. m.0.lock) c.join_seat.ensures.2 ∙ c.requires.rest.0.1),
)

pub returns : goal.returns
returns g c = let old = c.args.seat.now.me.0 in let other = c.args.other.me.0 in
    let saw = c.load.ensures.2 in
    let now : c.join_seat.new.seat.me ≡ (joined old other, []) = c.join_seat.ensures.2
    ∙ ap (λ xs. (joined old other, xs)) c.requires.rest.0.0 in record {
      own = (c.load.ensures.0 ∙ c.join_seat.ensures.0, c.load.ensures.1 ∙ c.join_seat.ensures.1);
      both = (
        saw.0,
        saw.1 ∙ ap (λ m. (record m.0 { seen = saw.0 }, m.1)) now,
        subst (StartsWith saw.0) (ap (λ m. m.0.seen) now) saw.2,
        subst (StartsWith saw.0) (ap (λ m. m.0.told) now) saw.3,
      );
    }
