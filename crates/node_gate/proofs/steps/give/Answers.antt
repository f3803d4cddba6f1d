use Rattle.std.proofs.Common.{◌≡◌, [], ◌∷◌, sym, ap, ◌∙◌, subst, arith, Some, None}
use Rattle.atomic_table.specs.Table.{rest}
use Rattle.node_gate.specs.declared.view.View.{View}
use Rattle.node_gate.specs.Views.{done}
use Rattle.node_gate.specs.Plays.{Adds}
use Rattle.node_gate.proofs.Moves.{give_allowed}
use Rattle.node_gate.proofs.Carried.{taken_last, same_carried, same_value}
use Rattle.node_gate.proofs.steps.give.Goals as goal

pub exchange-requires : goal.exchange-requires
exchange-requires g c = (c.requires.serves.0, (None, taken_last _ _ c.requires.out.1))

pub load-requires : goal.load-requires
load-requires g c = let three = c.requires.serves.1 in let old = c.args.seat.now.me.0 in
    let value = c.args.value in
    let now : c.exchange.new.seat.me ≡ (old, (0, Some value) ∷ []) = c.exchange.ensures.3
    ∙ ap (λ xs. (old, (0, Some value) ∷ xs)) (ap rest c.requires.out.1) in (
      c.exchange.ensures.0 ∙ c.requires.serves.0,
      omega arith,
      give_allowed _ _ _ _ _ _ _ c.requires.turn.0 value c.requires.value.1
          (ap (λ m. m.0.lock) now ∙ c.requires.turn.1) (ap (λ m. m.0.holds) now ∙ c.requires.out.0)
          (ap (λ m. m.1) now) (ap (λ m. m.0.published) now ∙ c.requires.shown)
          (ap (λ m. m.0.mark) now ∙ c.requires.value.0)
          (subst (λ v. Adds g.C.Counted.entries g.C.Counted.may v value c.requires.value.1)
          (sym (ap (λ m. m.0) now)) c.requires.value.2),
    )

pub returns : goal.returns
returns g c = let old = c.args.seat.now.me.0 in let value = c.args.value in
    let gave = c.load.ensures.2 in
    let now : c.exchange.new.seat.me ≡ (old, (0, Some value) ∷ []) = c.exchange.ensures.3
    ∙ ap (λ xs. (old, (0, Some value) ∷ xs)) (ap rest c.requires.out.1) in
    let same : gave.2.0 ≡ value = same_value _ _ (same_carried _ _ _ _ _ gave.2.1 (ap (λ m. m.1) now)) in record {
      own = (c.load.ensures.0 ∙ c.exchange.ensures.0, c.load.ensures.1 ∙ c.exchange.ensures.1);
      gave = (
        gave.0,
        gave.1 ∙ ap (λ m. (done m.0 gave.0, rest m.1)) now,
        subst (λ (z : View g.row.C-Entry.Denot g.row.C-Mark.Denot × g.row.C.Denot).
            Adds g.C.Counted.entries g.C.Counted.may z.0 z.1 gave.0) (λ i. (ap (λ m. m.0) now i, same i)) gave.2.2,
      );
    }
