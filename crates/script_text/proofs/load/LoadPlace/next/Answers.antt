use Rattle.std.proofs.Common.{◌++◌, ap, sym}
use Rattle.script_text.specs.LoadPlaces.{part_steps, steps_behind}
use Rattle.script_text.proofs.LoadLemmas.{drop_at, drop_past, turned}
use Rattle.script_text.proofs.load.LoadPlace.next.Goals as goal

pub returns-in-Some : goal.returns-in-Some
returns-in-Some c =
    let place = c.args.self.now in
    ap (λ l. l ++ steps_behind place)
    (drop_at (part_steps place.part) place.given c.in-Some.step (sym c.in-Some.ensures.step))

pub returns-in-None : goal.returns-in-None
returns-in-None c =
    let place = c.args.self.now in
    turned place c.turn.new.self c.turn.result
    (drop_past (part_steps place.part) place.given (sym c.in-None.ensures.step)) c.turn.ensures
