use Rattle.script_text.proofs.LoadLemmas.{round_behind, closing_behind}
use Rattle.script_text.proofs.load.LoadPlace.turn.Goals as goal

pub returns-in_default : goal.returns-in_default
returns-in_default c =
    let place = c.args.self.now in
    rw (c.enter.ensures.first, c.enter.ensures.place)
    (round_behind place.part place.begun place.count place.draws.number _ _ c.in_default.not-Closing c.if-self.true
    c.of-round.ensures.round c.of-round.ensures.behind)

pub returns-in_default-2 : goal.returns-in_default-2
returns-in_default-2 c =
    let place = c.args.self.now in
    rw (c.enter-in_default-2.ensures.first, c.enter-in_default-2.ensures.place)
    (closing_behind place.part place.begun place.count place.draws.number c.in_default-2.not-Closing c.if-self.false)
