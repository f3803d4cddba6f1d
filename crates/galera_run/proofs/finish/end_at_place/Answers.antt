use Rattle.galera_run.specs.Places.{Place}
use Rattle.galera_run.proofs.Endings.{if_err_map, print_is_end}
use Rattle.galera_run.proofs.finish.end_at_place.Goals as goal

pub returns-in-Some-clause-err : goal.returns-in-Some-clause-err
returns-in-Some-clause-err g c =
    let at = c.place.inside in
    let place : Place = record { number = at.number; before = at.before; steps = at.steps; state = at.state } in
    rw (← c.place.view_is)
    (if_err_map c.print_end.result (λ f. print_is_end place c.in-Some.opened _ _ f c.in-Some.is) c.print_end.ensures.err)
