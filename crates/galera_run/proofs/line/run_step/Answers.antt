use Rattle.std.proofs.Common.{arith}
use Rattle.galera_run.proofs.Openings.{step_counted}
use Rattle.galera_run.proofs.line.run_step.Goals as goal

pub returns-in-Ok-clause-stands : goal.returns-in-Ok-clause-stands
returns-in-Ok-clause-stands g c =
    let room = rw (← c.place.view_is, ← c.opened.view_is) at c.requires.room in
    rw c.pass.ensures (record {
      numbered = omega arith;
      within = omega arith;
      few = omega arith;
      counted = step_counted c.place.inside.steps _ c.args.step.now c.step.new.self room.counted
          c.if-passes_events.ensures c.step.ensures.counts c.step.ensures.nodes c.in-Ok.ensures.events
          c.in-Ok.ensures.cause;
    })

pub step-requires-clause-counts : goal.step-requires-clause-counts
step-requires-clause-counts g c =
    let room = rw (← c.place.view_is, ← c.opened.view_is) at c.requires.room in
    omega (arith, room.counted.within)
