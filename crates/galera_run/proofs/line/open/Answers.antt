use Rattle.std.proofs.Common.{arith}
use Rattle.galera_run.proofs.Openings.{counted_later}
use Rattle.galera_run.proofs.line.open.Goals as goal

pub returns-in-Ok-clause-stands : goal.returns-in-Ok-clause-stands
returns-in-Ok-clause-stands g c =
    let room = rw (← c.place.view_is) at c.requires in
    rw c.pass.ensures (record {
      numbered = omega (arith, room.numbered, room.some);
      within = omega (arith, room.room);
      few = omega (arith, room.few);
      counted = counted_later c.place.inside.steps c.in-Ok.opened c.in-Ok.ensures.counted;
    })
