use Rattle.std.proofs.Common.{[], ◌∷◌, arith, eq-eqb}
use Rattle.std.proofs.KnownBytes.{Keeps-refl}
use Rattle.galera_run.specs.Places.{Place}
use Rattle.galera_run.proofs.Readings.{too_far, halts_there, line_stops}
use Rattle.galera_run.proofs.Endings.{if_err_map}
use Rattle.galera_run.proofs.Writes.{appends_nothing}
use Rattle.galera_run.proofs.script.take_byte.Goals as goal

pub returns-then-script-len-ge-MOST_BYTES-clause-err :
    goal.returns-then-script-len-ge-MOST_BYTES-clause-err
returns-then-script-len-ge-MOST_BYTES-clause-err g c =
    let at = c.script-inside.inside.0.0 in
    let place : Place = record { number = at.number; before = at.before; steps = at.steps; state = at.state } in
    rw (← c.script.view_is, ← c.script-inside.view_is)
    (record {
      text = [];
      written = appends_nothing (g.K.Sink.written c.args.out.now);
      is_refused = too_far place _ c.args.byte (omega (arith, c.len.ensures, c.if-script-len-ge-MOST_BYTES.true));
    })

pub returns-in-Err-clause-err : goal.returns-in-Err-clause-err
returns-in-Err-clause-err g c = halts_there c.args.script.now (c.args.byte ∷ []) _ _ (Keeps-refl (g.K.Sink.written c.args.out.now))

pub returns-in-Ok-clause-err : goal.returns-in-Ok-clause-err
returns-in-Ok-clause-err g c =
    let at = c.script-inside.inside.0.0 in
    let place : Place = record { number = at.number; before = at.before; steps = at.steps; state = at.state } in
    let stops = rw c.in-Ok.ensures.ok at c.run_pending.ensures.err in
    rw (← c.script.view_is, ← c.script-inside.view_is)
    (if_err_map c.run_pending.result
    (λ f. line_stops place _ c.args.byte _ _ f (eq-eqb c.args.byte 10 c.if-byte-eq10.true)) stops)
