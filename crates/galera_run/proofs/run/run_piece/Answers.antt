use Rattle.galera_run.proofs.Sources.{reads_nothing}
use Rattle.galera_run.proofs.run.run_piece.Goals as goal

pub returns-in-Err-clause-err : goal.returns-in-Err-clause-err
returns-in-Err-clause-err g c =
    (c.args.script.now, reads_nothing _ _ c.args.script.now _ c.in-Err.ensures.bytes, c.requires.sound)
