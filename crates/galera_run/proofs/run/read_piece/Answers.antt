use Rattle.galera_run.proofs.Endings.{if_err_map}
use Rattle.galera_run.proofs.Sources.{reads_sent, reads_stop}
use Rattle.galera_run.proofs.run.read_piece.Goals as goal

pub returns-clause-err : goal.returns-clause-err
returns-clause-err g c =
    if_err_map c.run_piece.result
    (λ f. reads_stop _ _ _ _ _ _ _ _ f
    (reads_sent (g.S.Source.left c.args.input.now) c.args.script.now _ _ c.send_printed.ensures.kept))
    c.run_piece.ensures.err
