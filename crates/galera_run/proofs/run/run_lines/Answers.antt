use Rattle.galera_run.proofs.Endings.{if_ok_map, if_err_map}
use Rattle.galera_run.proofs.Sources.{run_tells, run_ends, run_stops, reads_first, stops_first}
use Rattle.galera_run.proofs.run.run_lines.Goals as goal

pub returns-in-Ok-clause-ok : goal.returns-in-Ok-clause-ok
returns-in-Ok-clause-ok g c =
    if_ok_map c.finish.result
    (λ done. run_tells _ _ c.read_all.new.script _ _ _ done
    (reads_first _ _ c.new.result c.read_all.new.script _ _ c.new.ensures c.in-Ok.ensures.ok) c.in-Ok.ensures.end)
    c.finish.ensures.ok

pub returns-in-Ok-clause-err : goal.returns-in-Ok-clause-err
returns-in-Ok-clause-err g c =
    if_err_map c.finish.result
    (λ f. run_ends _ _ c.read_all.new.script _ _ _ f
    (reads_first _ _ c.new.result c.read_all.new.script _ _ c.new.ensures c.in-Ok.ensures.ok) c.in-Ok.ensures.end)
    c.finish.ensures.err

pub returns-clause-err : goal.returns-clause-err
returns-clause-err g c =
    run_stops _ _ _ _ c.in-Err.fault (stops_first _ _ c.new.result _ _ c.in-Err.fault c.new.ensures c.in-Err.ensures.err)
