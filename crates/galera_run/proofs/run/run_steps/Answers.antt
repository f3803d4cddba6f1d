use Rattle.galera_run.proofs.RightStatuses.{ok_right, run_begins}
use Rattle.galera_run.proofs.Sending.{sent_ok, sent_end, sent_err, sent_read, sent_write}
use Rattle.galera_run.proofs.run.run_steps.Goals as goal

pub returns-clause-ok : goal.returns-clause-ok
returns-clause-ok g c =
    sent_ok c.run_lines-ran.result c.send_behind.result _ _ _ _ _ _ c.send_behind.ensures.sent c.send_behind.ensures.kept
    c.run_lines-ran.ensures.ok

pub returns-clause-end : goal.returns-clause-end
returns-clause-end g c =
    sent_end c.run_lines-ran.result c.send_behind.result _ _ _ c.send_behind.ensures.sent c.run_lines-ran.ensures.end

pub returns-clause-err : goal.returns-clause-err
returns-clause-err g c =
    sent_err c.run_lines-ran.result c.send_behind.result _ _ _ _ _ _ _ c.send_behind.ensures.sent c.send_behind.ensures.kept
    c.run_lines-ran.ensures.ok c.run_lines-ran.ensures.err

pub returns-clause-read : goal.returns-clause-read
returns-clause-read g c =
    sent_read c.run_lines-ran.result c.send_behind.result _ _ _ _ c.send_behind.ensures.sent c.run_lines-ran.ensures.read

pub returns-clause-write : goal.returns-clause-write
returns-clause-write g c =
    sent_write c.run_lines-ran.result c.send_behind.result _ _ _ c.send_behind.ensures.sent c.run_lines-ran.ensures.write

pub returns-clause-right : goal.returns-clause-right
returns-clause-right g c = ok_right _ _ _ c.send_behind.result (returns-clause-ok g c)

pub returns-clause-begins : goal.returns-clause-begins
returns-clause-begins g c =
    run_begins _ _ _ _ c.send_behind.result (returns-clause-ok g c) (returns-clause-err g c)
