-- No row is put.
use Rattle.row_calls.proofs.CallLemmas.{free-without_puts}
use Rattle.rows_tests.proofs.rows.answers_are.Goals as goal

pub do_calls-requires : goal.do_calls-requires
do_calls-requires g c = free-without_puts _ c.args.calls.now c.requires
