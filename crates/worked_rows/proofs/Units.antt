-- The model run gives the answers of these schedules.
use Rattle.std.proofs.Common.{refl}
use Rattle.worked_rows.specs.Words.{Computes, computing_runs}
use Rattle.worked_rows.specs.Units as rows

brute_force_abort : Computes 2 rows.brute_force_abort
unfolding computing_runs
brute_force_abort = refl

replay_of_a_sent_commit : Computes 2 rows.replay_of_a_sent_commit
unfolding computing_runs
replay_of_a_sent_commit = refl

replay_of_a_certified_commit : Computes 2 rows.replay_of_a_certified_commit
unfolding computing_runs
replay_of_a_certified_commit = refl

parallel_units : Computes 2 rows.parallel_units
unfolding computing_runs
parallel_units = refl

touching_units_wait : Computes 2 rows.touching_units_wait
unfolding computing_runs
touching_units_wait = refl

transfer_between_accounts : Computes 3 rows.transfer_between_accounts
unfolding computing_runs
transfer_between_accounts = refl

refused_statements : Computes 2 rows.refused_statements
unfolding computing_runs
refused_statements = refl
