-- The model run gives the answers of these schedules.
use Rattle.std.specs.Prelude.{◌++◌}
use Rattle.std.proofs.Common.{refl}
use Rattle.worked_rows.specs.Words.{Computes, ComputesIn, computing_runs}
use Rattle.worked_rows.specs.Joining as rows

by_events : ComputesIn 78 2 rows.by_events
unfolding computing_runs
by_events = refl

by_snapshot : ComputesIn 77 2 (rows.a_row ++ rows.joins_again ++ rows.by_snapshot)
unfolding computing_runs
by_snapshot = refl

fresh : ComputesIn 78 2 (rows.a_row ++ rows.joins_fresh ++ rows.by_snapshot)
unfolding computing_runs
fresh = refl

donors : ComputesIn 77 2 rows.donors
unfolding computing_runs
donors = refl

drained_first : Computes 2 rows.drained_first
unfolding computing_runs
drained_first = refl
