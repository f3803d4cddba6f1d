-- The model run gives the answers of these schedules.
use Rattle.std.proofs.Common.{refl}
use Rattle.worked_rows.specs.Words.{Computes, computing_runs}
use Rattle.worked_rows.specs.Leaving as rows

leave : Computes 2 rows.leave
unfolding computing_runs
leave = refl

leave_and_orphans : Computes 2 rows.leave_and_orphans
unfolding computing_runs
leave_and_orphans = refl

purge_by_reports : Computes 2 rows.purge_by_reports
unfolding computing_runs
purge_by_reports = refl
