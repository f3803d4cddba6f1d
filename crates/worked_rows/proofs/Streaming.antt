-- The model run gives the answers of these schedules.
use Rattle.std.proofs.Common.{refl}
use Rattle.worked_rows.specs.Words.{Computes, computing_runs}
use Rattle.worked_rows.specs.Streaming as rows

streaming : Computes 2 rows.streaming
unfolding computing_runs
streaming = refl

held_by_a_fragment : Computes 2 rows.held_by_a_fragment
unfolding computing_runs
held_by_a_fragment = refl

commit_enters_all_fragments : Computes 2 rows.commit_enters_all_fragments
unfolding computing_runs
commit_enters_all_fragments = refl

rollback_frees_rows : Computes 2 rows.rollback_frees_rows
unfolding computing_runs
rollback_frees_rows = refl

fragment_of_a_victim : Computes 2 rows.fragment_of_a_victim
unfolding computing_runs
fragment_of_a_victim = refl
