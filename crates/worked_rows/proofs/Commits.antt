-- The model run gives the answers of these schedules.
use Rattle.std.proofs.Common.{refl}
use Rattle.worked_rows.specs.Words.{Computes, computing_runs}
use Rattle.worked_rows.specs.Commits as rows

call_before_the_first_view : Computes 1 rows.call_before_the_first_view
unfolding computing_runs
call_before_the_first_view = refl

first_commit : Computes 1 rows.first_commit
unfolding computing_runs
first_commit = refl

first_committer_wins_on_an_insert : Computes 2 rows.first_committer_wins_on_an_insert
unfolding computing_runs
first_committer_wins_on_an_insert = refl

commit_of_nothing : Computes 2 rows.commit_of_nothing
unfolding computing_runs
commit_of_nothing = refl

first_committer_wins : Computes 2 rows.first_committer_wins
unfolding computing_runs
first_committer_wins = refl

edge_of_the_window : Computes 2 rows.edge_of_the_window
unfolding computing_runs
edge_of_the_window = refl

certified_is_not_seen : Computes 2 rows.certified_is_not_seen
unfolding computing_runs
certified_is_not_seen = refl

sessions_side_by_side : Computes 1 rows.sessions_side_by_side
unfolding computing_runs
sessions_side_by_side = refl
