use Rattle.state_snapshot.proofs.StateLaws.{snapshot_again, only_snapshots}
use Rattle.state_snapshot.proofs.laws.one_spelling.Goals as goal

pub returns-clause-again : goal.returns-clause-again
returns-clause-again c = snapshot_again

pub returns-clause-only : goal.returns-clause-only
returns-clause-only c = only_snapshots
