use Rattle.galera_run.proofs.Replicating.{runs_replicate}
use Rattle.galera_run.proofs.laws.right_laws.Goals as goal

pub returns : goal.returns
returns c = runs_replicate
