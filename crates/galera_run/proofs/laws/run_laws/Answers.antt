use Rattle.galera_run.proofs.ScheduleLaws.{runs_over_steps}
use Rattle.galera_run.proofs.laws.run_laws.Goals as goal

pub returns : goal.returns
returns c = runs_over_steps
