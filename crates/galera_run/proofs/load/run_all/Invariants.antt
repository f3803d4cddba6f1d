use Rattle.std.proofs.Common.{length}
use Rattle.script_text.specs.Load.{load_steps}
use Rattle.galera_run.specs.Load.{IsUnderWay}
use Rattle.galera_run.proofs.load.run_all.Given as goal

abbrev pub invariant-steps : goal.invariant-steps
invariant-steps l = IsUnderWay (load_steps l.seed l.count) l.load l.steps

abbrev pub decreases-steps : goal.decreases-steps
decreases-steps l = length l.steps
