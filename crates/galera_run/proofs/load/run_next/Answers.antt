use Rattle.std.proofs.Common.{arith}
use Rattle.galera_run.proofs.LoadRuns.{orders_within}
use Rattle.galera_run.proofs.load.run_next.Goals as goal

pub step-requires-clause-events : goal.step-requires-clause-events
step-requires-clause-events c =
    omega (arith, orders_within c.args.load.now.cluster.model c.args.step.now, c.requires.within.given, c.requires.few)
