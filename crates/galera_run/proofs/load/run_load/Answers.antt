use Rattle.galera_run.proofs.Completeness.{load_replicates}
use Rattle.galera_run.proofs.load.run_load.Goals as goal

pub returns-in-Ok-print_out-clause-right : goal.returns-in-Ok-print_out-clause-right
returns-in-Ok-print_out-clause-right g c =
    load_replicates c.args.seed c.args.count c.requires.1

pub returns-in-Ok-clause-right : goal.returns-in-Ok-clause-right
returns-in-Ok-clause-right g c = load_replicates c.args.seed c.args.count c.requires.1

pub returns-clause-right : goal.returns-clause-right
returns-clause-right g c = load_replicates c.args.seed c.args.count c.requires.1
