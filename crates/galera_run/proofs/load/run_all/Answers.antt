use Rattle.script_text.specs.Load.{load_steps}
use Rattle.galera_run.proofs.LoadRuns.{starts, goes_on}
use Rattle.galera_run.proofs.load.run_all.Goals as goal

pub steps-init : goal.steps-init
steps-init c =
    let begun = c.in_ok-load.ensures in
    rw c.new-steps.ensures
    (starts c.args.seed c.args.count c.in_ok-load.load c.requires begun.model begun.counts begun.steps begun.within)

pub steps-preserved : goal.steps-preserved
steps-preserved c =
    goes_on (load_steps c.args.seed c.args.count) c.steps.load c.run_next.new.load c.in-Some.step c.next.new.self
    (rw c.in-Some.ensures at c.steps.invariant) c.in_ok-run_next.ensures.step c.in_ok-run_next.ensures.within
