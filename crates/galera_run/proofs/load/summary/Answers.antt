use Rattle.std.proofs.Common.{◌∙◌, ap, ◌++◌}
use Rattle.script_text.specs.Load.{load_steps}
use Rattle.report_text.specs.Load.{counts_text}
use Rattle.galera_run.specs.Load.{nodes_sum}
use Rattle.galera_run.proofs.LoadRuns.{all_events, summary_is}
use Rattle.galera_run.proofs.load.summary.Goals as goal

pub returns-clause-text : goal.returns-clause-text
returns-clause-text c =
    let load = c.in_ok-load.load in
    let counted = counts_text c.args.seed c.args.count load.counts c.events-events.result in
    c.in_ok-put_sums.ensures
    ∙ ap (λ text. text ++ nodes_sum load.cluster.model 3)
    (c.in_ok-put_counts.ensures.ok ∙ ap (λ text. text ++ counted) c.new-text.ensures)
    ∙ summary_is c.args.seed c.args.count load c.events-events.result c.in_ok-load.ensures c.events-events.ensures

pub returns-clause-events : goal.returns-clause-events
returns-clause-events c =
    all_events (load_steps c.args.seed c.args.count) c.in_ok-load.load c.events-events.result c.in_ok-load.ensures
    c.events-events.ensures
