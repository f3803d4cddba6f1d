-- The cluster is at its start, over a group that has not failed.
use Rattle.std.proofs.Common.{◌∙◌}
use Rattle.galera_run.proofs.Openings.{start_counted}
use Rattle.galera_run.proofs.line.begin.Goals as goal

pub returns-clause-counted : goal.returns-clause-counted
returns-clause-counted g c =
    start_counted (record { nodes = c.args.header.now.nodes; cluster = c.in_ok-new.field-0 }) c.args.header.now.gcache c.args.header.now.id c.in_ok-new.ensures.start
    (c.in_ok-new.ensures.faults ∙ c.in_ok-group.ensures.faults) c.in_ok-new.ensures.nodes c.in_ok-new.ensures.counts
