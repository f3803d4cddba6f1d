use Rattle.std.proofs.Common.{◌≡◌}
use Rattle.galera_run.specs.Reading.{nodes_end}
use Rattle.galera_run.proofs.finish.end_lines.Given as goal

abbrev pub invariant-nodes : goal.invariant-nodes
invariant-nodes g l = l.text ≡ nodes_end l.opened.cluster.model l.before
