use Rattle.std.proofs.Common.{◌≡◌, ◌++◌}
use Rattle.galera_run.specs.Load.{nodes_sum}
use Rattle.galera_run.proofs.load.put_sums.Given as goal

abbrev pub invariant-nodes : goal.invariant-nodes
invariant-nodes l = l.text ≡ l.initial.text ++ nodes_sum l.cluster.model l.before
