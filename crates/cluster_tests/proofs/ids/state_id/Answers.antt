use Rattle.cluster_tests.proofs.NotNil.{id_is}
use Rattle.cluster_tests.proofs.ids.state_id.Goals as goal

pub returns : goal.returns
returns c = rw c.parse.ensures (id_is _)
