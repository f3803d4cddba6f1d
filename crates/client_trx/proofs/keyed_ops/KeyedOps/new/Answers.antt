use Rattle.client_trx.proofs.FitLemmas.{none_fit}
use Rattle.client_trx.proofs.keyed_ops.KeyedOps.new.Goals as goal

pub invariant_of-result : goal.invariant_of-result
invariant_of-result c = none_fit _ _ c.in_ok-new.ensures.empty c.new-2.ensures
