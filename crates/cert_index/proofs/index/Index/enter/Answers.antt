-- More room changes no look-up.
use Rattle.cert_index.proofs.TableLemmas.{finds-same}
use Rattle.cert_index.proofs.index.Index.enter.Goals as goal

pub invariant_of-self-in_err-reserve-2 : goal.invariant_of-self-in_err-reserve-2
invariant_of-self-in_err-reserve-2 c =
    finds-same _ _ _ _ c.reserve-2.ensures.items c.self.invariant c.reserve.ensures.entries.2

pub enter_all-requires-clause-finds : goal.enter_all-requires-clause-finds
enter_all-requires-clause-finds c =
    finds-same _ _ _ _ c.reserve-2.ensures.items c.self.invariant c.reserve.ensures.entries.2
