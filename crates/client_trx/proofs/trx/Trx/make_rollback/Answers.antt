use Rattle.std.proofs.Common.{refl}
use Rattle.client_trx.proofs.FitLemmas.{rollback_obeys}
use Rattle.client_trx.proofs.trx.Trx.make_rollback.Goals as goal

pub returns-clause-valid : goal.returns-clause-valid
returns-clause-valid c = rollback_obeys _ refl refl c.in_ok-new.ensures.empty c.new-2.ensures
