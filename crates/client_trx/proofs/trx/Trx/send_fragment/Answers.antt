-- Nothing is gathered since, and one more fragment is sent.
use Rattle.std.proofs.Common.{◌<◌, length, refl, sym, subst}
use Rattle.client_trx.specs.Live.{Live}
use Rattle.client_trx.proofs.NewestLemmas.{sent_parts}
use Rattle.client_trx.proofs.trx.Trx.send_fragment.Goals as goal

pub invariant_of-self : goal.invariant_of-self
invariant_of-self c =
    sent_parts c.self.inside.whole c.self.inside.newest _ c.self.inside.sent _ c.self.invariant
    (subst (λ (t : Live). 0 < length t.new_ops) (sym c.self.view_is) c.requires.due.1) refl c.nothing_new.ensures
