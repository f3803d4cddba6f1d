use Rattle.std.proofs.Common.{ap, ◌∙◌}
use Rattle.client_trx.specs.Live.{Live, commit_flags}
use Rattle.client_trx.proofs.FitLemmas.{commit_valid}
use Rattle.client_trx.proofs.trx.Trx.commit_set.Goals as goal

pub returns-clause-valid : goal.returns-clause-valid
returns-clause-valid c =
    commit_valid c.args.self.now c.in_ok-all.all c.args.serial c.args.last_seen c.commit_flags.result c.write_set.result
    c.write_set.ensures.set (c.commit_flags.ensures ∙ ap (λ (t : Live). commit_flags t.sent) c.self.view_is)
    c.write_set.ensures.fit
