use Rattle.std.proofs.Common.{arith}
use Rattle.state_snapshot.proofs.StateLaws.{is_found}
use Rattle.state_snapshot.proofs.installing.install.Goals as goal

pub returns-clause-found : goal.returns-clause-found
returns-clause-found c =
    is_found c.args.bytes.now c.installed_state.result (λ i. omega (arith, c.type_inv.bytes i)) c.installed_state.ensures
