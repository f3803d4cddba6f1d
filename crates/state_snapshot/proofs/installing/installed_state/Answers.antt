-- The commits that are read rise, and a fault that is given is met.
use Rattle.std.proofs.Common.{arith}
use Rattle.state_snapshot.proofs.CommitRuns.{read_rise}
use Rattle.state_snapshot.proofs.FaultLaws.{is_met_in}
use Rattle.state_snapshot.proofs.installing.installed_state.Goals as goal

pub fault_of-requires : goal.fault_of-requires
fault_of-requires c = is_met_in c.args.bytes.now c.in-Err.fault c.in-Err.ensures

pub of-requires : goal.of-requires
of-requires c =
    read_rise c.args.bytes.now (c.in-Ok.read.0, c.in-Ok.read.1) (λ i. omega (arith, c.type_inv.bytes i)) c.in-Ok.ensures
