-- The serial leaves the reports as they were.
use Rattle.std.proofs.Common.{◌∙◌, ap}
use Rattle.cert_meaning.specs.Fold.{floor_over}
use Rattle.view_change.proofs.FloorLemmas.{serial_keeps_floor}
use Rattle.view_change.proofs.members.Members.set_serial.Goals as goal

pub invariant_of-self : goal.invariant_of-self
invariant_of-self c =
    ap (λ members. floor_over members c.self.inside.floor) c.set_serial.ensures
    ∙ serial_keeps_floor c.self.inside.standings c.args.member c.args.serial c.self.inside.floor
    ∙ c.self.invariant
