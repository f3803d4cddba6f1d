use Rattle.std.proofs.Common.{refl}
use Rattle.cert_meaning.specs.Parts.{state_of}
use Rattle.certification.proofs.Certifying.{certifies_installed}
use Rattle.certification.proofs.certification.Certification.installed.Goals as goal

pub returns : goal.returns
returns c order number within is =
    certifies_installed order number (state_of c.args.parts) _ within is c.in_ok-of.ensures refl c.new.ensures c.new-2.ensures.items
