use Rattle.std.proofs.Common.{refl}
use Rattle.certification.proofs.Certifying.{certifies_none}
use Rattle.certification.proofs.certification.Certification.new.Goals as goal

pub returns : goal.returns
returns c order = certifies_none order _ c.in_ok-new.ensures refl c.new-2.ensures c.new-3.ensures.items
