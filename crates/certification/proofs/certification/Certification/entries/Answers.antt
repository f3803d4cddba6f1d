-- The kinds at parts of the kept commits are counted.
use Rattle.std.proofs.Common.{◌∙◌, sym, subst}
use Rattle.certification.specs.Certifies.{Certifies}
use Rattle.certification.proofs.Status.{entries-are}
use Rattle.certification.proofs.certification.Certification.entries.Goals as goal

pub returns : goal.returns
returns c order committed certified is =
    c.entries.ensures ∙ entries-are order committed certified _ (subst (Certifies order committed certified) (sym c.self.view_is) is)
