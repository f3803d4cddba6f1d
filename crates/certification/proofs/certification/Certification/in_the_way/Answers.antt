use Rattle.std.proofs.Common.{◌∙◌, sym, subst}
use Rattle.certification.specs.Certifies.{Certifies}
use Rattle.certification.proofs.Ahead.{way-some, way-none}
use Rattle.certification.proofs.certification.Certification.in_the_way.Goals as goal

pub returns-in-Some : goal.returns-in-Some
returns-in-Some c order committed certified commit is above found =
    c.only_above.ensures
    ∙ way-some order committed certified _ (subst (Certifies order committed certified) (sym c.self.view_is) is) c.args.number commit found
    c.in-Some.commit.now (sym c.in-Some.ensures)

pub returns-in-None : goal.returns-in-None
returns-in-None c order committed certified commit is above found =
    absurd (way-none order committed certified _ (subst (Certifies order committed certified) (sym c.self.view_is) is) c.args.number commit found
    (sym c.in-None.ensures))
