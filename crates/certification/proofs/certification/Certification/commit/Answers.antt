-- The first of what is certified is committed.
use Rattle.std.proofs.Common.{sym, subst, ap, ◌∙◌}
use Rattle.std.specs.Prelude.{slice_get, drop}
use Rattle.node_meaning.specs.Units.{judged_at}
use Rattle.certification.specs.Certifies.{ModelCertification, Certifies}
use Rattle.certification.proofs.Certifying.{certifies_committed}
use Rattle.certification.proofs.Verdicts.{popped, verdict_next}
use Rattle.certification.proofs.certification.Certification.commit.Goals as goal

pub returns-clause-judged : goal.returns-clause-judged
returns-clause-judged c order committed certified is next more =
    popped c.pop_front.result c.self-2.inside.verdicts.items c.pop_front.new.self.items (judged_at order c.args.number)
    c.pop_front.ensures.items c.pop_front.ensures.rest
    (ap (λ (m : ModelCertification). slice_get m.verdicts 0) (c.self-2.view_is ∙ c.purge.ensures)
    ∙ ap (λ (m : ModelCertification). slice_get m.verdicts 0) c.self.view_is ∙ ap (λ js. slice_get js 0) is.verdicts
    ∙ verdict_next order committed certified c.args.number more next)

pub returns-clause-certifies : goal.returns-clause-certifies
returns-clause-certifies c order committed certified is next =
    let is_new = c.self-2.view_is ∙ c.purge.ensures in
    certifies_committed order committed certified _ (subst (Certifies order committed certified) (sym c.self.view_is) is) c.args.number next _
    (ap (λ (m : ModelCertification). m.committed) is_new)
    (ap (λ (m : ModelCertification). m.state) is_new)
    (ap (λ (m : ModelCertification). m.passed) is_new ∙ c.remove.ensures.commits)
    (c.pop_front.ensures.rest ∙ ap (λ (m : ModelCertification). drop 1 m.verdicts) is_new)
