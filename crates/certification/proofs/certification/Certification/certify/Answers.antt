-- The next event is certified over each order for which the part stands.
use Rattle.std.proofs.Common.{[], ◌∷◌, ◌++◌, ap, sym, subst, ◌∙◌, arith}
use Rattle.finite_map.specs.FiniteMap.{get}
use Rattle.node_parts.specs.declared.passed.PassedCommit.{PassedCommit}
use Rattle.certification.specs.Certifies.{ModelCertification, Certifies, with_passed}
use Rattle.certification.proofs.Certifying.{number-is, all_before, is_next}
use Rattle.certification.proofs.certification.Certification.certify.Goals as goal

pub step-requires : goal.step-requires
step-requires c =
    let own = ap (λ (m : ModelCertification). m.state.number) c.self.view_is
    ∙ number-is c.requires.order c.requires.committed c.requires.certified c.args.self.now c.requires.certifies in
    let fits = c.requires.fits in
    omega (arith, own, fits)

pub keep_commit-requires-clause-newest : goal.keep_commit-requires-clause-newest
keep_commit-requires-clause-newest c earlier item there =
    let kept = ap (λ (m : ModelCertification). get m.passed earlier) (sym c.self.view_is)
    ∙ ap (λ commits. get commits earlier) (sym c.in_ok-reserve_one.ensures.commits) ∙ there in
    let below = all_before c.requires.order c.requires.committed c.requires.certified c.args.self.now c.requires.certifies earlier item kept in
    let own = ap (λ (m : ModelCertification). m.state.number) (sym c.self.view_is) in
    let told = c.number-number.ensures ∙ c.in_ok-told.ensures.number in
    omega (arith, below, own, told)

pub returns-clause-ok : goal.returns-clause-ok
returns-clause-ok c order committed certified is fits there =
    let told = c.in_ok-told.told in
    let p : PassedCommit = record { changes = told.changes; dependency = told.dependency } in
    is_next order committed certified _ (subst (Certifies order committed certified) (sym c.self.view_is) is) c.args.event.now c.purge.new.self
    told.judged p c.step.new.self fits there c.in_ok-told.ensures.judged c.in_ok-told.ensures.changes c.in_ok-told.ensures.dependency
    c.in_ok-told.ensures.state c.in_ok-told.ensures.number
    (ap (λ (m : ModelCertification). m.state) c.purge.ensures)
    (ap (λ (m : ModelCertification). m.committed) c.purge.ensures)
    (ap (λ (m : ModelCertification). m.passed) c.purge.ensures ∙ c.keep_commit.ensures
    ∙ ap (λ commits. with_passed told.judged commits c.number-number.result p) c.in_ok-reserve_one.ensures.commits
    ∙ ap (λ n. with_passed told.judged c.self.inside.passed.commits n p) c.number-number.ensures)
    (ap (λ (m : ModelCertification). m.verdicts) c.purge.ensures
    ∙ c.push_back_reserved.ensures.items ∙ ap (λ js. js ++ told.judged ∷ []) c.in_ok-reserve.ensures.items)
