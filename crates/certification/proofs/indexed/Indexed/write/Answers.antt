-- A commit or a fragment that passes is not broken.
use Rattle.std.proofs.Common.{sym, ap, ◌∙◌}
use Rattle.cert_meaning.specs.Fold.{judged_as}
use Rattle.cert_meaning.proofs.VerdictLaws.{commit_fits, fragment_fits}
use Rattle.certification.proofs.indexed.Indexed.write.Goals as goal

pub affect-requires-clause-commit : goal.affect-requires-clause-commit
affect-requires-clause-commit c = λ is.
    commit_fits c.args.self.now c.args.member c.in-Some.set
    (ap (judged_as c.in-Some.set) (sym c.in_ok-verdict.ensures) ∙ sym c.judged_as-judged.ensures ∙ is)

pub affect-requires-clause-fragment : goal.affect-requires-clause-fragment
affect-requires-clause-fragment c = λ is.
    fragment_fits c.args.self.now c.args.member c.in-Some.set
    (ap (judged_as c.in-Some.set) (sym c.in_ok-verdict.ensures) ∙ sym c.judged_as-judged.ensures ∙ is)
