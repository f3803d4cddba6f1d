use Rattle.std.proofs.Common.{cond, length, Some, None, refl, sym, ap, ◌∙◌, ltb-true, eq-eqb}
use Rattle.std.specs.Prelude.{slice_get}
use Rattle.std.specs.Option.{option_copied}
use Rattle.std.proofs.lemmas.Bool.{ltb-false}
use Rattle.std.proofs.lemmas.Option.{slice_get_read, slice_get_past}
use Rattle.cert_meaning.proofs.ScanLemmas.{not_equal}
use Rattle.cert_meaning.proofs.HalvesLemmas.{with_number, numbered_next}
use Rattle.cert_meaning.proofs.search.commit_numbered.Goals as goal

pub returns-in_err-next : goal.returns-in_err-next
returns-in_err-next c =
    let cs = c.args.commits.now in
    ap (λ o. option_copied o) c.from_residual.ensures
    ∙ sym (numbered_next 0 c.requires.0 c.args.number cs c.requires.1
    ∙ ap (λ below. with_number c.args.number (slice_get cs (length below))) (sym c.commits_below-below.ensures)
    ∙ ap (with_number c.args.number) (slice_get_past cs (length c.commits_below-below.result.now)
    (ltb-false _ _ (sym c.in_err-next.ensures.lookup.0))))

pub returns-then-next-number : goal.returns-then-next-number
returns-then-next-number c =
    let cs = c.args.commits.now in
    let next = c.in_ok-next.next.now in
    sym (numbered_next 0 c.requires.0 c.args.number cs c.requires.1
    ∙ ap (λ below. with_number c.args.number (slice_get cs (length below))) (sym c.commits_below-below.ensures)
    ∙ ap (with_number c.args.number) (slice_get_read cs (length cs) (length c.commits_below-below.result.now) next refl
    (ltb-true _ _ (sym c.in_ok-next.ensures.lookup.0)) (c.in_ok-next.ensures.lookup.1))
    ∙ ap (λ b. cond b (Some next) None) (eq-eqb next.number c.args.number c.if-next-number.true))

pub returns-else-next-number : goal.returns-else-next-number
returns-else-next-number c =
    let cs = c.args.commits.now in
    let next = c.in_ok-next.next.now in
    sym (numbered_next 0 c.requires.0 c.args.number cs c.requires.1
    ∙ ap (λ below. with_number c.args.number (slice_get cs (length below))) (sym c.commits_below-below.ensures)
    ∙ ap (with_number c.args.number) (slice_get_read cs (length cs) (length c.commits_below-below.result.now) next refl
    (ltb-true _ _ (sym c.in_ok-next.ensures.lookup.0)) (c.in_ok-next.ensures.lookup.1))
    ∙ ap (λ b. cond b (Some next) None) (not_equal next.number c.args.number c.if-next-number.false))
