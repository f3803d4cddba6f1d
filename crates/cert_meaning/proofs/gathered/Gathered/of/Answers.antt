-- The keys are joined with none more.
use Rattle.std.proofs.Common.{◌≡◌, List, sym, ap, ◌∙◌}
use Rattle.cert_meaning.specs.State.{Fragment, whole_keys}
use Rattle.cert_meaning.specs.Whole.{within}
use Rattle.cert_meaning.proofs.WholeLemmas.{keeps-joined}
use Rattle.cert_meaning.proofs.gathered.Gathered.of.Goals as goal

pub invariant_of-result : goal.invariant_of-result
invariant_of-result c =
    let fragments = c.into_vec.result.items in
    let none = c.in_ok-none.none in
    let same : fragments ≡ c.as_slice.result.now = c.into_vec.ensures ∙ sym c.as_slice.ensures in
    keeps-joined fragments none c.in-Some.keys c.in_ok-none.ensures.empty
    (ap (λ (all : List Fragment). within (whole_keys all none)) same
    ∙ sym c.in_ok-keys.ensures ∙ c.in-Some.is)
