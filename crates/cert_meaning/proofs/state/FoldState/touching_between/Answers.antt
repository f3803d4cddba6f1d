use Rattle.std.proofs.Common.{sym, subst, arith}
use Rattle.std.specs.Prelude.{nat_lt}
use Rattle.cert_meaning.specs.State.{CommitItem, RiseWithin, Rise}
use Rattle.cert_meaning.proofs.HalvesLemmas.{rise_filter}
use Rattle.cert_meaning.proofs.state.FoldState.touching_between.Goals as goal

pub greatest_related-requires : goal.greatest_related-requires
greatest_related-requires c =
    let number = c.self.inside.number in
    subst Rise (sym c.commits_below-commits.ensures) (
      number,
      rise_filter 0 0 number (λ (commit : CommitItem). nat_lt commit.number c.args.below) c.as_slice.result.now (omega arith)
          (subst (RiseWithin 0 number) (sym c.as_slice.ensures.value) c.self.invariant),
    )
