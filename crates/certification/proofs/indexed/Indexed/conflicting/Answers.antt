-- The index holds all the commits, so that it finds what a search over them finds.
use Rattle.std.proofs.Common.{◌∙◌, ap, arith}
use Rattle.cert_meaning.specs.State.{FoldState}
use Rattle.cert_meaning.specs.Verdict.{conflict_of}
use Rattle.cert_index.proofs.HoldLemmas.{finds_conflict}
use Rattle.certification.proofs.indexed.Indexed.conflicting.Goals as goal

pub returns : goal.returns
unfolding conflict_of
returns g c =
    c.conflict.ensures.latest
    ∙ finds_conflict c.self.inside.index 0 c.args.last_seen c.self.inside.commits.items c.args.keys.now c.self.invariant.holds (omega arith)
    ∙ ap (λ (s : FoldState). conflict_of s c.args.last_seen c.args.keys.now) c.self.view_is
