-- Of the three kinds, those that are so related are looked up.
use Rattle.std.proofs.Common.{◌∙◌}
use Rattle.key_sets.specs.Probes.{kind_test}
use Rattle.cert_meaning.specs.Extremes.{greater}
use Rattle.cert_index.proofs.MeetLemmas.{latest-kinds}
use Rattle.cert_index.proofs.index.Index.met_at.Goals as goal

pub returns-clause-latest : goal.returns-clause-latest
returns-clause-latest g c =
    c.greater-2.ensures
    ∙ (λ i. greater (c.met_if-shared.ensures.latest i) ((c.greater.ensures ∙ (λ j. greater (c.met_if-update.ensures.latest j) (c.met_if-exclusive.ensures.latest j))) i))
    ∙ latest-kinds (kind_test c.args.relation) c.args.parts c.args.kind c.args.self.now
