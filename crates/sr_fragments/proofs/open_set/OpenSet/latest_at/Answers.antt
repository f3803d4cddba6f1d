-- The index has the latest of each transaction at the spot.
use Rattle.std.proofs.Common.{◌∙◌, ap}
use Rattle.cert_meaning.specs.State.{fragments_but}
use Rattle.sr_fragments.specs.HeldIndex.{found}
use Rattle.sr_fragments.specs.OpenSet.{Open, latest_at}
use Rattle.sr_fragments.proofs.IndexLemmas.{latest-but}
use Rattle.sr_fragments.proofs.KindLemmas.{spot_at}
use Rattle.sr_fragments.proofs.open_set.OpenSet.latest_at.Goals as goal

pub returns : goal.returns
returns c =
    let spot = spot_at c.args.parts c.args.changing in
    latest-but c.self.inside.open spot c.args.other_than (found c.self.inside.index)
    c.self.invariant.same
    c.latest_but.result c.latest_but.ensures
    ∙ ap (λ (open_trx : Open). latest_at spot (fragments_but open_trx c.args.other_than))
    c.self.view_is
