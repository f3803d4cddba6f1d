-- A changing kind touches both spots, a shared one the changing spot alone.
use Rattle.std.proofs.Common.{sym, ◌∙◌}
use Rattle.cert_meaning.specs.Extremes.{greater}
use Rattle.cert_meaning.specs.State.{fragments_but}
use Rattle.sr_fragments.proofs.KindLemmas.{latest-changing, latest-shared}
use Rattle.sr_fragments.proofs.open_set.OpenSet.held_by_kind.Goals as goal

pub returns-then-is_changing : goal.returns-then-is_changing
returns-then-is_changing c =
    c.greater.ensures
    ∙ (λ i. greater (c.latest_at.ensures i) (c.latest_at-changing.ensures i))
    ∙ latest-changing c.args.parts c.args.kind (sym c.is_changing.ensures ∙ c.if-is_changing.true)
    (fragments_but c.args.self.now c.args.other_than)

pub returns-else-is_changing : goal.returns-else-is_changing
returns-else-is_changing c =
    c.latest_at-changing.ensures
    ∙ latest-shared c.args.parts c.args.kind (sym c.is_changing.ensures ∙ c.if-is_changing.false)
    (fragments_but c.args.self.now c.args.other_than)
