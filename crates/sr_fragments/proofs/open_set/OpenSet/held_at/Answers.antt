-- A row's key is looked up at its own parts and at its table.
use Rattle.std.proofs.Common.{◌∙◌, ap}
use Rattle.key_sets.specs.declared.kind.Kind.TheVariants.{Shared}
use Rattle.key_sets.specs.declared.parts.Parts.{Parts}
use Rattle.cert_meaning.specs.Extremes.{greater}
use Rattle.cert_meaning.specs.State.{fragments_but}
use Rattle.sr_fragments.specs.OpenSet.{latest, pair_meets}
use Rattle.sr_fragments.proofs.MeetLemmas.{latest-row, latest-table}
use Rattle.sr_fragments.proofs.open_set.OpenSet.held_at.Goals as goal
use Rattle.sr_fragments.proofs.open_set.OpenSet.held_at.Goals.{in-Some, in-None}

pub returns : goal.returns
returns c =
    let parts = c.args.parts.now in
    let others = fragments_but c.args.self.now c.args.other_than in
    elim c.match-parts.branch [
      | in-Some w ↦ let at_table = w.at_table-is ∙ w.held_by_kind-at_table.ensures
          ∙ ap (λ (p : Parts). latest (pair_meets (p, Shared)) others) w.table_parts.ensures in
          c.greater.ensures ∙ (λ i. greater (c.held_by_kind-own.ensures i) (at_table i))
          ∙ latest-row parts c.args.kind w.in-Some.field-0 w.in-Some.is others
      | in-None w ↦ c.greater.ensures
          ∙ (λ i. greater (c.held_by_kind-own.ensures i) (w.at_table-is i))
          ∙ latest-table parts c.args.kind w.in-None.is others
    ]
