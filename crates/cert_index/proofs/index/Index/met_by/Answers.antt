-- A row's key is looked up at its own parts and at its table.
use Rattle.std.proofs.Common.{◌∙◌, ap}
use Rattle.key_sets.specs.declared.kind.Kind.TheVariants.{Shared}
use Rattle.key_sets.specs.declared.parts.Parts.{Parts}
use Rattle.key_sets.specs.Probes.{kind_test}
use Rattle.cert_meaning.specs.Extremes.{greater}
use Rattle.cert_index.specs.Index.{latest}
use Rattle.cert_index.specs.Table.{pair_meets}
use Rattle.cert_index.proofs.MeetLemmas.{latest-row, latest-table}
use Rattle.cert_index.proofs.index.Index.met_by.Goals as goal
use Rattle.cert_index.proofs.index.Index.met_by.Goals.{in-Some, in-None}

pub returns-clause-latest : goal.returns-clause-latest
returns-clause-latest g c =
    let test = kind_test c.args.relation in
    let parts = c.args.parts.now in
    let kept = c.args.self.now in
    elim c.match-parts.branch [
      | in-Some w ↦ let at_table = w.at_table-is ∙ w.met_at-at_table.ensures.latest
          ∙ ap (λ (p : Parts). latest (pair_meets test (p, Shared)) kept) w.table_parts.ensures in
          c.greater.ensures ∙ (λ i. greater (c.met_at-own.ensures.latest i) (at_table i))
          ∙ latest-row test parts c.args.kind w.in-Some.field-0 w.in-Some.is kept
      | in-None w ↦ c.greater.ensures ∙ (λ i. greater (c.met_at-own.ensures.latest i) (w.at_table-is i))
          ∙ latest-table test parts c.args.kind w.in-None.is kept
    ]
