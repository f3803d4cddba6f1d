-- The key of a row has two places, that of a table one.
use Rattle.std.proofs.Common.{cond, None, sym, ap, ◌∙◌}
use Rattle.key_sets.specs.declared.kind.Kind.{Kind}
use Rattle.key_sets.specs.declared.kind.Kind.TheVariants.{Shared}
use Rattle.key_sets.specs.declared.parts.Parts.{Parts}
use Rattle.sr_fragments.specs.declared.spot.Place.{Place}
use Rattle.sr_fragments.specs.Spots.{place_of}
use Rattle.sr_fragments.specs.HeldIndex.{found, place_eq}
use Rattle.sr_fragments.proofs.PlaceLemmas.{forgotten-row, forgotten-table}
use Rattle.sr_fragments.proofs.held_index.HeldIndex.forget_key.Goals as goal

pub returns-then-is_some-clause-found : goal.returns-then-is_some-clause-found
returns-then-is_some-clause-found c = λ p.
    let key : Parts × Kind = (c.args.parts.now, c.args.kind) in
    let first = found c.forget_place.new.self p in
    forgotten-row c.args.trx key p (found c.args.self.now p) first _
    (sym c.is_some.ensures ∙ c.if-is_some.true)
    (c.forget_place.ensures.found p
    ∙ ap (λ (q : Place). cond (place_eq q p) None (found c.args.self.now p)) c.of.ensures)
    (c.forget_place-then-is_some.ensures.found p
    ∙ ap (λ (q : Place). cond (place_eq q p) None first)
    (c.of-then-is_some.ensures
    ∙ ap (λ (t : Parts). place_of c.args.trx (t, Shared)) c.table_parts-table.ensures))

pub returns-else-is_some-clause-found : goal.returns-else-is_some-clause-found
returns-else-is_some-clause-found c = λ p.
    let key : Parts × Kind = (c.args.parts.now, c.args.kind) in
    forgotten-table c.args.trx key p (found c.args.self.now p) _
    (sym c.is_some.ensures ∙ c.if-is_some.false)
    (c.forget_place.ensures.found p
    ∙ ap (λ (q : Place). cond (place_eq q p) None (found c.args.self.now p)) c.of.ensures)
