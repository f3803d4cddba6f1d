-- Each turn adds the places of one key more.
use Rattle.std.proofs.Common.{◌≡◌, ◌&&◌, ◌||◌, get_or, ap, sym, ◌∙◌}
use Rattle.key_sets.specs.declared.kind.Kind.TheVariants.{Shared}
use Rattle.key_sets.specs.declared.parts.Parts.{Parts}
use Rattle.sr_fragments.specs.declared.spot.Place.{Place}
use Rattle.sr_fragments.specs.Spots.{place_of}
use Rattle.sr_fragments.specs.HeldIndex.{found, is_in, is_rising, place_eq}
use Rattle.sr_fragments.proofs.PlaceLemmas.{blank_key, rising-row, rising-table}
use Rattle.sr_fragments.proofs.held_index.HeldIndex.rising.Goals as goal
use Rattle.sr_fragments.proofs.held_index.HeldIndex.rising.Goals.{then-is_some+in_ok-add_rising-2, else-is_some}

pub loop-parts-preserved : goal.loop-parts-preserved
loop-parts-preserved c = λ p.
    let keys = c.as_slice-parts-items.result.now in
    let i = c.loop-parts.parts-index in
    let key = get_or keys i blank_key in
    let rises = is_rising c.args.number (found c.args.self.now p) in
    let before = is_in p c.loop-parts.places.items in
    let one : is_in p c.add_rising.new.places.items
    ≡ (place_eq (place_of c.args.trx key) p && rises) || before =
    c.in_ok-add_rising.ensures p
    ∙ ap (λ (q : Place). (place_eq q p && rises) || before) c.of.ensures in
    elim c.if-is_some.branch [
      | then-is_some+in_ok-add_rising-2 w ↦
          ap (λ places. is_in p places.items) w.places-is
          ∙ rising-row c.args.trx keys i blank_key p rises before _ _ c.loop-parts-test.true
          (sym c.is_some.ensures ∙ w.if-is_some.true) (c.loop-parts.invariant p) one
          (w.in_ok-add_rising-2.ensures p
          ∙ ap (λ (q : Place). (place_eq q p && rises) || is_in p c.add_rising.new.places.items)
          (w.of-then-is_some.ensures
          ∙ ap (λ (t : Parts). place_of c.args.trx (t, Shared)) w.table_parts-table.ensures))
      | else-is_some w ↦
          ap (λ places. is_in p places.items) w.places-is
          ∙ rising-table c.args.trx keys i blank_key p rises before _ c.loop-parts-test.true
          (sym c.is_some.ensures ∙ w.if-is_some.false) (c.loop-parts.invariant p) one
    ]
