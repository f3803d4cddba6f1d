use Rattle.std.proofs.Common.{◌≡◌, take}
use Rattle.sr_fragments.specs.declared.spot.Place.{Place}
use Rattle.sr_fragments.specs.HeldIndex.{found, is_in, is_rising}
use Rattle.sr_fragments.proofs.PlaceLemmas.{rising_keys}
use Rattle.sr_fragments.proofs.held_index.HeldIndex.rising.Given as goal

-- the places of the keys so far
abbrev pub invariant-loop-parts : goal.invariant-loop-parts
invariant-loop-parts l =
    (p : Place) → is_in p l.places.items
    ≡ rising_keys l.trx (take l.parts-index l.parts-items) p (is_rising l.number (found l.self p))
