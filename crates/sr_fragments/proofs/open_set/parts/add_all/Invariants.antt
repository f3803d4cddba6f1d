use Rattle.std.proofs.Common.{◌≡◌, take}
use Rattle.cert_meaning.specs.Extremes.{greater}
use Rattle.sr_fragments.specs.declared.spot.Place.{Place}
use Rattle.sr_fragments.specs.HeldIndex.{found, IsIndex}
use Rattle.sr_fragments.specs.OpenSet.{latest, stands_of}
use Rattle.sr_fragments.proofs.open_set.parts.add_all.Given as goal

-- the fragments so far are added
abbrev pub invariant-loop-fragment : goal.invariant-loop-fragment
invariant-loop-fragment l = record {
  index : IsIndex l.index;
  found : (p : Place) → found l.index p
      ≡ greater (found l.fn.index p) (latest (stands_of l.trx p) (take l.fragment-index l.fragments));
}
