use Rattle.std.proofs.Common.{◌≡◌, cond, take, None}
use Rattle.sr_fragments.specs.declared.spot.Place.{Place}
use Rattle.sr_fragments.specs.HeldIndex.{found, IsIndex}
use Rattle.sr_fragments.specs.OpenSet.{is_place_of}
use Rattle.sr_fragments.proofs.open_set.forget_all.Given as goal

-- the fragments so far are forgotten
abbrev pub invariant-loop-fragment : goal.invariant-loop-fragment
invariant-loop-fragment l = record {
  index : IsIndex l.index;
  found : (p : Place) → found l.index p
      ≡ cond (is_place_of l.trx (take l.fragment-index l.fragments) p) None (found l.fn.index p);
}
