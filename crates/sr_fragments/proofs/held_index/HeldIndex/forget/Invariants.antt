use Rattle.std.proofs.Common.{◌≡◌, cond, drop, None}
use Rattle.sr_fragments.specs.declared.spot.Place.{Place}
use Rattle.sr_fragments.specs.HeldIndex.{found, is_place, IsIndex}
use Rattle.sr_fragments.proofs.held_index.HeldIndex.forget.Given as goal

-- the keys that are left are still to be forgotten
abbrev pub invariant-loop-parts : goal.invariant-loop-parts
invariant-loop-parts l = record {
  index : IsIndex l.self;
  found : (p : Place) → cond (is_place l.trx (drop l.parts-index l.parts-items) p) None (found l.self p)
      ≡ cond (is_place l.trx l.parts-items p) None (found l.initial.self p);
}
