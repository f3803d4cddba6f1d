use Rattle.std.proofs.Common.{◌≡◌, ℕ, ◌&&◌, ◌||◌, take}
use Rattle.std.specs.Prelude.{nat_eq}
use Rattle.sr_fragments.specs.declared.spot.Place.{Place}
use Rattle.sr_fragments.specs.Spots.{mark_of}
use Rattle.sr_fragments.specs.HeldIndex.{has_in, is_in}
use Rattle.sr_fragments.proofs.marks.mark_all.Given as goal

-- the places so far are marked
abbrev pub invariant-loop-place : goal.invariant-loop-place
invariant-loop-place l =
    (p : Place) (n : ℕ) → has_in l.order.keys (mark_of p n)
    ≡ (nat_eq l.number n && is_in p (take l.place-index l.places))
    || has_in l.fn.order.keys (mark_of p n)
