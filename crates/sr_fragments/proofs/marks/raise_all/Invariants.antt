use Rattle.std.proofs.Common.{◌≡◌, ℕ, ◌+◌, ◌≤◌, cond, length, take, Some}
use Rattle.std.specs.Prelude.{nat_eq}
use Rattle.std.specs.HashMap.{spare}
use Rattle.sr_fragments.specs.declared.spot.Place.{Place}
use Rattle.sr_fragments.specs.Spots.{mark_of}
use Rattle.sr_fragments.specs.HeldIndex.{found_in, has_in, is_in, is_number}
use Rattle.sr_fragments.proofs.MarkLemmas.{raised_mark}
use Rattle.sr_fragments.proofs.marks.raise_all.Given as goal

-- the number is the latest at the places so far, and marked alone there; at the others it is marked
-- beside what was the latest
abbrev pub invariant-loop-place : goal.invariant-loop-place
invariant-loop-place l = record {
  found : (p : Place) → found_in l.latest.entries p
      ≡ cond (is_in p (take l.place-index l.places)) (Some l.number)
      (found_in l.fn.latest.entries p);
  marked : (p : Place) (n : ℕ) → has_in l.order.keys (mark_of p n)
      ≡ raised_mark (is_in p (take l.place-index l.places)) (nat_eq l.number n) (is_in p l.places)
      (is_number n (found_in l.fn.latest.entries p));
  room : length l.places ≤ spare l.latest + l.place-index;
}
