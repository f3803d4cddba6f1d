-- the states of an order, and their snapshots
use Rattle.std.specs.Prelude.{◌≡◌, ℕ, ◌<◌, ◌≤◌, ◌^◌, List, length, slice_get, slice_index, Some}
use Rattle.std.specs.List.{AllByRecursion}
use Rattle.wsrep_base.specs.declared.limits.TheConstants.{MOST_EVENTS}
use Rattle.order_event.specs.declared.event.Event.{Event}
use Rattle.order_event.specs.declared.event.Event.TheVariants.{Write, View}
use Rattle.cert_meaning.specs.Parts.{parts_of, trim}
use Rattle.cert_meaning.specs.Fold.{state_at}
use Rattle.state_snapshot.specs.Rules.{AreCounted, Obeys}
use Rattle.state_snapshot.specs.Laws.{PartsInRange}

-- the members of each view of an order are so few that a count in four bytes says how many; its
-- numbers are those of their types, and the bodies of write sets are bytes
pub record OrderFits (order : List Event) : Type 0 where
  pub views : (k version : ℕ) (members : List ℕ) → slice_get order k ≡ Some (View version members)
      → AreCounted members
  pub versions : (k version : ℕ) (members : List ℕ)
      → slice_get order k ≡ Some (View version members) → version < 2 ^ 32
  pub members : (k version : ℕ) (members : List ℕ)
      → slice_get order k ≡ Some (View version members)
      → AllByRecursion (λ member. member < 2 ^ 32) members
  pub bodies : (k member : ℕ) (body : List ℕ) → slice_get order k ≡ Some (Write member body)
      → (i : ℕ) → slice_index body i < 256

-- at each point of each order within the limits the trimmed state meets the rules of a snapshot
abbrev pub SnapshotCanBeTaken : Type 0
SnapshotCanBeTaken =
    (order : List Event) (n : ℕ) → n ≤ length order → n ≤ MOST_EVENTS → OrderFits order
    → Obeys (parts_of (trim (state_at order n)))

-- so it is with what holds of each value of the types
abbrev pub TrimmedIsInRange : Type 0
TrimmedIsInRange =
    (order : List Event) (n : ℕ) → n ≤ length order → n ≤ MOST_EVENTS → OrderFits order
    → PartsInRange (parts_of (trim (state_at order n)))
