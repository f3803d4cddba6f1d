-- The latest fragment of each transaction at each spot: a table says its number, and marks in
-- order say the same.
use Rattle.std.specs.Prelude.{◌≡◌, ℕ, ◌≤◌, Bool, true, false, not, cond, ◌&&◌, ◌||◌, nat_eq, nat_lt, List, Option, None, Some}
use Rattle.std.specs.Bool.{beq}
use Rattle.std.specs.List.{list_any}
use Rattle.std.specs.Map.{lookup}
use Rattle.std.specs.Ordering.{is_lt}
use Rattle.std.specs.BTreeMap.{is_at}
use Rattle.std.specs.BTreeMap.Range.{IsLeBy, IsLtBy}
use Rattle.wsrep_base.specs.declared.ids.TrxId.{TrxId}
use Rattle.wsrep_base.specs.Trx.{same_trx}
use Rattle.key_sets.specs.declared.kind.Kind.{Kind}
use Rattle.key_sets.specs.declared.parts.Parts.{Parts}
use Rattle.key_sets.specs.Keys.{pairs_of_key}
use Rattle.key_sets.specs.Parts.{parts_eq, same_parts}
use Rattle.sr_fragments.specs.declared.spot.Spot.{Spot}
use Rattle.sr_fragments.specs.declared.spot.Place.{Place}
use Rattle.sr_fragments.specs.declared.spot.Mark.{Mark}
use Rattle.sr_fragments.specs.declared.held_index.HeldIndex.{HeldIndex}
use Rattle.sr_fragments.specs.Spots.{is_changing, mark_cmp, mark_of, place_at}

-- what the derived `==` of two places computes
abbrev pub place_eq : Place → Place → Bool
place_eq p q =
    (parts_eq p.spot.parts q.spot.parts && beq p.spot.changing q.spot.changing)
    && (nat_eq p.trx.member q.trx.member && nat_eq p.trx.begin q.trx.begin)

-- whether a kind at some parts is at the spot
abbrev pub is_pair_at : Spot → Parts × Kind → Bool
is_pair_at spot pair = same_parts pair.0 spot.parts && beq (is_changing pair.1) spot.changing

-- whether a key is at the spot, by itself or at its table
abbrev pub is_key_at : Spot → Parts × Kind → Bool
is_key_at spot key = list_any (is_pair_at spot) (pairs_of_key key)

-- whether the place is the transaction's, and one of these keys is at its spot
abbrev pub is_place : TrxId → List (Parts × Kind) → Place → Bool
is_place trx keys p = same_trx trx p.trx && list_any (is_key_at p.spot) keys

-- whether the place is one of the list
abbrev pub is_in : Place → List Place → Bool
is_in p places = list_any (λ q. place_eq q p) places

-- whether a mark is among those in order
abbrev pub has_in : List Mark → Mark → Bool
has_in marks m = list_any (is_at (mark_cmp m)) marks

-- the number at the place
abbrev pub found_in : List (Place × ℕ) → Place → Option ℕ
found_in latest p = lookup (place_eq p) latest

abbrev pub found : HeldIndex → Place → Option ℕ
found index p = found_in index.latest.entries p

-- whether the number is above what is there, if there is one
abbrev pub is_rising : ℕ → Option ℕ → Bool
is_rising number None = true
is_rising number (Some latest) = nat_lt latest number

-- the greater of the number and what is there
abbrev pub risen : ℕ → Option ℕ → Option ℕ
risen number latest = cond (is_rising number latest) (Some number) latest

-- whether there is a number and it is this one
abbrev pub is_number : ℕ → Option ℕ → Bool
is_number n None = false
is_number n (Some number) = nat_eq number n

-- whether what is there is this number, and another takes its place
abbrev pub is_replaced : ℕ → ℕ → Option ℕ → Bool
is_replaced n number latest = is_number n latest && not (nat_eq number n)

-- the number is above all that is there
abbrev pub AreRising : (Place → Option ℕ) → List Place → ℕ → Type 0
AreRising latest places number =
    (p : Place) → is_in p places ≡ true → is_rising number (latest p) ≡ true

-- the marks say what the table says
abbrev pub IsMarked : List Mark → (Place → Option ℕ) → Type 0
IsMarked marks latest =
    (p : Place) (n : ℕ) → has_in marks (mark_of p n) ≡ is_number n (latest p)

-- they also have the number at these places
abbrev pub IsMarkedToo : List Mark → (Place → Option ℕ) → List Place → ℕ → Type 0
IsMarkedToo marks latest places number =
    (p : Place) (n : ℕ) → has_in marks (mark_of p n)
    ≡ (nat_eq number n && is_in p places) || is_number n (latest p)

abbrev pub IsIndex : HeldIndex → Type 0
IsIndex index = IsMarked index.order.keys (found index)

abbrev pub IsPrepared : HeldIndex → List Place → ℕ → Type 0
IsPrepared index places number = IsMarkedToo index.order.keys (found index) places number

-- the greatest of the marks from one on and before another, if there is one
abbrev pub IsGreatestMark : List Mark → Mark → Mark → Option Mark → Type 0
IsGreatestMark marks from end None =
    (q : Mark) → IsLeBy mark_cmp from q → IsLtBy mark_cmp q end → has_in marks q ≡ false
IsGreatestMark marks from end (Some m) =
    IsLeBy mark_cmp from m × IsLtBy mark_cmp m end × (has_in marks m ≡ true)
    × ((q : Mark) → IsLeBy mark_cmp from q → IsLtBy mark_cmp q end → has_in marks q ≡ true
    → is_lt (mark_cmp m q) ≡ false)

-- another transaction has the number at the spot, and none has a greater one
pub record IsTopBut (latest : Place → Option ℕ) (spot : Spot) (trx : TrxId) (top : ℕ) : Type 0 where
  pub of : TrxId
  pub other : same_trx trx of ≡ false
  pub has : latest (place_at spot of) ≡ Some top
  pub most : (t : TrxId) (n : ℕ) → same_trx trx t ≡ false → latest (place_at spot t) ≡ Some n
      → n ≤ top

-- the greatest number of another transaction at the spot, if there is one
abbrev pub IsLatestBut : (Place → Option ℕ) → Spot → TrxId → Option ℕ → Type 0
IsLatestBut latest spot trx None =
    (t : TrxId) → same_trx trx t ≡ false → latest (place_at spot t) ≡ None
IsLatestBut latest spot trx (Some top) = IsTopBut latest spot trx top
