-- The members and the floor follow a fold, and are given back by their items.
use Rattle.std.proofs.Common.{◌≡◌, ℕ, zero, suc, ◌+◌, Bool, true, false, cond, List, [], ◌∷◌, Option, None, Some, refl, sym, subst, ap, ◌∙◌}
use Rattle.std.specs.Prelude.{◌&&◌, nat_le, nat_lt, map, slice_get, unwrap_or}
use Rattle.std.specs.List.Sorted.{IsStrictlySortedBy}
use Rattle.std.specs.Option.{option_map_or}
use Rattle.std.specs.Ordering.{nat_cmp}
use Rattle.std.specs.Cmp.{nat_cmp_total}
use Rattle.std.specs.FinMap.{nat_cmp-IsAntisymmetric}
use Rattle.std.specs.Map.{keys_of}
use Rattle.finite_map.specs.FiniteMap.{FiniteMap, empty, get, insert, from_entries, get-entries, get-from_entries, same_map}
use Rattle.wsrep_base.specs.Trx.{least}
use Rattle.order_event.specs.declared.event.Event.{Event}
use Rattle.order_event.specs.declared.event.Event.TheVariants.{Write, View, Report}
use Rattle.write_set.specs.declared.write_set.WriteSet.{WriteSet}
use Rattle.write_set.specs.Reading.{decoded}
use Rattle.cert_meaning.specs.declared.members.Standing.{Standing}
use Rattle.cert_meaning.specs.declared.parts.MemberItem.{MemberItem}
use Rattle.cert_meaning.specs.State.{FoldState, no_events}
use Rattle.cert_meaning.specs.Fold.{Effect, Same, Closes, Adds, Commits, effect_of, judged, judged_write, affected, written, with_serial, changed_by, after, after_next, state_at, settled as fold_settled, reported as fold_reported}
use Rattle.cert_meaning.specs.Parts.{member_item, member_entry, member_items, members_of}
use Rattle.cert_meaning.proofs.TreeLemmas.{entries-tree}
use Rattle.view_change.specs.Membership.{membership_of, no_members, IsSettled, settled, counted}
use Rattle.view_change.specs.Following.{counts_serial, after_write, after_event, BeginsEmpty, FollowsTheFold, SettledAlong, ItemsComeBack}
use Rattle.view_change.proofs.FloorLemmas.{reports_at, serial_keeps_floor}

-- ---- before the first event, and at every point of an order
pub begins : BeginsEmpty
unfolding no_events no_members
begins = refl

least_stays : (o : Option ℕ) (floor : ℕ) → unwrap_or o (unwrap_or o floor) ≡ unwrap_or o floor
least_stays None floor = refl
least_stays (Some n) floor = refl

settled_after : (s : FoldState) (event : Event) → IsSettled (membership_of (after s event))
unfolding after
settled_after s event =
    let standings = map (λ e. e.1) (changed_by s event).members.entries in
    least_stays (least (map (λ (standing : Standing). standing.report) standings))
    (changed_by s event).floor

settled_next : (s : FoldState) (o : Option Event) → IsSettled (membership_of s)
    → IsSettled (membership_of (after_next s o))
settled_next s None is = is
settled_next s (Some event) is = settled_after s event

pub settled_along : SettledAlong
unfolding state_at no_events empty
settled_along order zero = refl
settled_along order (suc n) =
    settled_next (state_at order n) (slice_get order n) (settled_along order n)

-- ---- one event
module _ (s : FoldState) (is_settled : IsSettled (membership_of s)) where
  -- an event that leaves the members leaves the floor
  unchanged : membership_of (fold_settled s) ≡ membership_of s
  unchanged = ap (λ floor. record { members = s.members; floor = floor }) is_settled

  serial_counted : (w : WriteSet)
      → settled (with_serial s.members w.member w.serial) s.floor
      ≡ counted (membership_of s) w.member w.serial
  serial_counted w =
      ap (λ floor. record { members = with_serial s.members w.member w.serial; floor = floor })
      (serial_keeps_floor s.members w.member w.serial s.floor ∙ is_settled)

  by_effect : (w : WriteSet) (effect : Effect)
      → membership_of (fold_settled (affected s w effect))
      ≡ cond (counts_serial effect) (counted (membership_of s) w.member w.serial) (membership_of s)
  by_effect w Same = unchanged
  by_effect w Closes = serial_counted w
  by_effect w Adds = serial_counted w
  by_effect w Commits = serial_counted w

  by_write : (member : ℕ) (o : Option WriteSet)
      → membership_of (fold_settled (written s member o))
      ≡ after_write (membership_of s) (judged_write s member o) o
  by_write member None = unchanged
  by_write member (Some w) = by_effect w (effect_of (judged_write s member (Some w)))

  by_taken : (members : FiniteMap nat_cmp Standing) (taken : Bool)
      → membership_of (fold_settled (cond taken (record s { members = members }) s))
      ≡ cond taken (settled members s.floor) (membership_of s)
  by_taken members true = refl
  by_taken members false = unchanged

  by_report : (member report : ℕ) (o : Option Standing)
      → membership_of (fold_settled (fold_reported s member report o))
      ≡ cond
      (option_map_or
      (λ (standing : Standing). nat_le standing.report report && nat_lt report (s.number + 1))
      o false)
      (settled (reports_at s.members member report o) s.floor) (membership_of s)
  by_report member report None = unchanged
  by_report member report (Some standing) =
      by_taken (insert s.members member (record standing { report = report }))
      (nat_le standing.report report && nat_lt report (s.number + 1))

  by_event : (event : Event)
      → membership_of (after s event)
      ≡ after_event (membership_of s) (s.number + 1) (judged s event) event
  unfolding after judged
  by_event (Write member body) = by_write member (decoded body)
  by_event (View version listed) = refl
  by_event (Report member report) = by_report member report (get s.members member)

pub follows : FollowsTheFold
follows s event is_settled = by_event s is_settled event

-- ---- the items
entries_again : (entries : List (ℕ × Standing))
    → map member_entry (map member_item entries) ≡ entries
entries_again [] = refl
entries_again (entry ∷ entries) = ap (λ others. entry ∷ others) (entries_again entries)

items_again : (items : List MemberItem) → map member_item (map member_entry items) ≡ items
items_again [] = refl
items_again (item ∷ items) = ap (λ others. item ∷ others) (items_again items)

keys_again : (items : List MemberItem)
    → keys_of (map member_entry items) ≡ map (λ (item : MemberItem). item.member) items
keys_again [] = refl
keys_again (item ∷ items) = ap (λ others. item.member ∷ others) (keys_again items)

own_entries : (members : FiniteMap nat_cmp Standing) → from_entries members.entries ≡ members
own_entries members =
    same_map nat_cmp_total nat_cmp-IsAntisymmetric (from_entries members.entries) members (λ q.
    get-from_entries nat_cmp_total members.entries q ∙ sym (get-entries members q))

-- what is made of the items of members has these members
pub members_back : (members : FiniteMap nat_cmp Standing)
    → members_of (member_items members) ≡ members
members_back members =
    ap (λ entries. from_entries entries) (entries_again members.entries) ∙ own_entries members

-- the same, by a name that a function can cite
pub ruleset members_again = (members_back)

pub items_back : ItemsComeBack
items_back items rise =
    let sorted = subst (IsStrictlySortedBy nat_cmp) (sym (keys_again items)) rise in
    ap (map member_item) (entries-tree nat_cmp_total (map member_entry items) sorted)
    ∙ items_again items
