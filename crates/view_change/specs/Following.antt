-- the members and the floor follow a fold, by the calls that each event asks for
use Rattle.std.specs.Prelude.{◌≡◌, ℕ, ◌+◌, Bool, true, false, List, map, Option, None, Some, if◌then◌else◌}
use Rattle.std.specs.List.Sorted.{IsStrictlySortedBy}
use Rattle.std.specs.Ordering.{nat_cmp}
use Rattle.wsrep_base.specs.declared.verdict.Judged.{Judged}
use Rattle.order_event.specs.declared.event.Event.{Event}
use Rattle.order_event.specs.declared.event.Event.TheVariants.{Write, View, Report}
use Rattle.write_set.specs.declared.write_set.WriteSet.{WriteSet}
use Rattle.write_set.specs.Reading.{decoded}
use Rattle.cert_meaning.specs.State.{FoldState, no_events}
use Rattle.cert_meaning.specs.Fold.{Effect, Same, Closes, Adds, Commits, effect_of, judged, after, state_at}
use Rattle.cert_meaning.specs.declared.parts.MemberItem.{MemberItem}
use Rattle.cert_meaning.specs.Parts.{member_items, members_of}
use Rattle.view_change.specs.Membership.{Membership, membership_of, no_members, IsSettled, viewed, reported, counted}

-- whether a write set's serial counts, by what it does to its transaction
abbrev pub counts_serial : Effect → Bool
counts_serial Same = false
counts_serial Closes = true
counts_serial Adds = true
counts_serial Commits = true

-- the call that a write set asks for, by what became of it: its serial is its member's last one,
-- unless it is malformed, a stranger's or a repeat
abbrev pub after_write : Membership → Judged → Option WriteSet → Membership
after_write m judged None = m
after_write m judged (Some w) =
    if counts_serial (effect_of judged) then counted m w.member w.serial else m

-- the call that the event with this number asks for, by what became of it
abbrev pub after_event : Membership → ℕ → Judged → Event → Membership
after_event m number judged (Write member body) = after_write m judged (decoded body)
after_event m number judged (View version listed) = viewed m number listed
after_event m number judged (Report member report) = reported m number member report

-- what are a fold state's members and floor before an event are those after it
abbrev pub FollowsTheFold : Type 0
FollowsTheFold =
    (s : FoldState) (event : Event) → IsSettled (membership_of s)
    → membership_of (after s event)
    ≡ after_event (membership_of s) (s.number + 1) (judged s event) event

-- before the first event of an order there is no member
abbrev pub BeginsEmpty : Type 0
BeginsEmpty = membership_of no_events ≡ no_members

-- at every point of an order the floor is the least report
abbrev pub SettledAlong : Type 0
SettledAlong = (order : List Event) (n : ℕ) → IsSettled (membership_of (state_at order n))

-- of what is made of items whose members rise, these are the items
abbrev pub ItemsComeBack : Type 0
ItemsComeBack =
    (items : List MemberItem)
    → IsStrictlySortedBy nat_cmp (map (λ (item : MemberItem). item.member) items)
    → member_items (members_of items) ≡ items
