-- the members and the floor of a fold state, and what views, reports and serials do to them
use Rattle.std.specs.Prelude.{◌≡◌, ℕ, ◌&&◌, Bool, false, nat_le, nat_lt, List, if◌then◌else◌}
use Rattle.std.specs.Option.{option_map_or}
use Rattle.std.specs.Ordering.{nat_cmp}
use Rattle.finite_map.specs.FiniteMap.{FiniteMap, empty, get, insert, computing_maps}
use Rattle.cert_meaning.specs.declared.members.Standing.{Standing}
use Rattle.cert_meaning.specs.State.{FoldState}
use Rattle.cert_meaning.specs.Fold.{members_in, with_serial, floor_over}

pub record Membership : Type 0 where
  -- the members of the last view, each with its last report and the serial of its last write set
  pub members : FiniteMap nat_cmp Standing
  -- the least report
  pub floor : ℕ

-- the part of a fold state
abbrev pub membership_of : FoldState → Membership
membership_of s = record { members = s.members; floor = s.floor }

-- before the first view
unfoldable pub no_members : Membership
no_members = record { members = empty; floor = 0 }

-- the floor is the least report; it is any number where there is no member
abbrev pub IsSettled : Membership → Type 0
IsSettled m = floor_over m.members m.floor ≡ m.floor

-- these members, over the floor before them: it stays where there is none
abbrev pub settled : FiniteMap nat_cmp Standing → ℕ → Membership
settled members floor = record { members = members; floor = floor_over members floor }

-- the members are those of the view with this number
abbrev pub viewed : Membership → ℕ → List ℕ → Membership
viewed m number listed = settled (members_in m.members number listed) m.floor

-- whether a report with this number counts: it is a member's, not below the member's last one,
-- and below its own number
abbrev pub is_taken : FiniteMap nat_cmp Standing → ℕ → ℕ → ℕ → Bool
is_taken members number member report =
    option_map_or
    (λ (standing : Standing). nat_le standing.report report && nat_lt report number)
    (get members member) false

-- a member's last report is this one
abbrev pub with_report : FiniteMap nat_cmp Standing → ℕ → ℕ → FiniteMap nat_cmp Standing
with_report members member report =
    option_map_or
    (λ (standing : Standing). insert members member (record standing { report = report }))
    (get members member) members

-- a member reports; a report that does not count changes nothing
abbrev pub reported : Membership → ℕ → ℕ → ℕ → Membership
reported m number member report =
    if is_taken m.members number member report
    then settled (with_report m.members member report) m.floor else m

-- a member's last serial is this one; no other number is a member's
abbrev pub counted : Membership → ℕ → ℕ → Membership
counted m member serial = record m { members = with_serial m.members member serial }

-- what a worked example unfolds
unfoldable pub computing_members : Unit {0}
unfolding computing_maps no_members
computing_members = tt
