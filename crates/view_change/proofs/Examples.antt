-- A worked course of members, by computing the definitions.
use Rattle.std.proofs.Common.{◌≡◌, ℕ, true, false, [], ◌∷◌, refl}
use Rattle.cert_meaning.specs.declared.parts.MemberItem.{MemberItem}
use Rattle.cert_meaning.specs.Parts.{member_items}
use Rattle.view_change.specs.Membership.{Membership, no_members, viewed, is_taken, reported, counted, computing_members}

item : ℕ → ℕ → ℕ → MemberItem
item member report serial = record { member = member; report = report; serial = serial }

-- members 1 to 3 begin at event 1; at event 6 member 2 has reported 4, and its last serial is 7
begun : Membership
begun = counted (reported (viewed no_members 1 (1 ∷ 2 ∷ 3 ∷ [])) 6 2 4) 2 7

begun_is : member_items begun.members ≡ item 1 1 0 ∷ item 2 4 7 ∷ item 3 1 0 ∷ []
unfolding computing_members begun item
begun_is = refl

begun_floor : begun.floor ≡ 1
unfolding computing_members begun
begun_floor = refl

-- a report is below its own number, and not below the last one
own_number : is_taken begun.members 6 1 6 ≡ false
unfolding computing_members begun
own_number = refl

lower_report : is_taken begun.members 6 2 3 ≡ false
unfolding computing_members begun
lower_report = refl

same_report : is_taken begun.members 6 2 4 ≡ true
unfolding computing_members begun
same_report = refl

-- at event 8 members 1 and 3 have left, and member 4 begins there
gone_on : Membership
gone_on = viewed begun 8 (2 ∷ 4 ∷ [])

gone_on_is : member_items gone_on.members ≡ item 2 4 7 ∷ item 4 8 0 ∷ []
unfolding computing_members begun gone_on item
gone_on_is = refl

gone_on_floor : gone_on.floor ≡ 4
unfolding computing_members begun gone_on
gone_on_floor = refl

-- all leave: the floor stays
all_left : (viewed gone_on 9 []).floor ≡ 4
unfolding computing_members begun gone_on
all_left = refl
