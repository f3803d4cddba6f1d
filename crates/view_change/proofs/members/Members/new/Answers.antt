use Rattle.std.proofs.Common.{ap}
use Rattle.finite_map.specs.FiniteMap.{empty}
use Rattle.cert_meaning.specs.Fold.{floor_over}
use Rattle.view_change.specs.Membership.{Membership, no_members}
use Rattle.view_change.proofs.members.Members.new.Goals as goal

pub invariant_of-result : goal.invariant_of-result
unfolding empty
invariant_of-result c = ap (λ members. floor_over members 0) c.new.ensures

pub returns-clause-members : goal.returns-clause-members
unfolding no_members
returns-clause-members c =
    ap {B = Membership} (λ members. record { members = members; floor = 0 }) c.new.ensures
