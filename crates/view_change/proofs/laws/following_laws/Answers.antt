use Rattle.view_change.proofs.FollowingLaws.{begins, follows, settled_along, items_back}
use Rattle.view_change.proofs.laws.following_laws.Goals as goal

pub returns : goal.returns
returns c = record {
  begins = begins;
  follows = follows;
  settled = settled_along;
  items = items_back;
}
