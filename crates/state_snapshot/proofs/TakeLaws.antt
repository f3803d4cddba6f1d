-- At each point of an order the trimmed state meets the rules of a snapshot.
use Rattle.state_snapshot.specs.Orders.{SnapshotCanBeTaken}
use Rattle.state_snapshot.proofs.OrderLaws.{numbers_fit, members_fit, commits_fit, stand_in_order}
use Rattle.state_snapshot.proofs.TrxLaws.{open_fit}
use Rattle.state_snapshot.proofs.SizeLaws.{items_are_counted}
use Rattle.state_snapshot.proofs.FormLaws.{have_their_form}

pub can_be_taken : SnapshotCanBeTaken
can_be_taken order n there few fits =
    let numbers = numbers_fit order n there few fits in
    let commits = commits_fit order n there few fits in
    let counted = items_are_counted order n there few fits in
    let formed = have_their_form order n there few fits in
    let stand = stand_in_order order n there few fits in
    record {
      number = numbers.0;
      floor = numbers.1;
      members = members_fit order n there few fits;
      rows = record { counted = counted.0; rise = stand.0; named = formed.0 };
      commits = record { counted = commits.0; rise = commits.1; keyed = formed.1 };
      open_counted = counted.1;
      open_rise = stand.1;
      open_trx = open_fit order n there few fits;
    }
