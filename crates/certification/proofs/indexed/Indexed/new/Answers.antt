use Rattle.std.proofs.Common.{◌≡◌, List, []}
use Rattle.finite_map.specs.FiniteMap.{empty}
use Rattle.cert_meaning.specs.declared.items.CommitItem.{CommitItem}
use Rattle.cert_meaning.specs.State.{FoldState, no_events}
use Rattle.sr_fragments.specs.OpenSet.{Open}
use Rattle.view_change.specs.Membership.{Membership, no_members}
use Rattle.certification.proofs.indexed.Indexed.new.Goals as goal

made : (m : Membership) (open_trx : Open) (cs : List CommitItem) → m ≡ no_members → open_trx ≡ empty → cs ≡ []
    → ◌≡◌ {A = FoldState} (record { number = 0; floor = m.floor; version = 0; members = m.members; rows = empty; commits = cs; open_trx = open_trx }) no_events
unfolding no_members no_events
made m open_trx cs members none no_commits = λ i. record {
  number = 0;
  floor = (members i).floor;
  version = 0;
  members = (members i).members;
  rows = empty;
  commits = no_commits i;
  open_trx = none i;
}

pub returns : goal.returns
returns c = made c.in_ok-new.field-0 c.in_ok-new-2.field-0 c.new-3.result.items c.in_ok-new.ensures.members c.in_ok-new-2.ensures.empty c.new-3.ensures.items
