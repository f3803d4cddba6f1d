-- Rules of a snapshot, a few at a time, at each point of an order.
use Rattle.std.proofs.Common.{ℕ, ◌≤◌, List, length, None}
use Rattle.std.specs.Prelude.{IsTrue}
use Rattle.std.specs.List.{AllByRecursion}
use Rattle.wsrep_base.specs.declared.limits.TheConstants.{MOST_EVENTS}
use Rattle.row_model.specs.declared.row.RowItem.{RowItem}
use Rattle.order_event.specs.declared.event.Event.{Event}
use Rattle.write_set.specs.Rules.{place_fits}
use Rattle.write_set.specs.Laws.{AreKeys}
use Rattle.cert_meaning.specs.declared.items.CommitItem.{CommitItem}
use Rattle.cert_meaning.specs.declared.parts.StateParts.{StateParts}
use Rattle.cert_meaning.specs.State.{RiseWithin}
use Rattle.cert_meaning.specs.Parts.{parts_of, trim}
use Rattle.cert_meaning.specs.Fold.{state_at}
use Rattle.state_snapshot.specs.Rules.{AreCounted, MembersObey, RowsRise, OpenObeys, OpenRise}
use Rattle.state_snapshot.specs.Orders.{OrderFits}

-- the rule holds of the parts of the trimmed state at each point of each order within the limits
abbrev pub HoldsAtEach : (StateParts → Type 0) → Type 0
HoldsAtEach rule =
    (order : List Event) (n : ℕ) → n ≤ length order → n ≤ MOST_EVENTS → OrderFits order
    → rule (parts_of (trim (state_at order n)))

-- the number of the state is within its limit, and the floor within it
abbrev pub NumbersFit : StateParts → Type 0
NumbersFit parts = (parts.number ≤ MOST_EVENTS) × (parts.floor ≤ parts.number)

-- the members meet their rules
abbrev pub MembersFit : StateParts → Type 0
MembersFit parts = MembersObey parts.number parts.floor parts.members

-- the commits are few, and rise from the floor to the number of the state
abbrev pub CommitsFit : StateParts → Type 0
CommitsFit parts =
    AreCounted parts.commits × RiseWithin parts.floor parts.number parts.commits

-- each open transaction meets the rules
abbrev pub OpenFit : StateParts → Type 0
OpenFit parts =
    AllByRecursion (OpenObeys parts.number parts.members) parts.open_trx

-- rows and open transactions are so few that counts in four bytes say how many
abbrev pub ItemsAreCounted : StateParts → Type 0
ItemsAreCounted parts = AreCounted parts.rows × AreCounted parts.open_trx

-- the names of rows and the keys of commits have their form
abbrev pub HaveTheirForm : StateParts → Type 0
HaveTheirForm parts =
    AllByRecursion (λ (item : RowItem). IsTrue (place_fits item.id)) parts.rows
    × AllByRecursion (λ (commit : CommitItem). AreKeys commit.keys) parts.commits

-- rows and open transactions stand in their order
abbrev pub StandInOrder : StateParts → Type 0
StandInOrder parts = RowsRise None parts.rows × OpenRise None parts.open_trx
