-- what a node sends, and what that leaves of it
use Rattle.std.specs.Prelude.{ℕ, ◌+◌, Option, Some, None}
use Rattle.std.specs.Ordering.{nat_cmp}
use Rattle.finite_map.specs.FiniteMap.{FiniteMap, insert}
use Rattle.order_event.specs.declared.event.Message.TheVariants as message
use Rattle.write_set.specs.declared.write_set.WriteSet.{WriteSet}
use Rattle.write_set.specs.Spelling.{spelling}
use Rattle.client_trx.specs.Live.{Live, with_status, fragment_of, fragment_sent}
use Rattle.client_trx.specs.declared.status.Status.TheVariants as status
use Rattle.client_trx.specs.declared.status.Added.{Added}
use Rattle.client_trx.specs.declared.status.Added.TheVariants as added
use Rattle.node_parts.specs.Queue.{queued}
use Rattle.node_core.specs.declared.node.NodeParts.{NodeParts}

-- a write set is sent with the next serial
abbrev pub node_sent : NodeParts → WriteSet → NodeParts
node_sent node w = record node {
  at = record node.at { serial = node.at.serial + 1 };
  queue = queued node.queue (message.Write (spelling w));
}

abbrev pub node_sent_any : NodeParts → Option WriteSet → NodeParts
node_sent_any node None = node
node_sent_any node (Some w) = node_sent node w

-- the live transactions once the session's has sent its commit
abbrev pub with_commit : FiniteMap nat_cmp Live → ℕ → Option Live → FiniteMap nat_cmp Live
with_commit live session None = live
with_commit live session (Some t) = insert live session (with_status t status.CommitSent)

-- a transaction to which a statement was added, once the fragment that it makes due is sent
abbrev pub trx_after : Added → Live → Live
trx_after added.Done t = t
trx_after added.Fragment t = fragment_sent t
trx_after added.TooLarge t = t

-- the node once that fragment is sent
abbrev pub node_after : Added → Live → NodeParts → NodeParts
node_after added.Done t node = node
node_after added.Fragment t node = node_sent node (fragment_of t node.at.serial node.at.committed)
node_after added.TooLarge t node = node

-- what became of a statement, the transaction and the node
abbrev pub grown_by : NodeParts → Added × Live → Added × Live × NodeParts
grown_by node both = (both.0, trx_after both.0 both.1, node_after both.0 both.1 node)
