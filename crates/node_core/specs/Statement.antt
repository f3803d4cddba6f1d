-- what a statement meets in the parts of a node, and what it leaves of them
use Rattle.std.specs.Prelude.{ℕ, List, Option, Some, None}
use Rattle.finite_map.specs.FiniteMap.{insert}
use Rattle.key_sets.specs.declared.kind.Kind.{Kind}
use Rattle.key_sets.specs.Keys.{one_key}
use Rattle.row_model.specs.declared.row.RowId.{RowId}
use Rattle.row_model.specs.declared.ops.Op.{Op}
use Rattle.write_set.specs.Rules.{row_parts}
use Rattle.certification.specs.Certifies.{holder_of}
use Rattle.client_trx.specs.Live.{Live}
use Rattle.client_trx.specs.declared.status.Added.{Added}
use Rattle.client_trx.specs.declared.status.Added.TheVariants as added
use Rattle.row_model.specs.declared.calls.Reply.{Reply}
use Rattle.row_model.specs.declared.calls.Reply.TheVariants as reply
use Rattle.row_locks.specs.declared.holder.Holder.TheVariants.{Session}
use Rattle.row_locks.specs.Locks.{blocker}
use Rattle.undo_rows.specs.RowTable.{RowTable, Changes, seen, written}
use Rattle.node_meaning.specs.Client.{row_reply}
use Rattle.node_core.specs.declared.node.NodeParts.{NodeParts}
use Rattle.node_core.specs.declared.refusal.Met.{Met}
use Rattle.node_core.specs.Sending.{trx_after, node_after}

-- what a statement of a transaction meets in the parts of a node
abbrev pub met_at : NodeParts → ℕ → RowId → Kind → Live → Met
met_at node session id kind t = record {
  held = holder_of t.trx (one_key (row_parts id) kind) node.certification;
  blocker = blocker node.locks.locks (Session session) (row_parts id) kind;
  row = seen node.rows session id;
}

-- what became of a statement, and the node with the transaction at the session
abbrev pub told_and_put : NodeParts → ℕ → Added × Live → Added × NodeParts
told_and_put node session both = (
  both.0,
  record (node_after both.0 both.1 node) {
    live = insert node.live session (trx_after both.0 both.1);
  },
)

-- the answer to a statement, by what became of it: a change that makes a fragment due waits for its
-- verdict, another one is done, and `share` answers the row
abbrev pub reply_after : Added → Option (List ℕ) → Option Op → Reply
reply_after added.Done row None = row_reply row
reply_after added.Done row (Some change) = reply.Done
reply_after added.Fragment row change = reply.Pending
reply_after added.TooLarge row change = reply.TooLarge

-- the changes of rows once the session has made its change, where it makes one
abbrev pub changes_after : RowTable → ℕ → Option Op → Changes
changes_after table session None = table.changes
changes_after table session (Some op) = (written table session op).1
