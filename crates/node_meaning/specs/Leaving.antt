-- a node leaves its group: what its sessions are told of their transactions, and the node after it
use Rattle.std.specs.Prelude.{ℕ, ◌==◌, ◌&&◌, Bool, false, List, [], ◌++◌, fold, Option, Some, None, if◌then◌else◌}
use Rattle.std.specs.Option.{option_map_or}
use Rattle.std.specs.List.{list_any}
use Rattle.row_model.specs.declared.calls.Reply.{Reply}
use Rattle.row_model.specs.declared.calls.Reply.TheVariants as reply
use Rattle.order_event.specs.declared.event.Message.{Message}
use Rattle.order_event.specs.declared.event.Message.TheVariants as message
use Rattle.write_set.specs.declared.write_set.WriteSet.{WriteSet}
use Rattle.write_set.specs.Reading.{decoded}
use Rattle.cert_meaning.specs.Verdict.{is_end}
use Rattle.client_trx.specs.Live.{Live}
use Rattle.client_trx.specs.declared.status.Status.{Status}
use Rattle.client_trx.specs.declared.status.Status.TheVariants as status
use Rattle.node_meaning.specs.declared.progress.Phase.TheVariants as phase
use Rattle.node_meaning.specs.Node.{ModelNode, end_with}

-- whether a message is the commit of the transaction with this begin number
abbrev pub is_commit_of : ℕ → Message → Bool
is_commit_of begin (message.Write body) =
    option_map_or (λ (w : WriteSet). w.begin == begin && is_end w) (decoded body) false
is_commit_of begin (message.Report number) = false

-- whether the commit of a transaction is sent and not taken
abbrev pub waits_in : List Message → Live → Bool
waits_in queue t = list_any (is_commit_of t.trx.begin) queue

-- what became of a commit is not known, where the node did not take it
abbrev pub where_untaken : Bool → Option Reply
where_untaken untaken = if untaken then Some reply.Unknown else None

-- what its session is told of a transaction with this status; None where it stays live, as its
-- commit is taken
abbrev pub told_at_leave : Bool → Status → Option Reply
told_at_leave untaken status.Running = Some reply.Disconnected
told_at_leave untaken status.FragmentSent = Some reply.Disconnected
told_at_leave untaken status.CommitSent = where_untaken untaken
told_at_leave untaken (status.Certified number) = None
told_at_leave untaken status.KilledSent = where_untaken untaken
told_at_leave untaken (status.Replaying number) = None

abbrev pub ended_where : ModelNode → ℕ → Option Reply → ModelNode
ended_where n session None = n
ended_where n session (Some reply) = end_with n session reply

-- one transaction
abbrev pub leave_one : List Message → ModelNode → ℕ × Live → ModelNode
leave_one queue n e = ended_where n e.0 (told_at_leave (waits_in queue e.1) e.1.status)

-- all transactions, in rising order of their sessions
unfoldable pub sessions_left : ModelNode → ModelNode
sessions_left n = fold (leave_one (n.ordered ++ n.outbox)) n n.live.entries

-- the node has left, and what it sent and did not take is lost to it
abbrev pub departed : ModelNode → ModelNode
departed n = record n { at = record n.at { phase = phase.Left }; ordered = []; outbox = [] }

unfoldable pub left_node : ModelNode → ModelNode
left_node n = departed (sessions_left n)
