-- what becomes of one session when its node leaves
use Rattle.std.specs.Prelude.{ℕ, List, Option, Some, None}
use Rattle.finite_map.specs.FiniteMap.{get}
use Rattle.row_model.specs.declared.calls.Reply.{Reply}
use Rattle.order_event.specs.declared.event.Message.{Message}
use Rattle.client_trx.specs.Live.{Live}
use Rattle.node_meaning.specs.Node.{ModelNode}
use Rattle.node_meaning.specs.Leaving.{waits_in, told_at_leave, ended_where}

-- what it is told of its transaction, over what was sent and not taken; None where it has none, or
-- one that stays live
abbrev pub told_of : List Message → Option Live → Option Reply
told_of queue None = None
told_of queue (Some t) = told_at_leave (waits_in queue t) t.status

abbrev pub session_left : List Message → ModelNode → ℕ → ModelNode
session_left queue n session = ended_where n session (told_of queue (get n.live session))
