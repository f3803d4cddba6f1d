-- a node joins its group again: it asks for a new member, and takes the state that it misses from
-- another node, by the events of that node's ring (incremental state transfer) or by a snapshot
-- (state snapshot transfer)
use Rattle.std.specs.Prelude.{◌≡◌, ℕ, ◌==◌, nat_lt, Bool, not, List, [], take, drop, Option, Some, None, if◌then◌else◌}
use Rattle.std.specs.Str.{bytes_eq}
use Rattle.std.specs.Ordering.{nat_cmp}
use Rattle.finite_map.specs.FiniteMap.{FiniteMap, get}
use Rattle.wsrep_base.specs.StateId.{nil_id}
use Rattle.order_event.specs.declared.event.Event.{Event}
use Rattle.order_event.specs.declared.event.Message.{Message}
use Rattle.order_event.specs.declared.step.Answer.{Answer}
use Rattle.order_event.specs.declared.step.Answer.TheVariants as answer
use Rattle.client_trx.specs.Live.{Live}
use Rattle.gcache_ring.specs.Held.{Ring, held, range_of}
use Rattle.state_transfer.specs.declared.transfer.Plan.{Plan}
use Rattle.state_transfer.specs.declared.transfer.Plan.TheVariants as plan
use Rattle.state_transfer.specs.Plan.{plan_of}
use Rattle.node_meaning.specs.declared.progress.Phase.TheVariants as phase
use Rattle.node_meaning.specs.Node.{ModelNode, is_connected}

-- ---- the ring
-- the events that were taken since the start or the last snapshot, and of these the longest suffix
-- that fits the ring
abbrev pub ring_of : List Event → ModelNode → Ring
ring_of order n = record {
  size = n.gcache;
  last = n.at.taken;
  events = held n.gcache (drop n.since (take n.at.taken order));
}

-- ---- a node that joins
-- all that was taken is certified and committed, nothing is queued, and nothing is live
pub record Rests (taken certified committed : ℕ) (ordered outbox : List Message)
    (live : FiniteMap nat_cmp Live) : Type 0 where
  pub all_certified : certified ≡ taken
  pub all_committed : committed ≡ taken
  pub none_ordered : ordered ≡ []
  pub none_waits : outbox ≡ []
  pub none_live : (session : ℕ) (t : Live) → get live session ≡ Some t → ⊥

-- so when a node joins, and until it has the state that it misses
abbrev pub IsAtRest : ModelNode → Type 0
IsAtRest n = Rests n.at.taken n.at.certified n.at.committed n.ordered n.outbox n.live

-- ---- what becomes of the node
-- it is a new member, which enters with this view, and waits for the state that it misses; where it
-- joins fresh, it keeps nothing of its state
abbrev pub joined_node : Bool → ℕ → ℕ → ModelNode → ModelNode
joined_node fresh member view n = record n {
  at = record n.at { phase = phase.Joining; member = member; view = view; serial = 1; begin = 1 };
  id = if fresh then nil_id else n.id;
}

-- it took the events up to this one at once
abbrev pub received_events : ℕ → ModelNode → ModelNode
received_events last n =
    record n { at = record n.at { phase = phase.Connected; taken = last } }

-- it took a snapshot of the state at this number, with that state's id; its ring is empty
abbrev pub received_snapshot : ℕ → List ℕ → ModelNode → ModelNode
received_snapshot number id n = record n {
  at = record n.at {
    phase = phase.Connected;
    taken = number;
    certified = number;
    committed = number;
  };
  id = id;
  since = number;
}

-- ---- taking the state of a donor
abbrev pub by_snapshot : ModelNode → ModelNode → Answer × ModelNode
by_snapshot n donor =
    if not (donor.at.certified == donor.at.committed)
    then (answer.DonorBusy donor.at.certified donor.at.committed, n)
    else if nat_lt donor.at.committed n.at.view
    then (answer.DonorBehind n.at.view donor.at.committed, n)
    else (
      answer.Sst donor.at.committed,
      received_snapshot donor.at.committed donor.id n,
    )

abbrev pub by_plan : ModelNode → ModelNode → Plan → Answer × ModelNode
by_plan n donor (plan.Ist from) =
    (answer.Ist from donor.at.taken, received_events donor.at.taken n)
by_plan n donor plan.Sst = by_snapshot n donor

abbrev pub transfer_plan : List Event → ModelNode → ModelNode → Plan
transfer_plan order n donor =
    plan_of (bytes_eq n.id donor.id) n.at.committed (range_of (ring_of order donor))

-- a donor is connected, and has taken the view in which the new member enters
abbrev pub transfer_from : List Event → ModelNode → Option ModelNode → Answer × ModelNode
transfer_from order n None = (answer.NoDonor, n)
transfer_from order n (Some donor) =
    if not (is_connected donor.at.phase) then (answer.NoDonor, n)
    else if nat_lt donor.at.taken n.at.view
    then (answer.DonorBehind n.at.view donor.at.taken, n)
    else by_plan n donor (transfer_plan order n donor)
