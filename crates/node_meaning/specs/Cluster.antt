-- a cluster of model nodes over one order, and its runs
use Rattle.std.specs.Prelude.{ℕ, suc, zero, ◌+◌, ◌-◌, ◌==◌, ◌&&◌, Bool, not, List, [], ◌∷◌, ◌++◌, length, map, slice_get, Option, Some, None, if◌then◌else◌}
use Rattle.order_event.specs.declared.event.Event.{Event}
use Rattle.order_event.specs.declared.event.Message.{Message}
use Rattle.order_event.specs.declared.step.Act.{Act}
use Rattle.order_event.specs.declared.step.Act.TheVariants as act
use Rattle.order_event.specs.declared.step.Answer.{Answer}
use Rattle.order_event.specs.declared.step.Answer.TheVariants as answer
use Rattle.order_event.specs.declared.step.Step.{Step}
use Rattle.group_order.specs.Order.{event_of, start_order, up_to, view_without, view_with, new_member}
use Rattle.node_meaning.specs.Node.{ModelNode, is_left, is_joining, start_node}
use Rattle.node_meaning.specs.Leaving.{left_node}
use Rattle.node_meaning.specs.Joining.{joined_node, transfer_from}
use Rattle.node_meaning.specs.Steps.{sent_out, node_step, drained}

pub record ModelCluster : Type 0 where
  pub order : List Event
  pub nodes : List ModelNode

-- nodes 1 to K, members 1 to K of the first view, each with a ring of so many bytes
unfoldable pub start_cluster : ℕ → ℕ → List ℕ → ModelCluster
start_cluster nodes gcache id =
    record { order = start_order nodes; nodes = map (start_node gcache id) (up_to nodes) }

-- the list with this item there; past its end the list stays
abbrev pub set_at : {A : Type 0} → List A → ℕ → A → List A
set_at [] i a = []
set_at (x ∷ xs) zero a = a ∷ xs
set_at (x ∷ xs) (suc i) a = x ∷ set_at xs i a

abbrev pub with_node : ModelCluster → ℕ → Answer × ModelNode → Answer × ModelCluster
with_node c i done = (done.0, record c { nodes = set_at c.nodes i done.1 })

-- the oldest message of the outbox takes the next number
abbrev pub order_first : ModelCluster → ℕ → ModelNode → List Message → Answer × ModelCluster
order_first c i n [] = (answer.Nothing, c)
order_first c i n (m ∷ ms) = (
  answer.Ordered (length c.order + 1),
  record { order = c.order ++ event_of n.at.member m ∷ []; nodes = set_at c.nodes i (sent_out n) },
)

-- all of the outbox is ordered, and then everything is taken, certified and committed
abbrev pub drain_all : ModelCluster → ℕ → ModelNode → List Event → Answer × ModelCluster
drain_all c i n order =
    let after = drained order (record n { ordered = n.ordered ++ n.outbox; outbox = [] }) in
    (answer.At after.at.committed, record { order = order; nodes = set_at c.nodes i after })

abbrev pub drain : ModelCluster → ℕ → ModelNode → Answer × ModelCluster
drain c i n = drain_all c i n (c.order ++ map (event_of n.at.member) n.outbox)

-- a view without the node's member is ordered, and the node has left
abbrev pub leave_now : ModelCluster → ℕ → ModelNode → Answer × ModelCluster
leave_now c i n = (
  answer.Left (length c.order + 1),
  record {
    order = c.order ++ view_without c.order n.at.member ∷ [];
    nodes = set_at c.nodes i (left_node n);
  },
)

abbrev pub leave : ModelCluster → ℕ → ModelNode → Answer × ModelCluster
leave c i n = if is_left n.at.phase then (answer.Disconnected, c) else leave_now c i n

-- a view with a new member is ordered, and the node waits for what it misses
abbrev pub join_now : Bool → ModelCluster → ℕ → ModelNode → Answer × ModelCluster
join_now fresh c i n =
    let view = length c.order + 1 in
    let member = new_member c.order in (
      answer.Joining view member,
      record {
        order = c.order ++ view_with c.order member ∷ [];
        nodes = set_at c.nodes i (joined_node fresh member view n);
      },
    )

-- a node joins again once it has left and has committed all that it took
abbrev pub join : Bool → ModelCluster → ℕ → ModelNode → Answer × ModelCluster
join fresh c i n =
    if not (is_left n.at.phase) then (answer.StillJoined, c)
    else if n.at.taken == n.at.committed then join_now fresh c i n
    else (answer.NotDrained n.at.taken n.at.committed, c)

-- the node takes what it misses from another one
abbrev pub transfer : ModelCluster → ℕ → ModelNode → ℕ → Answer × ModelCluster
transfer c i n donor =
    if is_joining n.at.phase
    then with_node c i (transfer_from c.order n (slice_get c.nodes (donor - 1)))
    else (answer.NotJoining, c)

-- one step of the node at place i
abbrev pub step_of : ModelCluster → ℕ → ModelNode → Act → Answer × ModelCluster
step_of c i n (act.Client session call) =
    with_node c i (node_step c.order n (act.Client session call))
step_of c i n act.Order = order_first c i n n.outbox
step_of c i n act.Take = with_node c i (node_step c.order n act.Take)
step_of c i n act.Certify = with_node c i (node_step c.order n act.Certify)
step_of c i n (act.Start number) = with_node c i (node_step c.order n (act.Start number))
step_of c i n (act.Finish number) = with_node c i (node_step c.order n (act.Finish number))
step_of c i n act.Advance = with_node c i (node_step c.order n act.Advance)
step_of c i n act.Drain = drain c i n
step_of c i n act.Report = with_node c i (node_step c.order n act.Report)
step_of c i n act.Status = with_node c i (node_step c.order n act.Status)
step_of c i n act.Leave = leave c i n
step_of c i n (act.Join fresh) = join fresh c i n
step_of c i n (act.Transfer donor) = transfer c i n donor

-- a step of a node that is not there does nothing
abbrev pub step_at : ModelCluster → ℕ → Option ModelNode → Act → Answer × ModelCluster
step_at c i None a = (answer.Nothing, c)
step_at c i (Some n) a = step_of c i n a

-- one step of the cluster; nodes are numbered from 1, and 0 is read as 1
unfoldable pub cluster_step : ModelCluster → Step → Answer × ModelCluster
cluster_step c step = step_at c (step.node - 1) (slice_get c.nodes (step.node - 1)) step.act

-- the oldest message of an outbox, where there is one
abbrev pub orders_of : List Message → ℕ
orders_of [] = 0
orders_of (m ∷ ms) = 1

-- how many events a step is going to order
abbrev pub node_orders : Act → ModelNode → ℕ
node_orders act.Order n = orders_of n.outbox
node_orders act.Drain n = length n.outbox
node_orders (act.Client session call) n = 0
node_orders act.Take n = 0
node_orders act.Certify n = 0
node_orders (act.Start number) n = 0
node_orders (act.Finish number) n = 0
node_orders act.Advance n = 0
node_orders act.Report n = 0
node_orders act.Status n = 0
node_orders act.Leave n = if is_left n.at.phase then 0 else 1
node_orders (act.Join fresh) n =
    if is_left n.at.phase && n.at.taken == n.at.committed then 1 else 0
node_orders (act.Transfer donor) n = 0

abbrev pub orders_at : Option ModelNode → Act → ℕ
orders_at None a = 0
orders_at (Some n) a = node_orders a n

abbrev pub will_order : ModelCluster → Step → ℕ
will_order c step = orders_at (slice_get c.nodes (step.node - 1)) step.act

-- the answers of a list of steps, and the cluster after them
unfoldable pub run : List Step → ModelCluster → List Answer × ModelCluster
run [] c = ([], c)
run (step ∷ steps) c =
    let one = cluster_step c step in
    let rest = run steps one.1 in
    (one.0 ∷ rest.0, rest.1)
