-- the steps that a drain is made of, and what is left where a step could not be done
use Rattle.std.specs.Prelude.{◌≡◌, ℕ, zero, suc, ◌+◌, ◌-◌, List, [], ◌∷◌, ◌++◌, length, map, replicate, slice_get, Option, Some, None}
use Rattle.order_event.specs.declared.event.Event.{Event}
use Rattle.order_event.specs.declared.step.Act.{Act}
use Rattle.order_event.specs.declared.step.Act.TheVariants as act
use Rattle.group_order.specs.Order.{event_of}
use Rattle.node_meaning.specs.Node.{ModelNode}
use Rattle.node_meaning.specs.Steps.{commit_next, all_taken, all_certified}
use Rattle.node_meaning.specs.Cluster.{ModelCluster, cluster_step}

-- the cluster after some steps of one node
unfoldable pub after_acts : ModelCluster → ℕ → List Act → ModelCluster
after_acts c node [] = c
after_acts c node (a ∷ acts) =
    after_acts (cluster_step c (record { node = node; act = a })).1 node acts

-- ---- the steps that a drain is made of
-- start, finish and advance for each of so many next numbers
abbrev pub commit_acts : List Event → ℕ → ModelNode → List Act
commit_acts order zero n = []
commit_acts order (suc k) n =
    act.Start (n.at.committed + 1) ∷ act.Finish (n.at.committed + 1) ∷ act.Advance
    ∷ commit_acts order k (commit_next order n)

-- those of a node that has certified all
abbrev pub certified_acts : List Event → ModelNode → List Act
certified_acts order n = commit_acts order (n.at.certified - n.at.committed) n

-- of one that has taken all
abbrev pub taken_acts : List Event → ModelNode → List Act
taken_acts order n =
    replicate (n.at.taken - n.at.certified) act.Certify
    ++ certified_acts order (all_certified order n)

-- and of one of whose messages none waits; at a node that has left the takes do nothing
abbrev pub sent_acts : List Event × ModelNode → List Act
sent_acts (order, n) =
    replicate (length order - n.at.taken) act.Take ++ taken_acts order (all_taken order n)

-- the order and the node once all that waits is ordered
abbrev pub all_sent : List Event → ModelNode → List Event × ModelNode
all_sent order n = (
  order
      ++ map (event_of n.at.member) n.outbox,
  record n { ordered = n.ordered ++ n.outbox; outbox = [] },
)

-- its orders, then its takes, its certifies, and the steps of its commits
abbrev pub drain_acts : List Event → ModelNode → List Act
drain_acts order n = replicate (length n.outbox) act.Order ++ sent_acts (all_sent order n)

abbrev pub drain_acts_of : List Event → Option ModelNode → List Act
drain_acts_of order None = []
drain_acts_of order (Some n) = drain_acts order n

-- ---- a step that could not be done
-- the steps of the drain before this one were done, and it was not
pub record DrainedTo (node : ℕ) (old new : ModelCluster) (next : Act) : Type 0 where
  pub done : List Act
  pub rest : List Act
  pub front : drain_acts_of old.order (slice_get old.nodes (node - 1)) ≡ done ++ next ∷ rest
  pub is : new ≡ after_acts old node done

-- it left the cluster as it was; a drain left what it had done before the step that could not be
-- done
abbrev pub StoppedAt : Act → ℕ → ModelCluster → ModelCluster → Act → Type 0
StoppedAt act.Drain node old new next = DrainedTo node old new next
StoppedAt other node old new next = (next ≡ other) × (new ≡ old)
