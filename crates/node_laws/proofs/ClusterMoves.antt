-- Every step of a cluster is moves of one of its nodes, and orders messages at the front of that
-- node's outbox, or a view without it or with its new member; or a node takes the state that it
-- misses.
use Rattle.std.proofs.Common.{◌≡◌, ℕ, ◌+◌, ◌-◌, ◌≤◌, ◌<◌, Bool, true, false, cond, List, [], ◌∷◌, ◌++◌, length, Option, None, Some, refl, ap, sym, arith, append-nil, leb-true, ltb-false}
use Rattle.std.specs.Prelude.{◌==◌, ◌&&◌, not, nat_le, nat_lt, slice_get, map}
use Rattle.std.specs.Str.{bytes_eq}
use Rattle.order_event.specs.declared.event.Event.{Event}
use Rattle.order_event.specs.declared.event.Message.{Message}
use Rattle.order_event.specs.declared.step.Act.{Act}
use Rattle.order_event.specs.declared.step.Act.TheVariants as act
use Rattle.order_event.specs.declared.step.Answer.{Answer}
use Rattle.order_event.specs.declared.step.Answer.TheVariants as answer
use Rattle.order_event.specs.declared.step.Step.{Step}
use Rattle.group_order.specs.Order.{event_of, view_without, view_with, new_member}
use Rattle.gcache_ring.specs.Held.{range_to}
use Rattle.state_transfer.specs.declared.transfer.Plan.{Plan}
use Rattle.state_transfer.specs.declared.transfer.Plan.TheVariants as plan
use Rattle.state_transfer.specs.Plan.{plan_of}
use Rattle.node_meaning.specs.Node.{ModelNode, is_left, is_joining, is_connected}
use Rattle.node_meaning.specs.Leaving.{left_node}
use Rattle.node_meaning.specs.Joining.{ring_of, joined_node, received_events, received_snapshot, by_plan, transfer_plan, transfer_from}
use Rattle.node_meaning.specs.Steps.{first_sent, sent_out, node_step, drained}
use Rattle.node_meaning.specs.Cluster.{ModelCluster, set_at, with_node, order_first, drain, leave_now, join_now, step_of, step_at, cluster_step, orders_of, node_orders, orders_at, will_order}
use Rattle.node_laws.specs.Joins.{MayJoin, CanJoin}
use Rattle.node_laws.proofs.Moves.{with_ordered, Reaches, Here, to_same}
use Rattle.node_laws.proofs.AdvanceMoves.{CanDrain, CanStep, step_moves, drained_moves}
use Rattle.node_laws.proofs.SetLists.{equal}

-- a connected node of the cluster
pub record IsDonor (c : ModelCluster) (donor : ModelNode) : Type 0 where
  pub place : ℕ
  pub there : slice_get c.nodes place ≡ Some donor
  pub connected : is_connected donor.at.phase ≡ true

-- so many events are ordered; `given` is what is known of the node that moves, and `can` of a join
pub data Stepped (c : ModelCluster) (given : ModelNode → Type 0) (can : Type 0)
    : ℕ → ModelCluster → Type 0 where
  -- nothing
  Still : Stepped c given can 0 c
  -- at most one move of a node that pays, and others
  Moved : (i : ℕ) (n m : ModelNode) → slice_get c.nodes i ≡ Some n
      → Reaches c.order (given n) true n 1 m
      → Stepped c given can 0 (record c { nodes = set_at c.nodes i m })
  -- messages are ordered, and then moves of the node that pay nothing
  Ordered : (i : ℕ) (n m : ModelNode) (front back : List Message) → slice_get c.nodes i ≡ Some n
      → n.outbox ≡ front ++ back
      → Reaches (c.order ++ map (event_of n.at.member) front)
      (CanDrain (c.order ++ map (event_of n.at.member) front) (with_ordered n front back)) true
      (with_ordered n front back) 0 m
      → Stepped c given can (length front)
      (record { order = c.order ++ map (event_of n.at.member) front; nodes = set_at c.nodes i m })
  -- a view without the node is ordered, and it leaves
  Left : (i : ℕ) (n : ModelNode) → slice_get c.nodes i ≡ Some n → is_left n.at.phase ≡ false
      → Stepped c given can 1 (record {
        order = c.order ++ view_without c.order n.at.member ∷ [];
        nodes = set_at c.nodes i (left_node n);
      })
  -- a view with a new member is ordered, and the node joins as that
  Joined : (i : ℕ) (n : ModelNode) (fresh : Bool) → slice_get c.nodes i ≡ Some n
      → is_left n.at.phase ≡ true → n.at.taken ≡ n.at.committed → (can → MayJoin c n)
      → Stepped c given can 1 (record {
        order = c.order ++ view_with c.order (new_member c.order) ∷ [];
        nodes = set_at c.nodes i (joined_node fresh (new_member c.order) (length c.order + 1) n);
      })
  -- a node takes at once the events that it misses, as far as another has taken them
  Received : (i : ℕ) (n donor : ModelNode) → slice_get c.nodes i ≡ Some n
      → is_joining n.at.phase ≡ true → IsDonor c donor → n.at.committed < donor.at.taken
      → n.at.view ≤ donor.at.taken
      → Stepped c given can 0
      (record c { nodes = set_at c.nodes i (received_events donor.at.taken n) })
  -- or the state that another has committed
  Installed : (i : ℕ) (n donor : ModelNode) → slice_get c.nodes i ≡ Some n
      → is_joining n.at.phase ≡ true → IsDonor c donor → donor.at.certified ≡ donor.at.committed
      → n.at.view ≤ donor.at.committed
      → Stepped c given can 0
      (record c { nodes = set_at c.nodes i (received_snapshot donor.at.committed donor.id n) })

-- events that a ring has from the next one on are taken
ist_below : (same : Bool) (position last : ℕ) (events : List Event) (from : ℕ)
    → plan_of same position (range_to last events) ≡ plan.Ist from → position < last
ist_below same position last [] from is = cc
ist_below same position last (e ∷ events) from is =
    let inside = by same (nat_le (last - length (e ∷ events) + 1) (position + 1))
    (nat_le (position + 1) last) is in
    let fits : position + 1 ≤ last = leb-true (position + 1) last inside in omega (arith, fits)
  where
    by : (a b d : Bool) → cond (a && b && d) (plan.Ist (position + 1)) plan.Sst ≡ plan.Ist from
        → d ≡ true
    by true true true is = refl
    by true true false is = cc
    by true false d is = cc
    by false b d is = cc

module _ (c : ModelCluster) (can : Type 0) (i : ℕ) where
  module _ (n : ModelNode) (there : slice_get c.nodes i ≡ Some n) where
    node_moves : (a : Act) → Stepped c (λ n. CanStep n a) can 0 (record c { nodes = set_at c.nodes i (node_step c.order n a).1 })
    node_moves a = Moved i n (node_step c.order n a).1 there (step_moves c.order n a)

    first_moves : (given : ModelNode → Type 0) (queue : List Message) → n.outbox ≡ queue → Stepped c given can (orders_of queue) (order_first c i n queue).1
    first_moves given [] is = Still
    first_moves given (m ∷ ms) is =
        Ordered i n (sent_out n) (m ∷ []) ms there is (to_same 0 (with_ordered n (m ∷ []) ms) (with_ordered n (m ∷ []) ms) (sent_out n) (ap (first_sent n) is) Here)

    drain_moves : (given : ModelNode → Type 0)
        → Stepped c given can (length n.outbox) (drain c i n).1
    drain_moves given =
        let order = c.order ++ map (event_of n.at.member) n.outbox in
        let sent = with_ordered n n.outbox [] in
        Ordered i n (drained order sent) n.outbox [] there (sym (append-nil n.outbox)) (drained_moves order (CanDrain order sent) sent (λ g. g))

    leave_moves : (given : ModelNode → Type 0) (b : Bool) → is_left n.at.phase ≡ b
        → Stepped c given can (cond b 0 1) (cond b (answer.Disconnected, c) (leave_now c i n)).1
    leave_moves given true is = Still
    leave_moves given false is = Left i n there is

    -- ---- it joins
    join_moves : (given : ModelNode → Type 0) (fresh : Bool)
        → (is_left n.at.phase ≡ true → n.at.taken ≡ n.at.committed → can → MayJoin c n)
        → (b all : Bool) → is_left n.at.phase ≡ b → n.at.taken == n.at.committed ≡ all
        → Stepped c given can (cond (b && all) 1 0) (cond (not b) (answer.StillJoined, c)
        (cond all (join_now fresh c i n)
        (answer.NotDrained n.at.taken n.at.committed, c))).1
    join_moves given fresh may false all left same = Still
    join_moves given fresh may true false left same = Still
    join_moves given fresh may true true left same =
        let drained = equal n.at.taken n.at.committed same in
        Joined i n fresh there left drained (may left drained)

    -- ---- it takes what it misses
    module _ (given : ModelNode → Type 0) (joining : is_joining n.at.phase ≡ true) where
      abbrev placed : Answer × ModelNode → ModelCluster
      placed done = record c { nodes = set_at c.nodes i done.1 }

      as_it_was : Stepped c given can 0 (record c { nodes = set_at c.nodes i n })
      as_it_was = Moved i n n there Here

      module _ (donor : ModelNode) (gives : IsDonor c donor) where
        snapshot_moves : (b early : Bool) → donor.at.certified == donor.at.committed ≡ b
            → nat_lt donor.at.committed n.at.view ≡ early
            → Stepped c given can 0 (placed (cond (not b)
            (answer.DonorBusy donor.at.certified donor.at.committed, n)
            (cond early (answer.DonorBehind n.at.view donor.at.committed, n) (
              answer.Sst donor.at.committed,
              received_snapshot donor.at.committed donor.id n,
            ))))
        snapshot_moves false early same behind = as_it_was
        snapshot_moves true true same behind = as_it_was
        snapshot_moves true false same behind =
            Installed i n donor there joining gives
            (equal donor.at.certified donor.at.committed same)
            (ltb-false donor.at.committed n.at.view behind)

        plan_moves : (by : Plan) → transfer_plan c.order n donor ≡ by
            → n.at.view ≤ donor.at.taken → Stepped c given can 0 (placed (by_plan n donor by))
        plan_moves (plan.Ist from) is viewed =
            Received i n donor there joining gives
            (ist_below (bytes_eq n.id donor.id) n.at.committed donor.at.taken
            (ring_of c.order donor).events from is) viewed
        plan_moves plan.Sst is viewed =
            snapshot_moves (donor.at.certified == donor.at.committed)
            (nat_lt donor.at.committed n.at.view) refl refl

      donor_moves : (place : ℕ) (donor : ModelNode) → slice_get c.nodes place ≡ Some donor
          → (b early : Bool) → is_connected donor.at.phase ≡ b
          → nat_lt donor.at.taken n.at.view ≡ early
          → Stepped c given can 0 (placed (cond (not b) (answer.NoDonor, n)
          (cond early (answer.DonorBehind n.at.view donor.at.taken, n)
          (by_plan n donor (transfer_plan c.order n donor)))))
      donor_moves place donor at false early connected behind = as_it_was
      donor_moves place donor at true true connected behind = as_it_was
      donor_moves place donor at true false connected behind =
          plan_moves donor (record { place = place; there = at; connected = connected })
          (transfer_plan c.order n donor) refl (ltb-false donor.at.taken n.at.view behind)

      from_moves : (place : ℕ) (o : Option ModelNode) → slice_get c.nodes place ≡ o
          → Stepped c given can 0 (placed (transfer_from c.order n o))
      from_moves place None at = as_it_was
      from_moves place (Some donor) at =
          donor_moves place donor at (is_connected donor.at.phase)
          (nat_lt donor.at.taken n.at.view) refl refl

    transfer_moves : (given : ModelNode → Type 0) (donor : ℕ) (b : Bool) → is_joining n.at.phase ≡ b
        → Stepped c given can 0 (cond b
        (with_node c i (transfer_from c.order n (slice_get c.nodes (donor - 1))))
        (answer.NotJoining, c)).1
    transfer_moves given donor true joining =
        from_moves given joining (donor - 1) (slice_get c.nodes (donor - 1)) refl
    transfer_moves given donor false joining = Still

    abbrev Joins : Act → Type 0
    Joins a = (fresh : Bool) → a ≡ act.Join fresh → is_left n.at.phase ≡ true
        → n.at.taken ≡ n.at.committed → can → MayJoin c n

    act_moves : (a : Act) → Joins a
        → Stepped c (λ n. CanStep n a) can (node_orders a n) (step_of c i n a).1
    act_moves (act.Client session call) may = node_moves (act.Client session call)
    act_moves act.Order may = first_moves (λ n. CanStep n act.Order) n.outbox refl
    act_moves act.Take may = node_moves act.Take
    act_moves act.Certify may = node_moves act.Certify
    act_moves (act.Start number) may = node_moves (act.Start number)
    act_moves (act.Finish number) may = node_moves (act.Finish number)
    act_moves act.Advance may = node_moves act.Advance
    act_moves act.Drain may = drain_moves (λ n. CanStep n act.Drain)
    act_moves act.Report may = node_moves act.Report
    act_moves act.Status may = node_moves act.Status
    act_moves act.Leave may = leave_moves (λ n. CanStep n act.Leave) (is_left n.at.phase) refl
    act_moves (act.Join fresh) may =
        join_moves (λ n. CanStep n (act.Join fresh)) fresh (may fresh refl) (is_left n.at.phase)
        (n.at.taken == n.at.committed) refl refl
    act_moves (act.Transfer donor) may =
        transfer_moves (λ n. CanStep n (act.Transfer donor)) donor (is_joining n.at.phase) refl

  abbrev JoinsAt : Act → Type 0
  JoinsAt a = (fresh : Bool) (n : ModelNode) → a ≡ act.Join fresh → slice_get c.nodes i ≡ Some n
      → is_left n.at.phase ≡ true → n.at.taken ≡ n.at.committed → can → MayJoin c n

  at_moves : (o : Option ModelNode) (a : Act) → slice_get c.nodes i ≡ o → JoinsAt a
      → Stepped c (λ n. CanStep n a) can (orders_at o a) (step_at c i o a).1
  at_moves None a there may = Still
  at_moves (Some n) a there may = act_moves n there a (λ fresh is. may fresh n is there)

pub cluster_moves : (c : ModelCluster) (step : Step)
    → Stepped c (λ n. CanStep n step.act) (CanJoin c step) (will_order c step)
    (cluster_step c step).1
unfolding cluster_step
cluster_moves c step =
    at_moves c (CanJoin c step) (step.node - 1) (slice_get c.nodes (step.node - 1)) step.act refl
    (λ fresh n is there left all can. can fresh n is there left all)
