-- How fast a cluster grows by a step: what it orders, and what each node gives out.
use Rattle.std.proofs.Common.{◌≡◌, ℕ, zero, suc, ◌+◌, ◌≤◌, true, List, [], ◌∷◌, ◌++◌, length, Some, refl, ap, subst, ◌∙◌, arith, length-append}
use Rattle.std.specs.Prelude.{slice_get, map}
use Rattle.std.proofs.lemmas.List.{length-map}
use Rattle.std.proofs.lemmas.Option.{same_Some}
use Rattle.finite_map.specs.FiniteMap.{len}
use Rattle.order_event.specs.declared.event.Event.{Event}
use Rattle.order_event.specs.declared.step.Step.{Step}
use Rattle.group_order.specs.Order.{event_of, view_without, view_with, new_member}
use Rattle.node_meaning.specs.Node.{ModelNode}
use Rattle.node_meaning.specs.Leaving.{left_node}
use Rattle.node_meaning.specs.Joining.{joined_node, received_events, received_snapshot}
use Rattle.node_meaning.specs.Cluster.{ModelCluster, set_at, cluster_step, will_order}
use Rattle.node_laws.specs.Joins.{CanJoin}
use Rattle.node_laws.specs.Sizes.{node_size, sizes, cluster_size}
use Rattle.node_laws.proofs.Moves.{with_ordered}
use Rattle.node_laws.proofs.AdvanceMoves.{CanDrain, CanStep}
use Rattle.node_laws.proofs.Counts.{Grows, reach_grows}
use Rattle.node_laws.proofs.Leaving.{left_grows}
use Rattle.node_laws.proofs.ClusterMoves.{Stepped, Still, Moved, Ordered, Left, Joined, Received, Installed, cluster_moves}

-- ---- one node takes another's place
-- what is found is the new one, or was there
pub data Found (nodes : List ModelNode) (i : ℕ) (new : ModelNode) (j : ℕ) (n : ModelNode) : Type 0 where
  New : j ≡ i → new ≡ n → Found nodes i new j n
  Old : (j ≡ i → ⊥) → slice_get nodes j ≡ Some n → Found nodes i new j n

later : (x : ModelNode) (xs : List ModelNode) (i j : ℕ) (new n : ModelNode) → Found xs i new j n → Found (x ∷ xs) (suc i) new (suc j) n
later x xs i j new n (New here is) = New (ap suc here) is
later x xs i j new n (Old beside there) = Old (λ same. beside (omega (arith, same))) there

pub found : (nodes : List ModelNode) (i : ℕ) (new : ModelNode) (j : ℕ) (n : ModelNode) → slice_get (set_at nodes i new) j ≡ Some n → Found nodes i new j n
found [] i new j n there = cc
found (x ∷ xs) zero new zero n there = New refl (same_Some new n there)
found (x ∷ xs) zero new (suc j) n there = Old (λ same. omega (arith, same)) there
found (x ∷ xs) (suc i) new zero n there = Old (λ same. omega (arith, same)) there
found (x ∷ xs) (suc i) new (suc j) n there = later x xs i j new n (found xs i new j n there)

pub sizes-set : (nodes : List ModelNode) (i : ℕ) (n m : ModelNode) → slice_get nodes i ≡ Some n
    → sizes (set_at nodes i m) + node_size n ≡ sizes nodes + node_size m
sizes-set [] i n m there = cc
sizes-set (x ∷ xs) zero n m there =
    let same : node_size x ≡ node_size n = ap node_size (same_Some x n there) in omega (arith, same)
sizes-set (x ∷ xs) (suc i) n m there = omega (arith, sizes-set xs i n m there)

-- ---- how a step lets a cluster grow
-- a node that joins has another member afterwards; else it grows so
pub record Spends (k : ℕ) (n m : ModelNode) : Type 0 where
  pub begin : m.at.begin ≤ n.at.begin + k
  pub serial : m.at.serial + len m.live ≤ n.at.serial + len n.live + k
  pub size : length m.outbox + len m.live ≤ length n.outbox + len n.live + k

pub spends : (k : ℕ) (n m : ModelNode) → Grows k n m → Spends k n m
spends k n m grows = record { begin = grows.begin; serial = grows.serial; size = grows.size }

pub record GrownFrom (nodes : List ModelNode) (i : ℕ) (new : ModelNode) : Type 0 where
  pub old : ModelNode
  pub there : slice_get nodes i ≡ Some old
  pub grows : Spends 1 old new

pub record ClusterGrows (c : ModelCluster) (ordered : ℕ) (d : ModelCluster) : Type 0 where
  pub size : cluster_size d ≤ cluster_size c + 1
  pub order : length d.order ≡ length c.order + ordered
  pub count : length d.nodes ≡ length c.nodes
  pub each : (i : ℕ) (n : ModelNode) → slice_get d.nodes i ≡ Some n → GrownFrom c.nodes i n

grows_not : (n : ModelNode) → Spends 1 n n
grows_not n = record { begin = omega arith; serial = omega arith; size = omega arith }

pub set_count : {A : Type 0} (xs : List A) (i : ℕ) (a : A) → length (set_at xs i a) ≡ length xs
set_count [] i a = refl
set_count (x ∷ xs) zero a = refl
set_count (x ∷ xs) (suc i) a = ap suc (set_count xs i a)

-- the node that is put at a place is there
pub set_there : {A : Type 0} (xs : List A) (i : ℕ) (a b : A) → slice_get xs i ≡ Some a
    → slice_get (set_at xs i b) i ≡ Some b
set_there [] i a b there = cc
set_there (x ∷ xs) zero a b there = refl
set_there (x ∷ xs) (suc i) a b there = set_there xs i a b there

grown_by : (nodes : List ModelNode) (i : ℕ) (n m : ModelNode) → slice_get nodes i ≡ Some n → Spends 1 n m → (j : ℕ) (o : ModelNode)
    → Found nodes i m j o → GrownFrom nodes j o
grown_by nodes i n m there grows j o (New here is) =
    record { old = n; there = ap (slice_get nodes) here ∙ there; grows = subst (Spends 1 n) is grows }
grown_by nodes i n m there grows j o (Old beside same) = record { old = o; there = same; grows = grows_not o }

-- ---- a node joins, or has the state that it missed
-- whose queue and live transactions stay
module _ (c : ModelCluster) (i : ℕ) (n m : ModelNode) (there : slice_get c.nodes i ≡ Some n)
    (size : node_size m ≡ node_size n) (spent : Spends 1 n m) where
  placed_grows : (order : List Event) (ordered : ℕ) → ordered ≤ 1
      → length order ≡ length c.order + ordered
      → ClusterGrows c ordered (record { order = order; nodes = set_at c.nodes i m })
  placed_grows order ordered few long = record {
    size = omega (arith, sizes-set c.nodes i n m there, size, few, long);
    order = long;
    count = set_count c.nodes i m;
    each = λ j o at. grown_by c.nodes i n m there spent j o (found c.nodes i m j o at);
  }

stepped_grows : (c : ModelCluster) (given : ModelNode → Type 0) (can : Type 0) (ordered : ℕ)
    (d : ModelCluster) → Stepped c given can ordered d → ClusterGrows c ordered d
stepped_grows c given can ordered d Still = record {
  size = omega arith;
  order = omega arith;
  count = refl;
  each = λ i n there. record { old = n; there = there; grows = grows_not n };
}
stepped_grows c given can ordered d (Moved i n m there row) =
    let grows = reach_grows c.order (given n) true n 1 m row in
    record {
      size = omega (arith, sizes-set c.nodes i n m there, grows.size);
      order = omega arith;
      count = set_count c.nodes i m;
      each = λ j o at. grown_by c.nodes i n m there (spends 1 n m grows) j o (found c.nodes i m j o at);
    }
stepped_grows c given can ordered d (Left i n there stays) =
    let view = view_without c.order n.at.member ∷ [] in
    let m = left_node n in
    let zero_grows = left_grows n in
    let grows : Grows 1 n m = record {
      member = zero_grows.member;
      begin = omega (arith, zero_grows.begin);
      serial = omega (arith, zero_grows.serial);
      size = omega (arith, zero_grows.size);
    } in
    record {
      size = omega (
        arith,
        sizes-set c.nodes i n m there,
        zero_grows.size,
        length-append c.order view,
      );
      order = length-append c.order view;
      count = set_count c.nodes i m;
      each = λ j o at. grown_by c.nodes i n m there (spends 1 n m grows) j o (found c.nodes i m j o at);
    }
stepped_grows c given can ordered d (Ordered i n m front back there is row) =
    let more = map (event_of n.at.member) front in
    let sent = with_ordered n front back in
    let grows = reach_grows (c.order ++ more) (CanDrain (c.order ++ more) sent) true sent 0 m row in
    let out : length n.outbox ≡ length front + length back = ap length is ∙ length-append front back in
    let long : length (c.order ++ more) ≡ length c.order + length front =
    length-append c.order more ∙ ap (λ k. length c.order + k) (length-map front (event_of n.at.member)) in
    let after : Grows 1 n m = record {
      member = grows.member;
      begin = omega (arith, grows.begin);
      serial = omega (arith, grows.serial);
      size = omega (arith, grows.size, out);
    } in
    record {
      size = omega (arith, sizes-set c.nodes i n m there, grows.size, out, long);
      order = long;
      count = set_count c.nodes i m;
      each = λ j o at. grown_by c.nodes i n m there (spends 1 n m after) j o (found c.nodes i m j o at);
    }
stepped_grows c given can ordered d (Joined i n fresh there left all may) =
    let view = view_with c.order (new_member c.order) in
    placed_grows c i n (joined_node fresh (new_member c.order) (length c.order + 1) n) there refl
    (record { begin = omega arith; serial = omega arith; size = omega arith })
    (c.order ++ view ∷ []) 1 (omega arith) (length-append c.order (view ∷ []))
stepped_grows c given can ordered d (Received i n donor there joining gives more viewed) =
    placed_grows c i n (received_events donor.at.taken n) there refl
    (record { begin = omega arith; serial = omega arith; size = omega arith }) c.order 0
    (omega arith) (omega arith)
stepped_grows c given can ordered d (Installed i n donor there joining gives same viewed) =
    placed_grows c i n (received_snapshot donor.at.committed donor.id n) there refl
    (record { begin = omega arith; serial = omega arith; size = omega arith }) c.order 0
    (omega arith) (omega arith)

pub cluster_grows : (c : ModelCluster) (step : Step) → ClusterGrows c (will_order c step) (cluster_step c step).1
cluster_grows c step =
    stepped_grows c (λ n. CanStep n step.act) (CanJoin c step) (will_order c step)
    (cluster_step c step).1 (cluster_moves c step)
