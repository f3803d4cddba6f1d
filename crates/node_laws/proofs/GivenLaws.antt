-- How much a cluster has given out after a step, and after one that was not done.
use Rattle.std.proofs.Common.{◌≡◌, ℕ, zero, suc, ◌+◌, ◌-◌, ◌≤◌, ◌<◌, ◌^◌, List, [], ◌∷◌, ◌++◌, length, Bool, true, false, None, Some, refl, sym, ap, subst, ◌∙◌, arith, Option, length-append}
use Rattle.std.specs.Prelude.{slice_get, map, replicate, IsTrue}
use Rattle.std.specs.List.{AllByRecursion}
use Rattle.std.proofs.lemmas.List.{length-map}
use Rattle.std.specs.Ordering.{nat_cmp}
use Rattle.std.proofs.lemmas.Option.{same_Some}
use Rattle.finite_map.specs.FiniteMap.{len, len-empty}
use Rattle.client_trx.specs.Live.{Live}
use Rattle.order_event.specs.declared.event.Event.{Event}
use Rattle.order_event.specs.declared.event.Message.{Message}
use Rattle.order_event.specs.declared.step.Act.{Act}
use Rattle.order_event.specs.declared.step.Act.TheVariants as act
use Rattle.order_event.specs.declared.step.Step.{Step}
use Rattle.group_order.specs.Order.{event_of, up_to}
use Rattle.node_meaning.specs.Node.{ModelNode, start_node}
use Rattle.node_meaning.specs.Steps.{sent_out, first_sent, commit_next, all_taken, all_certified}
use Rattle.node_meaning.specs.Cluster.{ModelCluster, start_cluster, set_at, order_first, step_of, step_at, cluster_step}
use Rattle.node_laws.specs.Sizes.{node_size}
use Rattle.node_laws.specs.Given.{node_given, nodes_given, given, CanGoOn}
use Rattle.node_laws.specs.Drains.{after_acts, all_sent, commit_acts, certified_acts, taken_acts, sent_acts, drain_acts, drain_acts_of, StoppedAt}
use Rattle.node_laws.proofs.Counts.{Grows}
use Rattle.node_laws.proofs.StepCounts.{sent_out_grows, take_grows, certify_grows, start_grows, finish_grows, advance_grows}
use Rattle.node_laws.proofs.ClusterGrowth.{Spends, spends, cluster_grows, sizes-set, set_count}
use Rattle.node_laws.proofs.StartSound.{start_sizes, length-up_to}

-- ---- the greatest of all nodes
given_at_most : (most : ℕ) (nodes : List ModelNode) → ((i : ℕ) (n : ModelNode) → slice_get nodes i ≡ Some n → node_given n ≤ most) → nodes_given nodes ≤ most
given_at_most most [] each = omega arith
given_at_most most (x ∷ xs) each = omega (arith, each 0 x refl, given_at_most most xs (λ i n there. each (suc i) n there))

node_at_most : (nodes : List ModelNode) (i : ℕ) (n : ModelNode) → slice_get nodes i ≡ Some n → node_given n ≤ nodes_given nodes
node_at_most [] i n there = cc
node_at_most (x ∷ xs) zero n there = let same : node_given x ≡ node_given n = ap node_given (same_Some x n there) in omega (arith, same)
node_at_most (x ∷ xs) (suc i) n there = omega (arith, node_at_most xs i n there)

spent : (k : ℕ) (n m : ModelNode) → Spends k n m → node_given m ≤ node_given n + k
spent k n m grows = omega (arith, grows.serial, grows.begin)

grown : (k : ℕ) (n m : ModelNode) → Grows k n m → node_given m ≤ node_given n + k
grown k n m grows = spent k n m (spends k n m grows)

-- what a step needs
pub node_goes_on : (c : ModelCluster) → given c < 2 ^ 63 → (i : ℕ) (n : ModelNode) → slice_get c.nodes i ≡ Some n → CanGoOn n
unfolding given
node_goes_on c small i n there =
    let most = node_at_most c.nodes i n there in
    record { serial = omega (arith, most, small); begin = omega (arith, most, small) }

-- ---- a step that was done
pub step_given : (c : ModelCluster) (step : Step) → given (cluster_step c step).1 ≤ given c + 1
unfolding given
step_given c step =
    let grows = cluster_grows c step in
    let nodes : nodes_given (cluster_step c step).1.nodes ≤ nodes_given c.nodes + 1 =
    given_at_most (nodes_given c.nodes + 1) (cluster_step c step).1.nodes (λ i n there.
    let from = grows.each i n there in
    omega (arith, spent 1 from.old n from.grows, node_at_most c.nodes i from.old from.there)) in
    omega (arith, grows.size, nodes)

-- ---- the parts of a drain give out nothing
is_part : Act → Bool
is_part act.Order = true
is_part act.Take = true
is_part act.Certify = true
is_part (act.Start number) = true
is_part (act.Finish number) = true
is_part act.Advance = true
is_part other = false

pub record Stays (c d : ModelCluster) : Type 0 where
  pub nodes : length d.nodes ≡ length c.nodes
  pub given : given d ≤ given c

set_given : (nodes : List ModelNode) (i : ℕ) (n m : ModelNode) → slice_get nodes i ≡ Some n → Grows 0 n m → nodes_given (set_at nodes i m) ≤ nodes_given nodes
set_given [] i n m there grows = omega arith
set_given (x ∷ xs) zero n m there grows =
    let same : node_given x ≡ node_given n = ap node_given (same_Some x n there) in omega (arith, same, grown 0 n m grows)
set_given (x ∷ xs) (suc i) n m there grows = omega (arith, set_given xs i n m there grows)

module _ (c : ModelCluster) (i : ℕ) (n : ModelNode) (there : slice_get c.nodes i ≡ Some n) where
  node_stays : (m : ModelNode) → Grows 0 n m → Stays c (record c { nodes = set_at c.nodes i m })
  unfolding given
  node_stays m grows = record {
    nodes = set_count c.nodes i m;
    given = omega (arith, sizes-set c.nodes i n m there, grows.size, set_given c.nodes i n m there grows);
  }

  order_stays : (queue : List Message) → n.outbox ≡ queue → Stays c (order_first c i n queue).1
  unfolding given
  order_stays [] is = record { nodes = refl; given = omega arith }
  order_stays (m ∷ ms) is =
      let long = length-append c.order (event_of n.at.member m ∷ []) in
      let fewer : node_size (sent_out n) + 1 ≡ node_size n =
      ap (λ (queue : List Message). node_size (first_sent n queue) + 1) is
      ∙ (let e : length ms + len n.live + 1 ≡ length (m ∷ ms) + len n.live = omega arith in e)
      ∙ ap (λ (queue : List Message). length queue + len n.live) (sym is) in
      record {
        nodes = set_count c.nodes i (sent_out n);
        given = omega (arith, long, fewer, sizes-set c.nodes i n (sent_out n) there, set_given c.nodes i n (sent_out n) there (sent_out_grows c.order n));
      }

  part_stays : (a : Act) → IsTrue (is_part a) → Stays c (step_of c i n a).1
  unfolding is_part
  part_stays act.Order part = order_stays n.outbox refl
  part_stays act.Take part = node_stays _ (take_grows c.order n)
  part_stays act.Certify part = node_stays _ (certify_grows c.order n)
  part_stays (act.Start number) part = node_stays _ (start_grows c.order n number)
  part_stays (act.Finish number) part = node_stays _ (finish_grows c.order n number)
  part_stays act.Advance part = node_stays _ (advance_grows c.order n)
  part_stays other part = absurd cc

part_at : (c : ModelCluster) (i : ℕ) (o : Option ModelNode) (a : Act) → slice_get c.nodes i ≡ o → IsTrue (is_part a) → Stays c (step_at c i o a).1
part_at c i None a there part = record { nodes = refl; given = omega arith }
part_at c i (Some n) a there part = part_stays c i n there a part

abbrev AreParts : List Act → Type 0
AreParts acts = AllByRecursion (λ a. IsTrue (is_part a)) acts

parts_stay : (c : ModelCluster) (node : ℕ) (acts : List Act) → AreParts acts → Stays c (after_acts c node acts)
unfolding after_acts cluster_step
parts_stay c node [] parts = record { nodes = refl; given = omega arith }
parts_stay c node (a ∷ acts) parts =
    let next = (cluster_step c (record { node = node; act = a })).1 in
    let one = part_at c (node - 1) (slice_get c.nodes (node - 1)) a refl parts.0 in
    let rest = parts_stay next node acts parts.1 in
    record { nodes = rest.nodes ∙ one.nodes; given = omega (arith, rest.given, one.given) }

-- ---- all steps of a drain are parts
parts_more : (one other : List Act) → AreParts one → AreParts other → AreParts (one ++ other)
parts_more [] other here there = there
parts_more (a ∷ one) other here there = (here.0, parts_more one other here.1 there)

parts_front : (one other : List Act) → AreParts (one ++ other) → AreParts one
parts_front [] other parts = tt
parts_front (a ∷ one) other parts = (parts.0, parts_front one other parts.1)

parts_same : (k : ℕ) (a : Act) → IsTrue (is_part a) → AreParts (replicate k a)
parts_same zero a part = tt
parts_same (suc k) a part = (part, parts_same k a part)

commit_parts : (order : List Event) (k : ℕ) (n : ModelNode) → AreParts (commit_acts order k n)
unfolding is_part
commit_parts order zero n = tt
commit_parts order (suc k) n = (refl, (refl, (refl, commit_parts order k (commit_next order n))))

taken_parts : (order : List Event) (n : ModelNode) → AreParts (taken_acts order n)
unfolding is_part
taken_parts order n =
    let m = all_certified order n in
    parts_more (replicate (n.at.taken - n.at.certified) act.Certify) (certified_acts order m)
    (parts_same (n.at.taken - n.at.certified) act.Certify refl) (commit_parts order (m.at.certified - m.at.committed) m)

sent_parts : (order : List Event) (n : ModelNode) → AreParts (sent_acts (order, n))
unfolding is_part
sent_parts order n =
    parts_more (replicate (length order - n.at.taken) act.Take) (taken_acts order (all_taken order n))
    (parts_same (length order - n.at.taken) act.Take refl) (taken_parts order (all_taken order n))

drain_parts : (order : List Event) (n : ModelNode) → AreParts (drain_acts order n)
unfolding is_part
drain_parts order n =
    parts_more (replicate (length n.outbox) act.Order) (sent_acts (all_sent order n))
    (parts_same (length n.outbox) act.Order refl) (sent_parts (all_sent order n).0 (all_sent order n).1)

drain_parts_of : (order : List Event) (o : Option ModelNode) → AreParts (drain_acts_of order o)
drain_parts_of order None = tt
drain_parts_of order (Some n) = drain_parts order n

-- ---- a step that was not done
pub stopped_stays : (a : Act) (node : ℕ) (old new : ModelCluster) (next : Act) → StoppedAt a node old new next → Stays old new
stopped_stays act.Drain node old new next stopped =
    subst (Stays old) (sym stopped.is)
    (parts_stay old node stopped.done (parts_front stopped.done (next ∷ stopped.rest)
    (subst AreParts stopped.front (drain_parts_of old.order (slice_get old.nodes (node - 1))))))
stopped_stays other node old new next stopped = subst (Stays old) (sym stopped.1) (record { nodes = refl; given = omega arith })

-- ---- at the start
start_given : (gcache : ℕ) (id members : List ℕ)
    → nodes_given (map (start_node gcache id) members) ≤ 1
start_given gcache id [] = omega arith
start_given gcache id (m ∷ ms) =
    omega (arith, len-empty nat_cmp Live, start_given gcache id ms)

pub given_at_start : (nodes gcache : ℕ) (id : List ℕ) → given (start_cluster nodes gcache id) ≡ 1
unfolding given start_cluster
given_at_start nodes gcache id =
    omega (arith, start_sizes gcache id (up_to nodes), start_given gcache id (up_to nodes))

pub nodes_at_start : (nodes gcache : ℕ) (id : List ℕ)
    → length (start_cluster nodes gcache id).nodes ≡ nodes
unfolding start_cluster
nodes_at_start nodes gcache id =
    length-map (up_to nodes) (start_node gcache id) ∙ length-up_to nodes
