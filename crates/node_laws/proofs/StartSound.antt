-- A cluster is sound at its start.
use Rattle.std.proofs.Common.{◌≡◌, ◌⊎◌, inl, inr, ℕ, zero, suc, ◌≤◌, ◌<◌, ◌^◌, List, [], ◌∷◌, ◌++◌, length, Some, refl, ap, sym, subst, ◌∙◌, arith, length-append, true≢false}
use Rattle.std.specs.Prelude.{slice_get, map}
use Rattle.std.specs.List.{AllByRecursion}
use Rattle.std.proofs.lemmas.List.{length-map}
use Rattle.std.proofs.lemmas.Option.{same_Some}
use Rattle.finite_map.specs.FiniteMap.{len-empty, get-empty}
use Rattle.std.specs.Ordering.{nat_cmp}
use Rattle.client_trx.specs.Live.{Live}
use Rattle.order_event.specs.declared.event.Event.{Event}
use Rattle.group_order.specs.Order.{start_order, up_to, last_member}
use Rattle.node_meaning.specs.Node.{ModelNode, start_node}
use Rattle.node_meaning.specs.Cluster.{start_cluster}
use Rattle.node_meaning.proofs.EntryLaws.{some_not_none}
use Rattle.node_meaning.proofs.StartNode.{start_facts}
use Rattle.node_laws.specs.InStep.{IsInStep}
use Rattle.node_laws.specs.Sizes.{sizes}
use Rattle.node_laws.proofs.Waiting.{AreIdle}
use Rattle.node_laws.proofs.LastMember.{start_last, start_each}
use Rattle.node_laws.proofs.Sound.{Differ, Sound, SoundCluster}

pub start_sizes : (gcache : ℕ) (id : List ℕ) (members : List ℕ)
    → sizes (map (start_node gcache id) members) ≡ 0
start_sizes gcache id [] = refl
start_sizes gcache id (m ∷ ms) =
    let rest : sizes (map (start_node gcache id) ms) ≡ 0 = start_sizes gcache id ms in
    omega (arith, len-empty nat_cmp Live, rest)

-- the node at a place is that of the member there
pub record StartsAt (gcache : ℕ) (id : List ℕ) (members : List ℕ) (i : ℕ) (n : ModelNode) : Type 0 where
  pub member : ℕ
  pub there : slice_get members i ≡ Some member
  pub is : start_node gcache id member ≡ n

starts_later : (gcache : ℕ) (id : List ℕ) (m : ℕ) (ms : List ℕ) (i : ℕ) (n : ModelNode)
    → StartsAt gcache id ms i n
    → StartsAt gcache id (m ∷ ms) (suc i) n
starts_later gcache id m ms i n s = record { member = s.member; there = s.there; is = s.is }

pub starts_at : (gcache : ℕ) (id : List ℕ) (members : List ℕ) (i : ℕ) (n : ModelNode)
    → slice_get (map (start_node gcache id) members) i ≡ Some n → StartsAt gcache id members i n
starts_at gcache id [] i n there = cc
starts_at gcache id (m ∷ ms) zero n there = record { member = m; there = refl; is = same_Some (start_node gcache id m) n there }
starts_at gcache id (m ∷ ms) (suc i) n there = starts_later gcache id m ms i n (starts_at gcache id ms i n there)

-- members count from 1
last_or : (xs : List ℕ) (last i m : ℕ) → slice_get (xs ++ last ∷ []) i ≡ Some m
    → (slice_get xs i ≡ Some m) ⊎ ((i ≡ length xs) × (last ≡ m))
last_or [] last zero m there = inr (refl, same_Some last m there)
last_or [] last (suc i) m there = cc
last_or (x ∷ xs) last zero m there = inl there
last_or (x ∷ xs) last (suc i) m there = later (last_or xs last i m there)
  where
    later : (slice_get xs i ≡ Some m) ⊎ ((i ≡ length xs) × (last ≡ m))
        → (slice_get xs i ≡ Some m) ⊎ ((suc i ≡ suc (length xs)) × (last ≡ m))
    later (inl before) = inl before
    later (inr at) = inr (ap suc at.0, at.1)

pub length-up_to : (nodes : ℕ) → length (up_to nodes) ≡ nodes
length-up_to zero = refl
length-up_to (suc nodes) = omega (arith, length-append (up_to nodes) (suc nodes ∷ []), length-up_to nodes)

counted : (nodes i m : ℕ) → slice_get (up_to nodes) i ≡ Some m → m ≡ suc i
counted zero i m there = cc
counted (suc nodes) i m there = by (last_or (up_to nodes) (suc nodes) i m there) (counted nodes i m)
  where
    by : (slice_get (up_to nodes) i ≡ Some m) ⊎ ((i ≡ length (up_to nodes)) × (suc nodes ≡ m))
        → (slice_get (up_to nodes) i ≡ Some m → m ≡ suc i) → m ≡ suc i
    by (inl before) rest = rest before
    by (inr at) rest = omega (arith, at.0, at.1, length-up_to nodes)

differ_at_start : (nodes gcache : ℕ) (id : List ℕ) → Differ (map (start_node gcache id) (up_to nodes))
differ_at_start nodes gcache id i j n m one other same =
    let first = starts_at gcache id (up_to nodes) i n one in
    let second = starts_at gcache id (up_to nodes) j m other in
    let at = counted nodes i first.member first.there in
    let too = counted nodes j second.member second.there in
    let here = ap (λ (o : ModelNode). o.at.member) first.is in
    let there = ap (λ (o : ModelNode). o.at.member) second.is in
    omega (arith, at, too, here, there, same)

nothing_waits : (gcache : ℕ) (id : List ℕ) (member : ℕ)
    → AreIdle (start_node gcache id member).waiting (start_node gcache id member).live
nothing_waits gcache id member q r there = absurd (some_not_none r _ there (get-empty nat_cmp q))

module _ (order : List Event) (gcache : ℕ) (id : List ℕ)
    (in_step : (m : ℕ) → IsInStep order (start_node gcache id m)) where
  start_node_sound : (m : ℕ) → m < 2 ^ 32 → m ≤ last_member order
      → Sound 1 order (start_node gcache id m)
  start_node_sound m few known = record {
    facts = start_facts order gcache id m;
    in_step = λ stays. in_step m;
    cleared = λ left. absurd (true≢false (sym left));
    waits = λ joining. absurd (true≢false (sym joining));
    idle = nothing_waits gcache id m;
    serial = omega (arith, len-empty nat_cmp Live);
    begin = omega arith;
    member = few;
    known = known;
  }

  start_nodes : (members : List ℕ) → AllByRecursion (λ m. m < 2 ^ 32) members
      → AllByRecursion (λ m. m ≤ last_member order) members → (i : ℕ) (n : ModelNode)
      → slice_get (map (start_node gcache id) members) i ≡ Some n → Sound 1 order n
  start_nodes [] few known i n there = cc
  start_nodes (m ∷ ms) few known zero n there =
      subst (Sound 1 order) (same_Some (start_node gcache id m) n there)
      (start_node_sound m few.0 known.0)
  start_nodes (m ∷ ms) few known (suc i) n there = start_nodes ms few.1 known.1 i n there

start_count : (nodes gcache : ℕ) (id : List ℕ)
    → length (map (start_node gcache id) (up_to nodes)) ≡ nodes
start_count nodes gcache id =
    length-map (up_to nodes) (start_node gcache id) ∙ length-up_to nodes

pub start_sound : (nodes gcache : ℕ) (id : List ℕ) → AllByRecursion (λ m. m < 2 ^ 32) (up_to nodes)
    → SoundCluster 1 (start_cluster nodes gcache id)
unfolding start_cluster
start_sound nodes gcache id few = record {
  size = omega (arith, start_sizes gcache id (up_to nodes));
  differ = differ_at_start nodes gcache id;
  knows = λ member above. refl;
  members = omega (arith, start_last nodes, start_count nodes gcache id);
  nodes = start_nodes (start_order nodes) gcache id (λ m. refl) (up_to nodes) few (start_each nodes);
}
