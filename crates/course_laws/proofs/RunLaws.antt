-- Each step of a cluster keeps what is kept of it along its run; and it holds at the start.
use Rattle.std.proofs.Common.{◌≡◌, ℕ, zero, suc, ◌+◌, ◌-◌, ◌≤◌, ◌<◌, ◌^◌, true, List, [], ◌∷◌, ◌++◌, length, Some, refl, ap, sym, subst, ◌∙◌, arith, inl, inr}
use Rattle.std.specs.Prelude.{map, slice_get}
use Rattle.std.specs.List.{AllByRecursion}
use Rattle.std.proofs.lemmas.Bool.{cases_eq}
use Rattle.std.proofs.lemmas.Option.{same_Some}
use Rattle.order_event.specs.declared.event.Message.{Message}
use Rattle.order_event.specs.declared.step.Step.{Step}
use Rattle.group_order.specs.Order.{event_of, start_order, up_to, view_without, view_with, new_member}
use Rattle.node_meaning.specs.Node.{ModelNode, is_left}
use Rattle.node_meaning.specs.Cluster.{ModelCluster, start_cluster, cluster_step, will_order}
use Rattle.node_laws.specs.Fits.{ActFits}
use Rattle.node_laws.specs.Joins.{CanJoin}
use Rattle.node_laws.specs.Given.{node_given, nodes_given, given}
use Rattle.node_laws.proofs.Moves.{with_ordered}
use Rattle.node_laws.proofs.AdvanceMoves.{CanDrain, CanStep}
use Rattle.node_laws.proofs.Counts.{reach_grows}
use Rattle.node_laws.proofs.SetLists.{all_each}
use Rattle.node_laws.proofs.ClusterMoves.{Stepped, Ordered, Left, Joined, cluster_moves}
use Rattle.node_laws.proofs.ClusterGrowth.{cluster_grows}
use Rattle.node_laws.proofs.InStep.{other_messages}
use Rattle.node_laws.proofs.Sound.{SoundCluster}
use Rattle.node_laws.proofs.StartSound.{starts_at, start_sound}
use Rattle.node_laws.proofs.ViewLists.{among_at, up_to_below}
use Rattle.node_laws.proofs.ClusterLaws.{step_sound}
use Rattle.course_laws.specs.Courses.{Course}
use Rattle.course_laws.specs.Laws.{OwnAreDecided, AllAreDecided, EndsIdle, NodeLaws}
use Rattle.course_laws.specs.Kept.{CourseKept}
pub use Rattle.course_laws.specs.RunLaws.{at_node, NodeKept, RunLaws, MembersFit}
use Rattle.course_laws.proofs.Growing.{all_at, decided_still}
use Rattle.course_laws.proofs.KeptLaws.{kept_laws, ends_idle}
use Rattle.course_laws.proofs.CourseSteps.{next_kept}
use Rattle.course_laws.proofs.CourseEnds.{start_course_kept}
use Rattle.course_laws.proofs.RunSteps.{set_here, silent_from, Turns, Remains, Renews, StepOf, cluster_step_of}

-- ---- every write set in the order
module _ (c : ModelCluster) (were : AllAreDecided c.order) where
  -- those that are new are of a node's member
  sent_decided : (member : ℕ) (front : List Message)
      → OwnAreDecided (c.order ++ map (event_of member) front) member
      → AllAreDecided (c.order ++ map (event_of member) front)
  sent_decided member front own k =
      let more = map (event_of member) front in
      elim (cases_eq member k) [
        | inl same ↦ subst (OwnAreDecided (c.order ++ more)) same own
        | inr other ↦
            decided_still c.order more k (were k)
            (silent_from k more (other_messages k member other front))
      ]

  stepped_decided : (may : ModelNode → Type 0) (can : Type 0) (ordered : ℕ) (d : ModelCluster)
      → Stepped c may can ordered d
      → ((i : ℕ) (n : ModelNode) → slice_get d.nodes i ≡ Some n
      → OwnAreDecided d.order n.at.member)
      → AllAreDecided d.order
  stepped_decided may can ordered d (Ordered i n m front back there is row) own =
      let order = c.order ++ map (event_of n.at.member) front in
      let sent = with_ordered n front back in
      let same = (reach_grows order (CanDrain order sent) true sent 0 m row).member in
      sent_decided n.at.member front
      (subst (OwnAreDecided order) same (own i m (set_here c.nodes i n m there)))
  stepped_decided may can ordered d (Left i n there stays) own =
      (λ k. decided_still c.order (view_without c.order n.at.member ∷ []) k (were k) (refl, tt))
  stepped_decided may can ordered d (Joined i n fresh there left all joins) own =
      (λ k. decided_still c.order (view_with c.order (new_member c.order) ∷ []) k (were k)
      (refl, tt))
  stepped_decided may can ordered d _ own = were

-- ---- the laws of a cluster
module _ (most : ℕ) (c : ModelCluster) (h : RunLaws most c) where
  pub node_laws_of : (i : ℕ) (n : ModelNode) → slice_get c.nodes i ≡ Some n → NodeLaws c.order n
  node_laws_of i n there =
      let k = (h.nodes i n there).kept in
      kept_laws n.at.member most c.order n k.kept k.viewed

  -- once a node that left has committed all that it took nothing is live
  pub idle_of : (i : ℕ) (n : ModelNode) → slice_get c.nodes i ≡ Some n
      → is_left n.at.phase ≡ true → EndsIdle n
  idle_of i n there left =
      ends_idle n.at.member most c.order n (h.nodes i n there).kept.kept left

  -- so a join that is not refused finds nothing live
  pub can_join : (step : Step) → MembersFit c step → CanJoin c step
  can_join step members fresh n is there left all = record {
    none_live = idle_of (step.node - 1) n there left all;
    member = members fresh n is there left all;
  }

-- ---- a step
module _ (most : ℕ) (small : most < 2 ^ 63) (c : ModelCluster) (h : RunLaws most c) (step : Step)
    (fits : ActFits step.act) (members : MembersFit c step) where
  abbrev d : ModelCluster
  d = (cluster_step c step).1

  pub sound_next : SoundCluster (most + 1) (cluster_step c step).1
  sound_next = step_sound most c small h.sound step fits (can_join most c h step members)

  pub short_next : length (cluster_step c step).1.order ≤ 2 ^ 63
  short_next = let size = sound_next.size in omega (arith, size, small)

  -- ---- the node at a place
  module _ (i : ℕ) (n : ModelNode) (there : slice_get c.nodes i ≡ Some n)
      (k : NodeKept most c i n) where
    pub step_in : StepOf c (cluster_step c step).1 i n k.former
    step_in = cluster_step_of most c h.sound i n there k.former k.kept k.apart step fits members

    pub course_next : CourseKept (most + 1)
        (at_node (cluster_step c step).1.order step_in.node step_in.now)
    course_next =
        let was = at_node c.order n k.former in
        subst (CourseKept (most + 1)) step_in.leads
        (next_kept most (omega (arith, small)) was k.kept step_in.happens step_in.fits
        (subst (λ (x : Course). length x.order ≤ 2 ^ 63) (sym step_in.leads) short_next))

    -- no other node has a member that it was
    not_new : AllByRecursion (λ x. new_member c.order ≡ x → ⊥) (n.at.member ∷ k.former)
    not_new =
        let known = k.kept.known in (
          λ same. omega (arith, known, same),
          all_each (λ x. x < n.at.member) (λ x. new_member c.order ≡ x → ⊥)
              (λ x below same. omega (arith, below, known, same)) k.former k.kept.below,
        )

    module _ (j : ℕ) (m : ModelNode) (other : slice_get c.nodes j ≡ Some m) (beside : j ≡ i → ⊥)
        (one : ModelNode) where
      apart_by : (former : List ℕ) (ones : List ℕ)
          → Turns c.order n k.former step_in.node step_in.now → Turns c.order m former one ones
          → AllByRecursion (λ y. one.at.member ≡ y → ⊥) step_in.now
      apart_by former ones (Remains same stays) (Remains too stay) =
          rw (too, stays) (k.apart j m other beside)
      apart_by former ones (Remains same stays) (Renews too joins) = rw (too, stays) not_new.1
      apart_by former ones (Renews same joins) (Remains too stay) =
          rw (too, joins) (
            λ is. beside (h.sound.differ j i m n other there is),
            k.apart j m other beside,
          )
      apart_by former ones (Renews same joins) (Renews too join) = rw (too, joins) not_new

  pub apart_next : (i : ℕ) (n : ModelNode) (there : slice_get c.nodes i ≡ Some n)
      (k : NodeKept most c i n) (j : ℕ) (m : ModelNode)
      → slice_get (cluster_step c step).1.nodes j ≡ Some m → (j ≡ i → ⊥)
      → AllByRecursion (λ y. m.at.member ≡ y → ⊥) (step_in i n there k).now
  apart_next i n there k j m other beside =
      let were = (cluster_grows c step).each j m other in
      let theirs = h.nodes j were.old were.there in
      let t = step_in j were.old were.there theirs in
      let too : t.node ≡ m = same_Some t.node m (sym t.there ∙ other) in
      subst (λ (x : ModelNode). AllByRecursion (λ y. x.at.member ≡ y → ⊥)
      (step_in i n there k).now) too
      (apart_by i n there k j were.old were.there beside t.node theirs.former t.now
      (step_in i n there k).turns t.turns)

  node_next : (i : ℕ) (n : ModelNode) → slice_get (cluster_step c step).1.nodes i ≡ Some n
      → NodeKept (most + 1) (cluster_step c step).1 i n
  node_next i n at =
      let was = (cluster_grows c step).each i n at in
      let k = h.nodes i was.old was.there in
      let s = step_in i was.old was.there k in
      let same : s.node ≡ n = same_Some s.node n (sym s.there ∙ at) in record {
        former = s.now;
        kept = subst (λ x. CourseKept (most + 1) (at_node (cluster_step c step).1.order x s.now))
            same (course_next i was.old was.there k);
        apart = apart_next i was.old was.there k;
      }

  -- what is kept of a cluster each step keeps
  pub run_laws_step : RunLaws (most + 1) (cluster_step c step).1
  run_laws_step = record {
    sound = sound_next;
    nodes = node_next;
    decided = stepped_decided c h.decided (λ n. CanStep n step.act) (CanJoin c step)
        (will_order c step) (cluster_step c step).1 (cluster_moves c step)
        (λ i n there. (node_next i n there).kept.kept.decided);
  }

-- ---- the numbers in it are bounds
module _ (most least : ℕ) (c : ModelCluster) (h : RunLaws most c) (size : given c ≤ least) where
  node_below : (nodes : List ModelNode) (i : ℕ) (n : ModelNode) → slice_get nodes i ≡ Some n
      → node_given n ≤ nodes_given nodes
  node_below [] i n there = cc
  node_below (x ∷ xs) zero n there =
      let same : node_given x ≡ node_given n = ap node_given (same_Some x n there) in
      omega (arith, same)
  node_below (x ∷ xs) (suc i) n there = omega (arith, node_below xs i n there)

  pub run_laws_within : RunLaws least c
  unfolding given
  run_laws_within = record {
    sound = record {
      size = omega (arith, size);
      differ = h.sound.differ;
      knows = h.sound.knows;
      members = h.sound.members;
      nodes = λ i n there.
          let s = h.sound.nodes i n there in
          let below = node_below c.nodes i n there in search (arith, size, below);
    };
    nodes = λ i n there.
        let k = h.nodes i n there in
        let below = node_below c.nodes i n there in
        record { former = k.former; kept = search (arith, size, below); apart = k.apart };
    decided = h.decided;
  }

pub run_laws_given : (most : ℕ) (c : ModelCluster) → RunLaws most c → RunLaws (given c) c
run_laws_given most c h = run_laws_within most (given c) c h (omega arith)

-- ---- the start
start_none : (nodes member : ℕ) → OwnAreDecided (start_order nodes) member
start_none nodes member zero body there = cc
start_none nodes member (suc k) body there = cc

pub run_laws_start : (nodes gcache : ℕ) (id : List ℕ) → nodes < 2 ^ 32
    → RunLaws 1 (start_cluster nodes gcache id)
unfolding start_cluster
run_laws_start nodes gcache id few =
    let small = up_to_below nodes (2 ^ 32) few in record {
      sound = start_sound nodes gcache id small;
      nodes = λ i n there.
          let at = starts_at gcache id (up_to nodes) i n there in record {
            former = [];
            kept = subst (λ x. CourseKept 1 (at_node (start_order nodes) x [])) at.is
                (start_course_kept nodes gcache at.member id
                (among_at (up_to nodes) i at.member at.there)
                (all_at (λ m. m < 2 ^ 32) (up_to nodes) small i at.member at.there));
            apart = λ j m other beside. tt;
          };
      decided = start_none nodes;
    }
