-- Over runs of a cluster: how fast it grows, that each node keeps its facts and is in step with the
-- order until it leaves, that members differ, and that no session has a transaction while an answer
-- waits for it.
use Rattle.std.proofs.Common.{◌≡◌, ℕ, ◌+◌, ◌≤◌, ◌<◌, ◌^◌, Bool, true, false, List, [], ◌∷◌, ◌++◌, length, Some, refl, ap, sym, subst, ◌∙◌, arith, length-append, true≢false}
use Rattle.std.specs.Prelude.{slice_get, map}
use Rattle.std.specs.List.{AllByRecursion}
use Rattle.std.proofs.lemmas.List.{length-map}
use Rattle.order_event.specs.declared.event.Event.{Event}
use Rattle.order_event.specs.declared.event.Event.TheVariants as event
use Rattle.order_event.specs.declared.event.Message.{Message}
use Rattle.order_event.specs.declared.step.Act.{Act}
use Rattle.order_event.specs.declared.step.Act.TheVariants as act
use Rattle.order_event.specs.declared.step.Step.{Step}
use Rattle.group_order.specs.Order.{event_of, last_view, last_member, new_member, view_without, view_with}
use Rattle.node_meaning.specs.declared.progress.Progress.{Progress}
use Rattle.node_meaning.specs.declared.progress.Phase.{Phase}
use Rattle.node_meaning.specs.declared.progress.Phase.TheVariants as phase
use Rattle.node_meaning.specs.Node.{ModelNode, is_left, is_joining}
use Rattle.node_meaning.specs.Leaving.{left_node}
use Rattle.node_meaning.specs.Joining.{joined_node, received_events, received_snapshot}
use Rattle.node_meaning.specs.Cluster.{ModelCluster, set_at, cluster_step, run, will_order}
use Rattle.node_meaning.specs.Facts.{ProgressInRange}
use Rattle.node_meaning.proofs.GrowFacts.{facts_grow}
use Rattle.node_meaning.proofs.Joining.{joined_facts, received_facts, installed_facts}
pub use Rattle.node_laws.specs.Fits.{ActFits}
pub use Rattle.node_laws.specs.Joins.{MayJoin, CanJoin, CanJoinAll}
use Rattle.node_laws.specs.Sizes.{node_size, cluster_size}
use Rattle.node_laws.proofs.Moves.{with_ordered, Orders, Reaches}
use Rattle.node_laws.proofs.AdvanceMoves.{CanDrain, CanStep}
use Rattle.node_laws.proofs.Counts.{reach_grows}
use Rattle.node_laws.proofs.FactsMoved.{facts_moved, facts_reached}
use Rattle.node_laws.proofs.InStep.{IsInStep, in_step_reached, in_step_ordered, in_step_beside, in_step_viewed, phase_reached}
use Rattle.node_laws.proofs.Cleared.{cleared_reached, cleared_ordered, left_cleared}
use Rattle.node_laws.proofs.Leaving.{left_at, left_grows, left_idle, facts_left_over}
use Rattle.node_laws.proofs.Waiting.{idle_reached}
use Rattle.node_laws.proofs.LastMember.{last-grows, last-sent, last-without, last-with}
use Rattle.node_laws.proofs.Joining.{knows_sent, knows_viewed, knows_none-joined, waiting_reached, waiting_ordered, in_step_joined, in_step_received, in_step_installed, none_behind_it, none_own, left_rests}
use Rattle.node_laws.proofs.ClusterMoves.{Stepped, Still, Moved, Ordered, Left, Joined, Received, Installed, IsDonor, cluster_moves}
pub use Rattle.node_laws.proofs.ClusterGrowth.{Found, New, Old, found, sizes-set, set_count, Spends, GrownFrom, ClusterGrows, cluster_grows}
pub use Rattle.node_laws.proofs.Sound.{Differ, differ_set, differ_new, Sound, SoundCluster, new_member_fits}
pub use Rattle.node_laws.proofs.StartSound.{start_sizes, starts_at, StartsAt, length-up_to, start_sound}

-- a node after moves that let it grow by at most so much
reached_sound : (least most : ℕ) (order : List Event) (given : Type 0) → given → (n : ModelNode)
    (k : ℕ) (m : ModelNode) → Reaches order given true n k m → least + k ≤ most
    → Sound least order n → Sound most order m
reached_sound least most order given g n k m row enough s =
    let grows = reach_grows order given true n k m row in record {
      facts = facts_reached order given true g n k m row s.facts;
      in_step = λ stays. in_step_reached order given true n k m row
          (s.in_step (ap is_left (sym (phase_reached order given true n k m row)) ∙ stays));
      cleared = cleared_reached order given true n k m row s.cleared;
      waits = waiting_reached order given true n k m row s.waits;
      idle = idle_reached order given true n k m row s.idle;
      serial = omega (arith, s.serial, grows.serial, enough);
      begin = omega (arith, s.begin, grows.begin, enough);
      member = subst (λ k. k < 2 ^ 32) (sym grows.member) s.member;
      known = omega (arith, grows.member, s.known);
    }

module _ (most : ℕ) (c : ModelCluster) (small : most < 2 ^ 63) (sound : SoundCluster most c) where
  in_range : (n : ModelNode) → Sound most c.order n → ProgressInRange n.at
  in_range n s =
      let o = s.facts.in_order in record {
        member = s.member;
        committed =
            omega (arith, small, sound.size, o.committed_fits, o.certified_fits, o.taken_fits);
        serial = omega (arith, small, s.serial);
        begin = omega (arith, small, s.begin);
      }

  can_step : (a : Act) → ActFits a → (n : ModelNode) → Sound most c.order n → CanStep n a
  can_step (act.Client session call) fits n s =
      record { names = fits.0; values = fits.1; range = in_range n s }
  can_step act.Order fits n s = tt
  can_step act.Take fits n s = tt
  can_step act.Certify fits n s = tt
  can_step (act.Start number) fits n s =
      let range = in_range n s in record {
        member = s.member;
        committed = range.committed;
        serial = omega (arith, small, s.serial);
        begin = range.begin;
      }
  can_step (act.Finish number) fits n s = tt
  can_step act.Advance fits n s = tt
  can_step act.Drain fits n s = tt
  can_step act.Report fits n s = tt
  can_step act.Status fits n s = tt
  can_step act.Leave fits n s = tt
  can_step (act.Join fresh) fits n s = tt
  can_step (act.Transfer donor) fits n s = tt

  -- a node that does nothing, over an order that grows by what is in step with it
  over_sound : (more : List Event) (n : ModelNode)
      → (IsInStep c.order n → IsInStep (c.order ++ more) n)
      → Sound most c.order n → Sound (most + 1) (c.order ++ more) n
  over_sound more n in_step s = record {
    facts = facts_grow c.order more n s.facts;
    in_step = λ stays. in_step (s.in_step stays);
    cleared = s.cleared;
    waits = s.waits;
    idle = s.idle;
    serial = omega (arith, s.serial);
    begin = omega (arith, s.begin);
    member = s.member;
    known = omega (arith, s.known, last-grows c.order more);
  }

  same_sound : (n : ModelNode) → Sound most c.order n → Sound (most + 1) c.order n
  same_sound n s = record {
    facts = s.facts;
    in_step = s.in_step;
    cleared = s.cleared;
    waits = s.waits;
    idle = s.idle;
    serial = omega (arith, s.serial);
    begin = omega (arith, s.begin);
    member = s.member;
    known = s.known;
  }

  -- by what another one had sent
  other_sound : (other : ℕ) (front : List Message) (n : ModelNode) → (other ≡ n.at.member → ⊥)
      → Sound most c.order n → Sound (most + 1) (c.order ++ map (event_of other) front) n
  other_sound other front n differs s =
      over_sound (map (event_of other) front) n
      (λ h. in_step_beside c.order n s.facts.in_order.taken_fits h other differs front) s

  -- where one node was changed, all are sound if it is, and each other one is over the new order
  all_sound : (order : List Event) (i : ℕ) (m : ModelNode) → Sound (most + 1) order m
      → ((j : ℕ) (n : ModelNode) → (j ≡ i → ⊥) → slice_get c.nodes j ≡ Some n
      → Sound (most + 1) order n)
      → (j : ℕ) (n : ModelNode) → Found c.nodes i m j n → Sound (most + 1) order n
  all_sound order i m new old j n (New here is) = subst (Sound (most + 1) order) is new
  all_sound order i m new old j n (Old beside there) = old j n beside there

  -- ---- one node moves
  module _ (given : ModelNode → Type 0)
      (can : (n : ModelNode) → Sound most c.order n → given n) where
    moved_sound : (i : ℕ) (n m : ModelNode) → slice_get c.nodes i ≡ Some n
        → Reaches c.order (given n) true n 1 m
        → SoundCluster (most + 1) (record c { nodes = set_at c.nodes i m })
    moved_sound i n m there row =
        let s = sound.nodes i n there in
        let grows = reach_grows c.order (given n) true n 1 m row in
        let new = reached_sound most (most + 1) c.order (given n) (can n s) n 1 m row
        (omega arith) s in
        record {
          size = omega (arith, sound.size, sizes-set c.nodes i n m there, grows.size);
          differ = differ_set c.nodes i n m there grows.member sound.differ;
          knows = sound.knows;
          members = omega (arith, sound.members, set_count c.nodes i m);
          nodes = λ j o at. all_sound c.order i m new
              (λ k x beside was. same_sound x (sound.nodes k x was)) j o (found c.nodes i m j o at);
        }

  -- ---- messages are ordered
  sent_sound : (n : ModelNode) (front back : List Message) → n.outbox ≡ front ++ back
      → Sound most c.order n
      → Sound most (c.order ++ map (event_of n.at.member) front) (with_ordered n front back)
  sent_sound n front back is s =
      let more = map (event_of n.at.member) front in
      let order = c.order ++ more in record {
        facts = facts_moved order (Unit {0}) tt n _ (with_ordered n front back)
            (Orders front back is) (facts_grow c.order more n s.facts);
        in_step = λ stays. in_step_ordered c.order n s.facts.in_order.taken_fits (s.in_step stays)
            front back;
        cleared = λ left. cleared_ordered n front back is (s.cleared left);
        waits = λ joining. waiting_ordered n front back is (s.waits joining);
        idle = s.idle;
        serial = s.serial;
        begin = s.begin;
        member = s.member;
        known = omega (arith, s.known, last-grows c.order more);
      }

  ordered_sound : (i : ℕ) (n m : ModelNode) (front back : List Message)
      → slice_get c.nodes i ≡ Some n → n.outbox ≡ front ++ back
      → Reaches (c.order ++ map (event_of n.at.member) front)
      (CanDrain (c.order ++ map (event_of n.at.member) front) (with_ordered n front back)) true
      (with_ordered n front back) 0 m
      → SoundCluster (most + 1)
      (record { order = c.order ++ map (event_of n.at.member) front; nodes = set_at c.nodes i m })
  ordered_sound i n m front back there is row =
      let more = map (event_of n.at.member) front in
      let order = c.order ++ more in
      let s = sound.nodes i n there in
      let sent = with_ordered n front back in
      let grows = reach_grows order (CanDrain order sent) true sent 0 m row in
      let out : length n.outbox ≡ length front + length back =
      ap length is ∙ length-append front back in
      let long : length order ≡ length c.order + length front =
      length-append c.order more
      ∙ ap (λ k. length c.order + k) (length-map front (event_of n.at.member)) in
      let size : cluster_size (record { order = order; nodes = set_at c.nodes i m }) ≤ most + 1 =
      omega (arith, sound.size, sizes-set c.nodes i n m there, grows.size, out, long) in
      let can : CanDrain order sent = record {
        member = s.member;
        events = omega (arith, small, size);
        serial = omega (arith, small, s.serial);
        begin = omega (arith, small, s.begin);
      } in
      let new = reached_sound most (most + 1) order (CanDrain order sent) can sent 0 m row
      (omega arith) (sent_sound n front back is s) in
      record {
        size = size;
        differ = differ_set c.nodes i n m there grows.member sound.differ;
        knows = knows_sent c.order n.at.member front s.known sound.knows;
        members = omega (
          arith,
          sound.members,
          set_count c.nodes i m,
          long,
          last-sent c.order n.at.member front,
        );
        nodes = λ j o at. all_sound order i m new
            (λ k x beside was.
            other_sound n.at.member front x
            (λ same. beside (sound.differ k i x n was there (sym same))) (sound.nodes k x was)) j o
            (found c.nodes i m j o at);
      }

  -- ---- a view is ordered
  -- which gives no greater member than one more
  viewed_sound : (version : ℕ) (members : List ℕ) (i : ℕ) (n m : ModelNode)
      → slice_get c.nodes i ≡ Some n → node_size m ≤ node_size n
      → last_member (c.order ++ event.View version members ∷ []) ≤ last_member c.order + 1
      → Differ (set_at c.nodes i m)
      → Sound (most + 1) (c.order ++ event.View version members ∷ []) m
      → SoundCluster (most + 1)
      (record { order = c.order ++ event.View version members ∷ []; nodes = set_at c.nodes i m })
  viewed_sound version members i n m there size few differ new =
      let view = event.View version members ∷ [] in
      let long = length-append c.order view in record {
        size = omega (arith, sound.size, sizes-set c.nodes i n m there, size, long);
        differ = differ;
        knows = knows_viewed c.order version members sound.knows;
        members = omega (arith, sound.members, set_count c.nodes i m, long, few);
        nodes = λ j o at. all_sound (c.order ++ view) i m new
            (λ k x beside was.
            let h = sound.nodes k x was in
            over_sound view x
            (λ step. in_step_viewed c.order x h.facts.in_order.taken_fits step _ _) h) j o
            (found c.nodes i m j o at);
      }

  left_sound : (i : ℕ) (n : ModelNode) → slice_get c.nodes i ≡ Some n
      → SoundCluster (most + 1)
      (record {
        order = c.order ++ view_without c.order n.at.member ∷ [];
        nodes = set_at c.nodes i (left_node n);
      })
  left_sound i n there =
      let view = view_without c.order n.at.member ∷ [] in
      let s = sound.nodes i n there in
      let m = left_node n in
      let grows = left_grows n in
      viewed_sound (last_view c.order).0 _ i n m there (omega (arith, grows.size))
      (omega (arith, last-without c.order n.at.member))
      (differ_set c.nodes i n m there grows.member sound.differ)
      (record {
        facts = facts_left_over n c.order view s.facts;
        in_step = λ stays. absurd (true≢false
            (ap (λ (at : Progress). is_left at.phase) (sym (left_at n)) ∙ stays));
        cleared = λ left. left_cleared n;
        waits = λ joining. absurd (true≢false
            (sym (ap (λ (at : Progress). is_joining at.phase) (sym (left_at n)) ∙ joining)));
        idle = left_idle n s.idle;
        serial = omega (arith, s.serial, grows.serial);
        begin = omega (arith, s.begin, grows.begin);
        member = subst (λ k. k < 2 ^ 32) (sym grows.member) s.member;
        known = omega (arith, grows.member, s.known, last-grows c.order view);
      })

  joined_sound : (i : ℕ) (n : ModelNode) (fresh : Bool) → slice_get c.nodes i ≡ Some n
      → is_left n.at.phase ≡ true → n.at.taken ≡ n.at.committed → MayJoin c n
      → SoundCluster (most + 1)
      (record {
        order = c.order ++ view_with c.order (new_member c.order) ∷ [];
        nodes = set_at c.nodes i
            (joined_node fresh (new_member c.order) (length c.order + 1) n);
      })
  joined_sound i n fresh there left all may =
      let member = new_member c.order in
      let view = view_with c.order member ∷ [] in
      let s = sound.nodes i n there in
      let m = joined_node fresh member (length c.order + 1) n in
      let rest = left_rests c.order n s.facts (s.cleared left) all may.none_live in
      let last = last-with c.order in
      let fits = s.facts.in_order.taken_fits in
      viewed_sound (last_view c.order).0 _ i n m there (omega arith) (omega (arith, last))
      (differ_new c.nodes i m
      (λ j o beside at same. omega (arith, (sound.nodes j o at).known, same)) sound.differ)
      (record {
        facts = joined_facts (c.order ++ view) fresh member (length c.order + 1) n rest
            (facts_grow c.order view n s.facts);
        in_step = λ stays. in_step_joined c.order view fresh member (length c.order + 1) n rest
            (knows_none-joined c.order _ _ member (omega arith) sound.knows);
        cleared = λ now. absurd (true≢false (sym now));
        waits = λ joining. (rest, omega (arith, fits));
        idle = s.idle;
        serial = omega (arith, s.serial);
        begin = omega arith;
        member = may.member;
        known = omega (arith, last);
      })

  -- ---- a node has the state that it missed
  -- its numbers are as they were
  placed_sound : (i : ℕ) (n m : ModelNode) → slice_get c.nodes i ≡ Some n
      → node_size m ≡ node_size n → m.at.member ≡ n.at.member → Sound (most + 1) c.order m
      → SoundCluster (most + 1) (record c { nodes = set_at c.nodes i m })
  placed_sound i n m there size same new = record {
    size = omega (arith, sound.size, sizes-set c.nodes i n m there, size);
    differ = differ_set c.nodes i n m there same sound.differ;
    knows = sound.knows;
    members = omega (arith, sound.members, set_count c.nodes i m);
    nodes = λ j o at. all_sound c.order i m new
        (λ k x beside was. same_sound x (sound.nodes k x was)) j o (found c.nodes i m j o at);
  }

  joining_stays : (now : Phase) → is_joining now ≡ true → is_left now ≡ false
  joining_stays phase.Left joining = cc
  joining_stays phase.Joining joining = refl
  joining_stays phase.Connected joining = cc

  donor_within : (donor : ModelNode) → IsDonor c donor
      → (donor.at.committed ≤ length c.order) × (donor.at.taken ≤ length c.order)
  donor_within donor gives =
      let o = (sound.nodes gives.place donor gives.there).facts.in_order in (
        omega (arith, o.committed_fits, o.certified_fits, o.taken_fits),
        o.taken_fits,
      )

  received_sound : (i : ℕ) (n donor : ModelNode) → slice_get c.nodes i ≡ Some n
      → is_joining n.at.phase ≡ true → IsDonor c donor → n.at.committed < donor.at.taken
      → SoundCluster (most + 1)
      (record c { nodes = set_at c.nodes i (received_events donor.at.taken n) })
  received_sound i n donor there joining gives more =
      let s = sound.nodes i n there in
      let rest = (s.waits joining).0 in
      let step = s.in_step (joining_stays n.at.phase joining) in
      let last = donor.at.taken in
      let behind : n.at.taken ≤ last = omega (arith, rest.all_committed, more) in
      placed_sound i n (received_events last n) there refl refl (record {
        facts = received_facts c.order last n rest behind (donor_within donor gives).1
            (none_own c.order n.at.member n.at.taken last (none_behind_it c.order n rest step))
            s.facts;
        in_step = λ stays. in_step_received c.order n rest step last behind;
        cleared = λ left. absurd (true≢false (sym left));
        waits = λ again. absurd (true≢false (sym again));
        idle = s.idle;
        serial = omega (arith, s.serial);
        begin = omega (arith, s.begin);
        member = s.member;
        known = s.known;
      })

  installed_sound : (i : ℕ) (n donor : ModelNode) → slice_get c.nodes i ≡ Some n
      → is_joining n.at.phase ≡ true → IsDonor c donor → n.at.view ≤ donor.at.committed
      → SoundCluster (most + 1)
      (record c { nodes = set_at c.nodes i (received_snapshot donor.at.committed donor.id n) })
  installed_sound i n donor there joining gives viewed =
      let s = sound.nodes i n there in
      let waits = s.waits joining in
      let step = s.in_step (joining_stays n.at.phase joining) in
      let number = donor.at.committed in
      let behind : n.at.taken ≤ number = omega (arith, waits.1, viewed) in
      placed_sound i n (received_snapshot number donor.id n) there refl refl (record {
        facts = installed_facts c.order number donor.id n waits.0 (donor_within donor gives).0
            s.facts;
        in_step = λ stays. in_step_installed c.order n waits.0 step number donor.id behind;
        cleared = λ left. absurd (true≢false (sym left));
        waits = λ again. absurd (true≢false (sym again));
        idle = s.idle;
        serial = omega (arith, s.serial);
        begin = omega (arith, s.begin);
        member = s.member;
        known = s.known;
      })

  -- ---- every step
  stepped_sound : (given : ModelNode → Type 0)
      → ((n : ModelNode) → Sound most c.order n → given n) → (can : Type 0) → can → (ordered : ℕ)
      (d : ModelCluster) → Stepped c given can ordered d → SoundCluster (most + 1) d
  stepped_sound given may can h ordered d Still = record {
    size = omega (arith, sound.size);
    differ = sound.differ;
    knows = sound.knows;
    members = sound.members;
    nodes = λ i n there. same_sound n (sound.nodes i n there);
  }
  stepped_sound given may can h ordered d (Moved i n m there row) =
      moved_sound given may i n m there row
  stepped_sound given may can h ordered d (Left i n there stays) = left_sound i n there
  stepped_sound given may can h ordered d (Ordered i n m front back there is row) =
      ordered_sound i n m front back there is row
  stepped_sound given may can h ordered d (Joined i n fresh there left all joins) =
      joined_sound i n fresh there left all (joins h)
  stepped_sound given may can h ordered d (Received i n donor there joining gives more viewed) =
      received_sound i n donor there joining gives more
  stepped_sound given may can h ordered d (Installed i n donor there joining gives same viewed) =
      installed_sound i n donor there joining gives viewed

  pub step_sound : (step : Step) → ActFits step.act → CanJoin c step
      → SoundCluster (most + 1) (cluster_step c step).1
  step_sound step fits can =
      stepped_sound (λ n. CanStep n step.act) (can_step step.act fits) (CanJoin c step) can
      (will_order c step) (cluster_step c step).1 (cluster_moves c step)

-- ---- runs
pub run_sound : (steps : List Step) (most : ℕ) (c : ModelCluster) → most + length steps ≤ 2 ^ 63
    → AllByRecursion (λ (s : Step). ActFits s.act) steps → CanJoinAll steps c → SoundCluster most c
    → SoundCluster (most + length steps) (run steps c).1
unfolding run
run_sound [] most c small fits can sound = subst (λ k. SoundCluster k c) (omega arith) sound
run_sound (step ∷ steps) most c small fits can sound =
    let one = cluster_step c step in
    let next = step_sound most c (omega (arith, small)) sound step fits.0 can.0 in
    subst (λ k. SoundCluster k (run steps one.1).1) (omega arith)
    (run_sound steps (most + 1) one.1 (omega (arith, small)) fits.1 can.1 next)
