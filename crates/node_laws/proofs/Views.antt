-- The views in the order of a run: the last one has the members of the nodes that have not left,
-- and a node's member is in each of them from its own until it leaves, and in no other one.
use Rattle.std.proofs.Common.{◌≡◌, ℕ, ◌+◌, ◌≤◌, ◌<◌, ◌^◌, Bool, true, false, cond, List, [], ◌∷◌, ◌++◌, length, None, Some, refl, ap, sym, subst, ◌∙◌, arith, append_assoc, append-nil, length-append, eq-eqb, true≢false}
use Rattle.std.specs.Prelude.{◌==◌, slice_get, map}
use Rattle.std.specs.List.{AllByRecursion}
use Rattle.std.proofs.lemmas.List.{length-map}
use Rattle.std.proofs.lemmas.Option.{same_Some}
use Rattle.order_event.specs.declared.event.Event.{Event}
use Rattle.order_event.specs.declared.event.Message.{Message}
use Rattle.order_event.specs.declared.step.Step.{Step}
use Rattle.order_event.specs.Spelling.{HasFewMembers, rise}
use Rattle.group_order.specs.Order.{event_of, start_order, up_to, last_view, all_but, view_without, last_member, new_member, view_with}
use Rattle.node_meaning.specs.declared.progress.Phase.{Phase}
use Rattle.node_meaning.specs.declared.progress.Phase.TheVariants as phase
use Rattle.node_meaning.specs.declared.progress.Progress.{Progress}
use Rattle.node_meaning.specs.Node.{ModelNode, is_left, is_joining, start_node}
use Rattle.node_meaning.specs.Leaving.{left_node}
use Rattle.node_meaning.specs.Joining.{joined_node, received_events, received_snapshot}
use Rattle.node_meaning.specs.Cluster.{ModelCluster, start_cluster, set_at, cluster_step, run, will_order}
use Rattle.node_laws.specs.Fits.{ActFits}
use Rattle.node_laws.specs.Joins.{CanJoin, CanJoinAll}
use Rattle.node_laws.specs.Views.{members_in, ViewHas, ViewLacks, EnteredIn, LeftIn, IsInViews, ViewsStand}
use Rattle.node_laws.proofs.Moves.{with_ordered}
use Rattle.node_laws.proofs.AdvanceMoves.{CanDrain, CanStep}
use Rattle.node_laws.proofs.Counts.{reach_grows}
use Rattle.node_laws.proofs.InStep.{phase_reached}
use Rattle.node_laws.proofs.Leaving.{left_at}
use Rattle.node_laws.proofs.SetLists.{equal, all_each}
use Rattle.node_laws.proofs.LastMember.{last_within, none_views}
use Rattle.node_laws.proofs.ClusterMoves.{Stepped, Still, Moved, Ordered, Left, Joined, Received, Installed, cluster_moves}
use Rattle.node_laws.proofs.ClusterGrowth.{Found, New, Old, found, set_count, set_there}
use Rattle.node_laws.proofs.StartSound.{starts_at, length-up_to, start_sound}
use Rattle.node_laws.proofs.ClusterLaws.{SoundCluster, step_sound}
use Rattle.node_laws.proofs.NodeViews.{all_both, last_beside, last_added, sent_few, sent_has, sent_lacks, views_grow, views_reached, views_sent}
use Rattle.node_laws.proofs.ViewLists.{is_among, but_lacks, but_other, but_fewer, but_one, but_rises, among_new, among_more, among_other, rise_push, up_to_below, up_to_rises, among_at, members_at_start, members_fewer, has_member, lacks_member, members_same, members_left, members_joined, members_count, stays_as}

-- ---- a node leaves
module _ (most : ℕ) (c : ModelCluster) (sound : SoundCluster most c) (h : ViewsStand c) (i : ℕ)
    (n : ModelNode) (there : slice_get c.nodes i ≡ Some n) where
  -- the last view has each node that has not left, and lacks each that has
  last_has : (j : ℕ) (o : ModelNode) → slice_get c.nodes j ≡ Some o
      → is_left o.at.phase ≡ false → is_among o.at.member (last_view c.order).1 ≡ true
  last_has j o at stays = h.last o.at.member ∙ has_member c.nodes j o at stays

  last_lacks : (j : ℕ) (o : ModelNode) → slice_get c.nodes j ≡ Some o
      → is_left o.at.phase ≡ true → is_among o.at.member (last_view c.order).1 ≡ false
  last_lacks j o at left =
      h.last o.at.member
      ∙ lacks_member o.at.member c.nodes (λ k x was stays same.
      let phase = same_phase j o k x at was (sound.differ k j x o was at same) in
      true≢false (sym left ∙ ap is_left phase ∙ stays))
    where
      same_phase : (j : ℕ) (o : ModelNode) (k : ℕ) (x : ModelNode) → slice_get c.nodes j ≡ Some o
          → slice_get c.nodes k ≡ Some x → k ≡ j → o.at.phase ≡ x.at.phase
      same_phase j o k x at was same =
          ap (λ (y : ModelNode). y.at.phase)
          (same_Some o x (sym at ∙ ap (slice_get c.nodes) (sym same) ∙ was))

  module _ (stays : is_left n.at.phase ≡ false) where
    abbrev left_members : List ℕ
    left_members = all_but n.at.member (last_view c.order).1

    abbrev view : List Event
    view = view_without c.order n.at.member ∷ []

    apart : (j : ℕ) (o : ModelNode) → (j ≡ i → ⊥) → slice_get c.nodes j ≡ Some o
        → o.at.member ≡ n.at.member → ⊥
    apart j o beside at same = beside (sound.differ j i o n at there same)

    -- the view has each other one that has not left, and lacks the node and each that has
    pub view_has : (j : ℕ) (o : ModelNode) → (j ≡ i → ⊥) → slice_get c.nodes j ≡ Some o
        → is_left o.at.phase ≡ false → ViewHas o.at.member (view_without c.order n.at.member)
    view_has j o beside at here =
        but_other n.at.member o.at.member (apart j o beside at) (last_view c.order).1
        ∙ last_has j o at here

    pub view_lacks : (j : ℕ) (o : ModelNode) → (j ≡ i → ⊥) → slice_get c.nodes j ≡ Some o
        → is_left o.at.phase ≡ true → ViewLacks o.at.member (view_without c.order n.at.member)
    view_lacks j o beside at left =
        but_other n.at.member o.at.member (apart j o beside at) (last_view c.order).1
        ∙ last_lacks j o at left

    abbrev m : ModelNode
    m = left_node n

    now_left : is_left m.at.phase ≡ true
    now_left = ap (λ (at : Progress). is_left at.phase) (left_at n)

    left_in : LeftIn (c.order ++ view) n.at.member n.at.view n.at.taken
    left_in =
        let e = (h.nodes i n there).stays stays in
        let long : length c.order ≡ length e.early + length e.since =
        ap length e.parts ∙ length-append e.early e.since in
        record {
          early = e.early;
          front = e.since;
          back = view;
          parts = ap (λ events. events ++ view) e.parts ∙ append_assoc e.early e.since view;
          entered = e.entered;
          fits = omega (arith, e.fits, long);
          never = e.before;
          before = e.after;
          after = (but_lacks n.at.member (last_view c.order).1, tt);
          taken_fits = omega (arith, (sound.nodes i n there).facts.in_order.taken_fits, long);
        }

    own_views : IsInViews (c.order ++ view) m
    own_views = record {
      stays = λ again. absurd (true≢false (sym now_left ∙ again));
      left = λ _. subst (λ (at : Progress). LeftIn (c.order ++ view) at.member at.view at.taken)
          (sym (left_at n)) left_in;
    }

    after_leave : (j : ℕ) (o : ModelNode) → Found c.nodes i m j o → IsInViews (c.order ++ view) o
    after_leave j o (New here is) = subst (IsInViews (c.order ++ view)) is own_views
    after_leave j o (Old beside at) =
        views_grow c.order o (h.nodes j o at) view
        (λ here. (view_has j o beside at here, tt))
        (λ left. (view_lacks j o beside at left, tt))

    -- the member is among none of both, and another one is where it was
    last_left : (member : ℕ) (b : Bool) → n.at.member == member ≡ b
        → is_among member left_members
        ≡ is_among member (all_but n.at.member (members_in c.nodes))
    last_left member true same =
        let is : n.at.member ≡ member = equal n.at.member member same in
        ap (λ k. is_among k left_members) (sym is)
        ∙ but_lacks n.at.member (last_view c.order).1
        ∙ sym (but_lacks n.at.member (members_in c.nodes))
        ∙ ap (λ k. is_among k (all_but n.at.member (members_in c.nodes))) is
    last_left member false same =
        let differs : member ≡ n.at.member → ⊥ =
        λ is. true≢false (sym (eq-eqb n.at.member member (sym is)) ∙ same) in
        but_other n.at.member member differs (last_view c.order).1 ∙ h.last member
        ∙ sym (but_other n.at.member member differs (members_in c.nodes))

    one_fewer : length left_members ≤ length (members_in (set_at c.nodes i m))
    one_fewer =
        let one = but_one n.at.member (last_view c.order).1 (last_has i n there stays) in
        let count = members_count c.nodes i n m there in
        let before : stays_as n ≡ 1 = ap (λ b. cond b 0 1) stays in
        let after : stays_as m ≡ 0 = ap (λ b. cond b 0 1) now_left in
        omega (arith, one, count, before, after, h.as_many)

    pub leave_views : ViewsStand (record { order = c.order ++ view; nodes = set_at c.nodes i m })
    leave_views =
        let last = last_added c.order (last_view c.order).0 left_members in
        record {
          last = λ member.
              ap (λ (v : ℕ × List ℕ). is_among member v.1) last
              ∙ last_left member (n.at.member == member) refl
              ∙ ap (is_among member) (sym (members_left c.nodes i n m there stays now_left
              (λ j o at same. sound.differ j i o n at there same)));
          as_many = subst (λ (v : ℕ × List ℕ). length v.1
              ≤ length (members_in (set_at c.nodes i m))) (sym last) one_fewer;
          rising = ap (λ (v : ℕ × List ℕ). rise v.1) last
              ∙ but_rises n.at.member None (last_view c.order).1 h.rising;
          few = all_both HasFewMembers c.order view h.few (
            omega (
              arith,
              but_fewer n.at.member (last_view c.order).1,
              h.as_many,
              members_fewer c.nodes,
              h.count,
            ),
            tt,
          );
          count = omega (arith, set_count c.nodes i m, h.count);
          nodes = λ j o at. after_leave j o (found c.nodes i m j o at);
        }

  -- ---- it joins
  module _ (fresh : Bool) (left : is_left n.at.phase ≡ true) where
    abbrev new : ℕ
    new = new_member c.order

    abbrev with_new : List ℕ
    with_new = (last_view c.order).1 ++ new ∷ []

    abbrev entry : List Event
    entry = view_with c.order new ∷ []

    abbrev j_node : ModelNode
    j_node = joined_node fresh new (length c.order + 1) n

    not_new : (j : ℕ) (o : ModelNode) → slice_get c.nodes j ≡ Some o → new ≡ o.at.member → ⊥
    not_new j o at same = omega (arith, (sound.nodes j o at).known, same)

    new_views : IsInViews (c.order ++ entry) j_node
    new_views = record {
      stays = λ _. record {
        early = c.order;
        since = entry;
        parts = refl;
        entered = refl;
        fits = omega (arith, length-append c.order entry);
        before = none_views c.order new (omega arith);
        after = (among_new new (last_view c.order).1, tt);
      };
      left = λ again. absurd (true≢false (sym again));
    }

    after_join : (j : ℕ) (o : ModelNode) → Found c.nodes i j_node j o
        → IsInViews (c.order ++ entry) o
    after_join j o (New here is) = subst (IsInViews (c.order ++ entry)) is new_views
    after_join j o (Old beside at) =
        views_grow c.order o (h.nodes j o at) entry
        (λ stays. (
          among_more new o.at.member (last_view c.order).1 (last_has j o at stays),
          tt,
        ))
        (λ gone. (
          among_other new o.at.member (not_new j o at) (last_view c.order).1
              ∙ last_lacks j o at gone,
          tt,
        ))

    last_joined : (member : ℕ) (b : Bool) → new == member ≡ b
        → is_among member with_new ≡ is_among member (members_in (set_at c.nodes i j_node))
    last_joined member true same =
        let is : new ≡ member = equal new member same in
        let among = has_member (set_at c.nodes i j_node) i j_node
        (set_there c.nodes i n j_node there) refl in
        ap (λ k. is_among k with_new) (sym is) ∙ among_new new (last_view c.order).1 ∙ sym among
        ∙ ap (λ k. is_among k (members_in (set_at c.nodes i j_node))) is
    last_joined member false same =
        let differs : new ≡ member → ⊥ = λ is. true≢false (sym (eq-eqb new member is) ∙ same) in
        among_other new member differs (last_view c.order).1 ∙ h.last member
        ∙ sym (members_joined member c.nodes i n j_node there left refl differs)

    below_new : AllByRecursion (λ m. m < new) (last_view c.order).1
    below_new =
        all_each (λ m. m ≤ last_member c.order) (λ m. m < new) (λ m low. omega (arith, low))
        (last_view c.order).1 (last_within c.order)

    one_more : length with_new ≤ length (members_in (set_at c.nodes i j_node))
    one_more =
        let long = length-append (last_view c.order).1 (new ∷ []) in
        let count = members_count c.nodes i n j_node there in
        let before : stays_as n ≡ 0 = ap (λ b. cond b 0 1) left in
        omega (arith, long, count, before, h.as_many)

    pub join_views
        : ViewsStand (record { order = c.order ++ entry; nodes = set_at c.nodes i j_node })
    join_views =
        let last = last_added c.order (last_view c.order).0 with_new in
        record {
          last = λ member.
              ap (λ (v : ℕ × List ℕ). is_among member v.1) last
              ∙ last_joined member (new == member) refl;
          as_many = subst (λ (v : ℕ × List ℕ). length v.1
              ≤ length (members_in (set_at c.nodes i j_node))) (sym last) one_more;
          rising = ap (λ (v : ℕ × List ℕ). rise v.1) last
              ∙ rise_push None (last_view c.order).1 new refl below_new h.rising;
          few = all_both HasFewMembers c.order entry h.few (
            omega (
              arith,
              one_more,
              members_fewer (set_at c.nodes i j_node),
              set_count c.nodes i j_node,
              h.count,
            ),
            tt,
          );
          count = omega (arith, set_count c.nodes i j_node, h.count);
          nodes = λ j o at. after_join j o (found c.nodes i j_node j o at);
        }

-- ---- every step
module _ (c : ModelCluster) (h : ViewsStand c) where
  -- a node moves over the order, which others beside it see grow by messages
  module _ (member : ℕ) (front : List Message) (i : ℕ) (n m : ModelNode)
      (there : slice_get c.nodes i ≡ Some n) (phase : is_left m.at.phase ≡ is_left n.at.phase)
      (same : m.at.member ≡ n.at.member)
      (now : IsInViews (c.order ++ map (event_of member) front) m) where
    abbrev more : List Event
    more = map (event_of member) front

    after_move : (j : ℕ) (o : ModelNode) → Found c.nodes i m j o → IsInViews (c.order ++ more) o
    after_move j o (New here is) = subst (IsInViews (c.order ++ more)) is now
    after_move j o (Old beside at) =
        views_grow c.order o (h.nodes j o at) more (λ _. sent_has member o.at.member front)
        (λ _. sent_lacks member o.at.member front)

    move_views : ViewsStand (record { order = c.order ++ more; nodes = set_at c.nodes i m })
    move_views =
        let last = last_beside c.order member front in
        let members = members_same c.nodes i n m there phase same in
        record {
          last = λ k. ap (λ (v : ℕ × List ℕ). is_among k v.1) last ∙ h.last k
              ∙ ap (is_among k) (sym members);
          as_many = omega (
            arith,
            ap (λ (v : ℕ × List ℕ). length v.1) last,
            ap (λ (ms : List ℕ). length ms) members,
            h.as_many,
          );
          rising = ap (λ (v : ℕ × List ℕ). rise v.1) last ∙ h.rising;
          few = all_both HasFewMembers c.order more h.few (sent_few member front);
          count = omega (arith, set_count c.nodes i m, h.count);
          nodes = λ j o at. after_move j o (found c.nodes i m j o at);
        }

  -- and over the same order
  place_views : (i : ℕ) (n m : ModelNode) → slice_get c.nodes i ≡ Some n
      → is_left m.at.phase ≡ is_left n.at.phase → m.at.member ≡ n.at.member → IsInViews c.order m
      → ViewsStand (record c { nodes = set_at c.nodes i m })
  place_views i n m there phase same now =
      subst (λ events. ViewsStand (record { order = events; nodes = set_at c.nodes i m }))
      (append-nil c.order)
      (move_views n.at.member [] i n m there phase same
      (subst (λ events. IsInViews events m) (sym (append-nil c.order)) now))

  joining_stays : (now : Phase) → is_joining now ≡ true → is_left now ≡ false
  joining_stays phase.Left joining = cc
  joining_stays phase.Joining joining = refl
  joining_stays phase.Connected joining = cc

  -- a node that has the state that it missed is in the views as it was
  connected_views : (i : ℕ) (n m : ModelNode) → slice_get c.nodes i ≡ Some n
      → is_joining n.at.phase ≡ true → m.at.phase ≡ phase.Connected → m.at.member ≡ n.at.member
      → m.at.view ≡ n.at.view → ViewsStand (record c { nodes = set_at c.nodes i m })
  connected_views i n m there joining connected same view =
      let stayed = joining_stays n.at.phase joining in
      let stays : is_left m.at.phase ≡ false = ap is_left connected in
      place_views i n m there (stays ∙ sym stayed) same (record {
        stays = λ _. subst (λ (a : ℕ × ℕ). EnteredIn c.order a.0 a.1)
            (λ j. (sym same j, sym view j)) ((h.nodes i n there).stays stayed);
        left = λ left. absurd (true≢false (sym left ∙ stays));
      })

  stepped_views : (most : ℕ) → SoundCluster most c → (given : ModelNode → Type 0) (can : Type 0)
      (ordered : ℕ) (d : ModelCluster) → Stepped c given can ordered d → ViewsStand d
  stepped_views most sound given can ordered d Still = h
  stepped_views most sound given can ordered d (Moved i n m there row) =
      place_views i n m there (ap is_left (phase_reached c.order (given n) true n 1 m row))
      (reach_grows c.order (given n) true n 1 m row).member
      (views_reached c.order n (h.nodes i n there) (given n) 1 m row)
  stepped_views most sound given can ordered d (Ordered i n m front back there is row) =
      let order = c.order ++ map (event_of n.at.member) front in
      let sent = with_ordered n front back in
      let drains = CanDrain order sent in
      move_views n.at.member front i n m there
      (ap is_left (phase_reached order drains true sent 0 m row))
      (reach_grows order drains true sent 0 m row).member
      (views_reached order sent (views_sent c.order n front back (h.nodes i n there)) drains 0 m
      row)
  stepped_views most sound given can ordered d (Left i n there stays) =
      leave_views most c sound h i n there stays
  stepped_views most sound given can ordered d (Joined i n fresh there left all may) =
      join_views most c sound h i n there fresh left
  stepped_views most sound given can ordered d
      (Received i n donor there joining gives past viewed) =
      connected_views i n (received_events donor.at.taken n) there joining refl refl refl
  stepped_views most sound given can ordered d
      (Installed i n donor there joining gives same viewed) =
      connected_views i n (received_snapshot donor.at.committed donor.id n) there joining refl refl
      refl

  pub step_views : (most : ℕ) → SoundCluster most c → (step : Step)
      → ViewsStand (cluster_step c step).1
  step_views most sound step =
      stepped_views most sound (λ n. CanStep n step.act) (CanJoin c step) (will_order c step)
      (cluster_step c step).1 (cluster_moves c step)

-- ---- runs
pub run_views : (steps : List Step) (most : ℕ) (c : ModelCluster) → most + length steps ≤ 2 ^ 63
    → AllByRecursion (λ (s : Step). ActFits s.act) steps → CanJoinAll steps c → SoundCluster most c
    → ViewsStand c → ViewsStand (run steps c).1
unfolding run
run_views [] most c small fits can sound h = h
run_views (step ∷ steps) most c small fits can sound h =
    let one = cluster_step c step in
    let next = step_sound most c (omega (arith, small)) sound step fits.0 can.0 in
    run_views steps (most + 1) one.1 (omega (arith, small)) fits.1 can.1 next
    (step_views c h most sound step)

pub start_views : (nodes gcache : ℕ) (id : List ℕ) → nodes < 2 ^ 32
    → ViewsStand (start_cluster nodes gcache id)
unfolding start_cluster
start_views nodes gcache id small =
    let long = length-up_to nodes in
    let members = members_at_start gcache id (up_to nodes) in
    record {
      last = λ member. ap (is_among member) (sym members);
      as_many = omega (arith, ap (λ (ms : List ℕ). length ms) members);
      rising = up_to_rises nodes;
      few = (omega (arith, long, small), tt);
      count = omega (arith, length-map (up_to nodes) (start_node gcache id), long, small);
      nodes = λ i n there.
          let at = starts_at gcache id (up_to nodes) i n there in
          subst (IsInViews (start_order nodes)) at.is (record {
            stays = λ _. record {
              early = [];
              since = start_order nodes;
              parts = refl;
              entered = refl;
              fits = omega arith;
              before = tt;
              after = (among_at (up_to nodes) i at.member at.there, tt);
            };
            left = λ left. absurd (true≢false (sym left));
          });
    }

-- of every run from a start
pub views_stand : (nodes gcache : ℕ) (id : List ℕ) (steps : List Step) → nodes < 2 ^ 32
    → length steps < 2 ^ 63 → AllByRecursion (λ (s : Step). ActFits s.act) steps
    → CanJoinAll steps (start_cluster nodes gcache id)
    → ViewsStand (run steps (start_cluster nodes gcache id)).1
views_stand nodes gcache id steps few short fits can =
    run_views steps 1 (start_cluster nodes gcache id) (omega (arith, short)) fits can
    (start_sound nodes gcache id (up_to_below nodes (2 ^ 32) few)) (start_views nodes gcache id few)
