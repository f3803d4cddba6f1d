-- A step of a cluster is something that happens in the course of each of its nodes: a step of its
-- own, or what another node orders, which is of none of the members that it is or was.
use Rattle.std.proofs.Common.{◌≡◌, ℕ, zero, suc, ◌+◌, ◌-◌, ◌≤◌, ◌<◌, ◌^◌, Bool, true, List, [], ◌∷◌, ◌++◌, length, Option, Some, None, refl, ap, sym, ◌∙◌, arith, append-nil, ltb-false, inl, inr}
use Rattle.std.specs.Prelude.{◌==◌, not, nat_lt, map, slice_get}
use Rattle.std.specs.List.{AllByRecursion, filter_map}
use Rattle.std.proofs.lemmas.Bool.{cases_eq, cond_both, not-false}
use Rattle.std.proofs.lemmas.Option.{same_Some}
use Rattle.order_event.specs.declared.event.Event.{Event}
use Rattle.order_event.specs.declared.event.Message.{Message}
use Rattle.order_event.specs.declared.event.Message.TheVariants as message
use Rattle.order_event.specs.declared.step.Act.{Act}
use Rattle.order_event.specs.declared.step.Act.TheVariants as act
use Rattle.order_event.specs.declared.step.Step.{Step}
use Rattle.order_event.specs.declared.step.Answer.{Answer}
use Rattle.group_order.specs.Order.{event_of, view_without, view_with, new_member, last_view}
use Rattle.state_transfer.specs.declared.transfer.Plan.{Plan}
use Rattle.state_transfer.specs.declared.transfer.Plan.TheVariants as plan
use Rattle.node_meaning.specs.Node.{ModelNode, is_left, is_joining, is_connected}
use Rattle.node_meaning.specs.declared.progress.Progress.{Progress}
use Rattle.node_meaning.specs.Facts.{Facts}
use Rattle.node_meaning.specs.Steps.{first_sent, sent_out, node_step, drained}
use Rattle.node_meaning.specs.Joining.{joined_node, received_events, received_snapshot, transfer_from, transfer_plan, by_plan}
use Rattle.node_meaning.specs.Cluster.{ModelCluster, set_at, order_first, step_of, step_at, cluster_step, join_now}
use Rattle.node_meaning.specs.Leaving.{left_node}
use Rattle.node_laws.specs.Fits.{ActFits}
use Rattle.node_laws.specs.InStep.{message_of}
use Rattle.node_laws.proofs.Moves.{with_ordered}
use Rattle.node_laws.proofs.AdvanceMoves.{CanDrain, CanStep, step_moves, drained_moves}
use Rattle.node_laws.proofs.Counts.{reach_grows}
use Rattle.node_laws.proofs.Leaving.{left_at}
use Rattle.node_laws.proofs.SetLists.{unequal, all_each}
use Rattle.node_laws.proofs.ClusterGrowth.{set_there}
use Rattle.node_laws.proofs.Sound.{SoundCluster}
use Rattle.node_laws.proofs.ViewLists.{among_other}
use Rattle.course_laws.specs.Courses.{Happens, Others, Does, Takes, Installs, first_event, next, IsOfOthers, AreOfOthers, Fits}
use Rattle.course_laws.specs.Laws.{IsViewed, FormerLaws}
use Rattle.course_laws.specs.Kept.{CourseKept}
use Rattle.course_laws.specs.RunLaws.{at_node, MembersFit}
use Rattle.course_laws.proofs.Growing.{AreSilent}
use Rattle.course_laws.proofs.Newcoming.{none_first}
use Rattle.course_laws.proofs.Viewed.{without_other}
use Rattle.course_laws.proofs.CourseSteps.{AreOut, all_two}

-- ---- one node takes another's place
pub set_here : (xs : List ModelNode) (i : ℕ) (n a : ModelNode) → slice_get xs i ≡ Some n
    → slice_get (set_at xs i a) i ≡ Some a
set_here xs i n a there = set_there xs i n a there

set_beside : (xs : List ModelNode) (j i : ℕ) (a : ModelNode) → (j ≡ i → ⊥)
    → slice_get (set_at xs j a) i ≡ slice_get xs i
set_beside [] j i a differ = refl
set_beside (x ∷ xs) zero zero a differ = absurd (differ refl)
set_beside (x ∷ xs) zero (suc i) a differ = refl
set_beside (x ∷ xs) (suc j) zero a differ = refl
set_beside (x ∷ xs) (suc j) (suc i) a differ =
    set_beside xs j i a (λ same. differ (ap suc same))

-- a list in which nothing is of a member
pub silent_from : (m : ℕ) (es : List Event) → filter_map (message_of m) es ≡ [] → AreSilent m es
silent_from m [] none = tt
silent_from m (e ∷ es) none =
    let both = none_first (message_of m e) (filter_map (message_of m) es) none in
    (both.0, silent_from m es both.1)

-- ---- a step, for the node at a place
-- it is the member that it was, or the new one
pub data Turns (order : List Event) (n : ModelNode) (former : List ℕ) (node : ModelNode)
    (now : List ℕ) : Type 0 where
  Remains : node.at.member ≡ n.at.member → now ≡ former → Turns order n former node now
  Renews : node.at.member ≡ new_member order → now ≡ n.at.member ∷ former
      → Turns order n former node now

pub record StepOf (c d : ModelCluster) (i : ℕ) (n : ModelNode) (former : List ℕ) : Type 0 where
  pub happens : Happens
  pub fits : Fits (at_node c.order n former) happens
  pub node : ModelNode
  pub now : List ℕ
  pub there : slice_get d.nodes i ≡ Some node
  pub turns : Turns c.order n former node now
  pub leads : next (at_node c.order n former) happens ≡ at_node d.order node now

-- messages of another member
sent_of_others : (member k : ℕ) (left : Bool) → (member ≡ k → ⊥) → (xs : List Message)
    → AllByRecursion (IsOfOthers k left) (map (event_of member) xs)
sent_of_others member k left other [] = tt
sent_of_others member k left other (message.Write body ∷ xs) =
    (unequal member k other, sent_of_others member k left other xs)
sent_of_others member k left other (message.Report number ∷ xs) =
    (unequal member k other, sent_of_others member k left other xs)

module _ (most : ℕ) (c : ModelCluster) (sound : SoundCluster most c) (i : ℕ) (n : ModelNode)
    (there : slice_get c.nodes i ≡ Some n) (former : List ℕ)
    (h : CourseKept most (at_node c.order n former)) where
  abbrev Goes : Answer × ModelCluster → Type 0
  Goes done = StepOf c done.1 i n former

  -- others order events, and the node is as it was
  others : (d : ModelCluster) (events : List Event) → AreOfOthers (at_node c.order n former) events
      → slice_get d.nodes i ≡ Some n → d.order ≡ c.order ++ events → StepOf c d i n former
  others d events fits now order = record {
    happens = Others events;
    fits = fits;
    node = n;
    now = former;
    there = now;
    turns = Remains refl refl;
    leads = ap (λ o. at_node o n former) (sym order);
  }

  rests : (d : ModelCluster) → slice_get d.nodes i ≡ Some n → d.order ≡ c.order
      → StepOf c d i n former
  rests d now order =
      others d [] (tt, all_each (FormerLaws c.order) (AreOut []) (λ _ _. tt) former h.former) now
      (order ∙ sym (append-nil c.order))

  -- nothing
  still : StepOf c c i n former
  still = rests c there refl

  -- ---- its own
  -- as the same member
  does_so : (order : List Event) (x : Happens) (m : ModelNode)
      → Fits (at_node c.order n former) x → m.at.member ≡ n.at.member
      → next (at_node c.order n former) x ≡ at_node order m former
      → StepOf c (record { order = order; nodes = set_at c.nodes i m }) i n former
  does_so order x m fits same leads = record {
    happens = x;
    fits = fits;
    node = m;
    now = former;
    there = set_here c.nodes i n m there;
    turns = Remains same refl;
    leads = leads;
  }

  first_by : (queue : List Message) → n.outbox ≡ queue → Goes (order_first c i n queue)
  first_by [] is = still
  first_by (m ∷ ms) is =
      does_so (c.order ++ event_of n.at.member m ∷ []) (Does act.Order) (sent_out n) tt
      (ap (λ queue. (first_sent n queue).at.member) is)
      (ap (λ queue. at_node (c.order ++ first_event n queue) (sent_out n) former) is)

  -- it joins
  joins : (fresh : Bool) → is_left n.at.phase ≡ true → n.at.taken == n.at.committed ≡ true
      → (is_left n.at.phase ≡ true → n.at.taken ≡ n.at.committed → new_member c.order < 2 ^ 32)
      → Goes (join_now fresh c i n)
  joins fresh left all small =
      let m = joined_node fresh (new_member c.order) (length c.order + 1) n in record {
        happens = Does (act.Join fresh);
        fits = λ gone drained. (
          small gone drained,
          silent_from (new_member c.order) c.order
              (sound.knows (new_member c.order) (omega arith)),
        );
        node = m;
        now = n.at.member ∷ former;
        there = set_here c.nodes i n m there;
        turns = Renews refl refl;
        leads = rw (left, all);
      }

  -- it takes what it misses
  module _ (joining : is_joining n.at.phase ≡ true) where
    abbrev Placed : Answer × ModelNode → Type 0
    Placed done = StepOf c (record c { nodes = set_at c.nodes i done.1 }) i n former

    as_it_was : StepOf c (record c { nodes = set_at c.nodes i n }) i n former
    as_it_was = rests _ (set_here c.nodes i n n there) refl

    plan_by : (donor : ModelNode) → Facts c.order donor → (by : Plan)
        → n.at.view ≤ donor.at.taken → Placed (by_plan n donor by)
    plan_by donor f (plan.Ist from) up =
        does_so c.order (Takes donor.at.taken) (received_events donor.at.taken n)
        (joining, up, f.in_order.taken_fits) refl refl
    plan_by donor f plan.Sst up =
        let o = f.in_order in
        cond_both (not (donor.at.certified == donor.at.committed)) _ _ Placed (λ _. as_it_was)
        (λ _. cond_both (nat_lt donor.at.committed n.at.view) _ _ Placed (λ _. as_it_was)
        (λ behind. does_so c.order (Installs donor.at.committed donor.id)
        (received_snapshot donor.at.committed donor.id n) (
          joining,
          ltb-false donor.at.committed n.at.view behind,
          omega (arith, o.committed_fits, o.certified_fits, o.taken_fits),
        ) refl refl))

    from_by : (place : ℕ) (o : Option ModelNode) → slice_get c.nodes place ≡ o
        → Placed (transfer_from c.order n o)
    from_by place None at = as_it_was
    from_by place (Some donor) at =
        cond_both (not (is_connected donor.at.phase)) _ _ Placed (λ _. as_it_was)
        (λ _. cond_both (nat_lt donor.at.taken n.at.view) _ _ Placed (λ _. as_it_was)
        (λ behind. plan_by donor (sound.nodes place donor at).facts
        (transfer_plan c.order n donor) (ltb-false donor.at.taken n.at.view behind)))

  own_step : (a : Act) → ActFits a → ((fresh : Bool) → a ≡ act.Join fresh
      → is_left n.at.phase ≡ true → n.at.taken ≡ n.at.committed → new_member c.order < 2 ^ 32)
      → Goes (step_of c i n a)
  own_step act.Order fits small = first_by n.outbox refl
  own_step act.Drain fits small =
      let order = c.order ++ map (event_of n.at.member) n.outbox in
      let sent = with_ordered n n.outbox [] in
      let can = CanDrain order sent in
      does_so order (Does act.Drain) (drained order sent) tt
      (reach_grows order can true sent 0 (drained order sent)
      (drained_moves order can sent (λ g. g))).member refl
  own_step act.Leave fits small =
      cond_both (is_left n.at.phase) _ _ Goes (λ _. still) (λ here.
      does_so _ (Does act.Leave) (left_node n) tt (ap (λ (at : Progress). at.member) (left_at n))
      (rw here))
  own_step (act.Join fresh) fits small =
      cond_both (not (is_left n.at.phase)) _ _ Goes (λ _. still) (λ here.
      cond_both (n.at.taken == n.at.committed) _ _ Goes
      (λ all. joins fresh (not-false _ here) all (small fresh refl)) (λ _. still))
  own_step (act.Transfer donor) fits small =
      cond_both (is_joining n.at.phase) _ _ Goes
      (λ joining. from_by joining (donor - 1) (slice_get c.nodes (donor - 1)) refl) (λ _. still)
  own_step a fits small =
      does_so c.order (Does a) (node_step c.order n a).1 fits
      (reach_grows c.order (CanStep n a) true n 1 _ (step_moves c.order n a)).member refl

  -- ---- another node's
  module _ (j : ℕ) (m : ModelNode) (beside : j ≡ i → ⊥)
      (differs : m.at.member ≡ n.at.member → ⊥)
      (apart : AllByRecursion (λ k. m.at.member ≡ k → ⊥) former) where
    moves : (o : ModelNode) → StepOf c (record c { nodes = set_at c.nodes j o }) i n former
    moves o = rests _ (set_beside c.nodes j i o beside ∙ there) refl

    -- it orders events that are of no other member that there is
    abbrev AreBeside : List Event → Type 0
    AreBeside events = (k : ℕ) (left : Bool) → (m.at.member ≡ k → ⊥) → k < new_member c.order
        → IsViewed c.order k left → AllByRecursion (IsOfOthers k left) events

    orders : (events : List Event) (o : ModelNode) → AreBeside events
        → StepOf c (record { order = c.order ++ events; nodes = set_at c.nodes j o }) i n former
    orders events o each =
        let known : n.at.member < new_member c.order = omega (arith, h.known) in
        others _ events (
          each n.at.member (is_left n.at.phase) differs known h.viewed,
          all_two (λ k. m.at.member ≡ k → ⊥) (λ k. (m.at.member ≡ k → ⊥) → AreOut events k)
              (AreOut events) (λ k other out. out other) former apart
              (all_two (λ k. k < n.at.member) (FormerLaws c.order)
              (λ k. (m.at.member ≡ k → ⊥) → AreOut events k)
              (λ k below laws other. each k true other (omega (arith, below, known)) laws.viewed)
              former h.below h.former),
        )
        (set_beside c.nodes j i o beside ∙ there) refl

    sends : (xs : List Message) → AreBeside (map (event_of m.at.member) xs)
    sends xs k left other below viewed = sent_of_others m.at.member k left other xs

    first_beside : (queue : List Message) → Goes (order_first c j m queue)
    first_beside [] = still
    first_beside (x ∷ xs) =
        orders (event_of m.at.member x ∷ []) (sent_out m) (sends (x ∷ []))

    other_step : (a : Act) → Goes (step_of c j m a)
    other_step act.Order = first_beside m.outbox
    other_step act.Drain = orders (map (event_of m.at.member) m.outbox)
        (drained (c.order ++ map (event_of m.at.member) m.outbox) (with_ordered m m.outbox []))
        (sends m.outbox)
    -- its view has whom the last one had, but for its own member
    other_step act.Leave =
        cond_both (is_left m.at.phase) _ _ Goes (λ _. still) (λ _.
        orders (view_without c.order m.at.member ∷ []) (left_node m) (λ k left other below viewed.
        (without_other k m.at.member (last_view c.order).1 other ∙ viewed, tt)))
    -- or the new one beside them
    other_step (act.Join fresh) =
        cond_both (not (is_left m.at.phase)) _ _ Goes (λ _. still) (λ _.
        cond_both (m.at.taken == m.at.committed) _ _ Goes (λ _.
        orders (view_with c.order (new_member c.order) ∷ []) _ (λ k left other below viewed. (
          among_other (new_member c.order) k (λ same. omega (arith, same, below))
              (last_view c.order).1 ∙ viewed,
          tt,
        ))) (λ _. still))
    other_step (act.Transfer donor) =
        cond_both (is_joining m.at.phase) _ _ Goes
        (λ _. moves (transfer_from c.order m (slice_get c.nodes (donor - 1))).1) (λ _. still)
    other_step a = moves (node_step c.order m a).1

  -- ---- either
  module _ (apart : (j : ℕ) (m : ModelNode) → slice_get c.nodes j ≡ Some m → (j ≡ i → ⊥)
      → AllByRecursion (λ k. m.at.member ≡ k → ⊥) former) where
    abbrev Small : ℕ → Act → Type 0
    Small j a = (fresh : Bool) (m : ModelNode) → a ≡ act.Join fresh → slice_get c.nodes j ≡ Some m
        → is_left m.at.phase ≡ true → m.at.taken ≡ m.at.committed → new_member c.order < 2 ^ 32

    step_by : (j : ℕ) (o : Option ModelNode) (a : Act) → ActFits a → Small j a
        → slice_get c.nodes j ≡ o → Goes (step_at c j o a)
    step_by j None a fits small at = still
    step_by j (Some m) a fits small at =
        elim (cases_eq j i) [
          | inl here ↦
              let is : n ≡ m = same_Some n m (sym there ∙ ap (slice_get c.nodes) (sym here) ∙ at) in
              rw (here, ← is) (own_step a fits
              (λ fresh joins. small fresh n joins (ap (slice_get c.nodes) here ∙ there)))
          | inr beside ↦
              other_step j m beside (λ one. beside (sound.differ j i m n at there one))
              (apart j m at beside) a
        ]

    pub cluster_step_of : (step : Step) → ActFits step.act → MembersFit c step
        → StepOf c (cluster_step c step).1 i n former
    unfolding cluster_step
    cluster_step_of step fits small =
        step_by (step.node - 1) (slice_get c.nodes (step.node - 1)) step.act fits small refl
